use Rattle.std.proofs.Common.{◌≡◌, ◌++◌, length}
use Rattle.transfer_codings.specs.QuotedRows.{quoted_text}
use Rattle.transfer_codings.proofs.quoted_rows.encode_quoted.Given as goal

abbrev pub invariant-loop-line : goal.invariant-loop-line
invariant-loop-line l = l.text.items ++ quoted_text l.rest ≡ quoted_text l.bytes

abbrev pub decreases-loop-line : goal.decreases-loop-line
decreases-loop-line l = length l.rest
