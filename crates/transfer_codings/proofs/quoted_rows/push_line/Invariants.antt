use Rattle.std.proofs.Common.{◌≡◌, ◌++◌, ◌≤◌, length}
use Rattle.transfer_codings.specs.QuotedRows.{rest_of_line}
use Rattle.transfer_codings.proofs.quoted_rows.push_line.Given as goal

abbrev pub invariant-loop-rest : goal.invariant-loop-rest
invariant-loop-rest l =
    record { written : l.text.items ++ rest_of_line l.column l.rest ≡ l.fn.text.items ++ rest_of_line 0 l.line; in_row : l.column ≤ 76 }

abbrev pub decreases-loop-rest : goal.decreases-loop-rest
decreases-loop-rest l = length l.rest
