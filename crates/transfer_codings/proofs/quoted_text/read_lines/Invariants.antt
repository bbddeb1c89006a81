use Rattle.std.proofs.Common.{◌≡◌, ◌++◌, ◌+◌, ◌≤◌, length, take}
use Rattle.transfer_codings.specs.Quoted.{quoted_bytes}
use Rattle.transfer_codings.proofs.quoted_text.read_lines.Given as goal

abbrev pub invariant-loop-line : goal.invariant-loop-line
invariant-loop-line l =
    record { written : take l.size l.bytes ++ quoted_bytes l.rest ≡ quoted_bytes l.text; room : l.size + length l.rest ≤ length l.text }

abbrev pub decreases-loop-line : goal.decreases-loop-line
decreases-loop-line l = length l.rest
