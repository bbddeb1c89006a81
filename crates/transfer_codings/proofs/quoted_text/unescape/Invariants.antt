use Rattle.std.proofs.Common.{◌≡◌, ◌++◌, ◌+◌, ◌≤◌, length, take}
use Rattle.transfer_codings.specs.Quoted.{unescaped}
use Rattle.transfer_codings.proofs.quoted_text.unescape.Given as goal

abbrev pub invariant-loop-rest : goal.invariant-loop-rest
invariant-loop-rest l =
    record { written : take l.size l.bytes ++ unescaped l.rest ≡ take l.start l.fn.bytes ++ unescaped l.text; room : l.size + length l.rest ≤ l.start + length l.text }

abbrev pub decreases-loop-rest : goal.decreases-loop-rest
decreases-loop-rest l = length l.rest
