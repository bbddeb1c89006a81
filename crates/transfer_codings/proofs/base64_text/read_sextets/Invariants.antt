use Rattle.std.proofs.Common.{◌≡◌, ◌++◌, ◌+◌, ◌*◌, ◌≤◌, length, take}
use Rattle.transfer_codings.specs.Base64.{bytes_of, sextets}
use Rattle.transfer_codings.proofs.base64_text.read_sextets.Given as goal

abbrev pub invariant-loop-a : goal.invariant-loop-a
invariant-loop-a l =
    record { written : take l.size l.bytes ++ bytes_of (sextets l.rest) ≡ bytes_of (sextets l.text); room : 4 * l.size + 3 * length l.rest ≤ 3 * length l.text }

abbrev pub decreases-loop-a : goal.decreases-loop-a
decreases-loop-a l = length l.rest
