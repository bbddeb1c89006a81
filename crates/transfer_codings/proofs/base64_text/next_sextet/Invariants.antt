use Rattle.std.proofs.Common.{◌≡◌, drop}
use Rattle.transfer_codings.specs.Base64.{sextets}
use Rattle.transfer_codings.proofs.base64_text.next_sextet.Given as goal

abbrev pub invariant-loop-i : goal.invariant-loop-i
invariant-loop-i l = sextets l.text ≡ sextets (drop l.i l.text)
