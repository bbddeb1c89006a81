use Rattle.std.proofs.Common.{◌≡◌, ◌*◌, min}
use Rattle.transfer_codings.specs.Base64.{base64_lines}
use Rattle.transfer_codings.proofs.base64_text.encode_base64.Given as goal

abbrev pub invariant-loop-block : goal.invariant-loop-block
invariant-loop-block l = l.text.items ≡ base64_lines l.bytes 0 (min (16 * l.block) l.count)
