use Rattle.std.proofs.Common.{◌≡◌, ◌++◌}
use Rattle.transfer_codings.specs.Base64.{base64_lines}
use Rattle.transfer_codings.proofs.base64_text.push_lines.Given as goal

abbrev pub invariant-loop-number : goal.invariant-loop-number
invariant-loop-number l = l.text.items ≡ l.initial.text.items ++ base64_lines l.bytes l.first l.number
