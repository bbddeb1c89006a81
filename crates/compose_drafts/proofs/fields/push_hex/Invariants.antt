use Rattle.std.proofs.Common.{◌≡◌, ◌++◌, ◌/◌, ◌*◌, ◌-◌}
use Rattle.std.specs.Prelude.{◌^◌}
use Rattle.compose_drafts.specs.Message.{hex_digits}
use Rattle.compose_drafts.proofs.fields.push_hex.Given as goal

abbrev pub invariant-loop-place : goal.invariant-loop-place
invariant-loop-place l = l.out.items ≡ l.initial.out.items ++ hex_digits l.place (l.number / 2 ^ (64 - 4 * l.place))
