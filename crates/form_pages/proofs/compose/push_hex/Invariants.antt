use Rattle.std.proofs.Common.{◌≡◌, ◌++◌, ◌/◌, ◌*◌, ◌-◌}
use Rattle.std.specs.Prelude.{◌^◌, string_bytes}
use Rattle.compose_drafts.specs.Message.{hex_digits}
use Rattle.form_pages.proofs.compose.push_hex.Given as goal

abbrev pub invariant-loop-place : goal.invariant-loop-place
invariant-loop-place l = string_bytes l.text ≡ string_bytes l.initial.text ++ hex_digits l.place (l.number / 2 ^ (64 - 4 * l.place))
