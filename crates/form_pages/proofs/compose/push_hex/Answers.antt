use Rattle.std.proofs.Common.{[], ◌∷◌, ◌++◌, ap, ◌∙◌, arith}
use Rattle.std.specs.Prelude.{string_bytes}
use Rattle.std.proofs.lemmas.Str.{encode_ascii}
use Rattle.compose_drafts.proofs.Steps.{hex_done, hex_next, hex_none}
use Rattle.form_pages.proofs.compose.push_hex.Goals as goal

pub loop-place-init : goal.loop-place-init
loop-place-init c = hex_none (string_bytes c.args.text.now) _

pub loop-place-preserved : goal.loop-place-preserved
loop-place-preserved c =
    hex_next (string_bytes c.args.text.now) (string_bytes c.loop-place.text) (string_bytes c.push.new.self) c.args.number c.loop-place.place c.loop-place-test.true c.loop-place.invariant
    (c.in_ok-push.ensures.bytes ∙ ap (λ d. string_bytes c.loop-place.text ++ d) (encode_ascii c.hex_digit.result c.hex_digit.ensures.ascii) ∙ ap (λ d. string_bytes c.loop-place.text ++ d ∷ []) c.hex_digit.ensures.equals)

pub returns : goal.returns
returns c = hex_done (string_bytes c.args.text.now) (string_bytes c.loop-place.text) c.args.number c.loop-place.place (omega (arith, c.loop-place.auto.place-end, c.loop-place-test.false)) c.loop-place.invariant
