use Rattle.std.proofs.Common.{[], ◌∷◌, ◌++◌, ap, ◌∙◌, arith}
use Rattle.compose_drafts.proofs.Steps.{hex_done, hex_next, hex_none}
use Rattle.compose_drafts.proofs.fields.push_hex.Goals as goal

pub loop-place-init : goal.loop-place-init
loop-place-init c = hex_none c.args.out.now.items _

pub loop-place-preserved : goal.loop-place-preserved
loop-place-preserved c =
    hex_next c.args.out.now.items c.loop-place.out.items c.push.new.self.items c.args.number c.loop-place.place c.loop-place-test.true c.loop-place.invariant
    (c.in_ok-push.ensures.items ∙ ap (λ d. c.loop-place.out.items ++ d ∷ []) c.hex_digit.ensures)

pub returns : goal.returns
returns c = hex_done c.args.out.now.items c.loop-place.out.items c.args.number c.loop-place.place (omega (arith, c.loop-place.auto.place-end, c.loop-place-test.false)) c.loop-place.invariant
