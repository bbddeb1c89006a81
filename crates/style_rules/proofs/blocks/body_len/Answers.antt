use Rattle.std.proofs.Common.{◌≡◌, ℕ, ◌==◌, ◌&&◌, false, get_or, arith}
use Rattle.std.proofs.lemmas.Bool.Decides.{nat_tests}
use Rattle.std.proofs.Common.{◌∙◌, ap, sym, drop, ◌+◌}
use Rattle.std.specs.Option.{option_map}
use Rattle.style_rules.specs.Blocks.{body_len, is_right_brace}
use Rattle.style_rules.proofs.TextSteps.{body_closes, body_goes_on, body_unclosed}
use Rattle.style_rules.proofs.blocks.body_len.Goals as goal
use Rattle.style_rules.proofs.blocks.body_len.Goals.{else-c-eq125-via-then-c-eq125+else-depth-eq0, else-c-eq125-via-else-c-eq125}

pub returns-then-depth-eq0-clause-equals : goal.returns-then-depth-eq0-clause-equals
returns-then-depth-eq0-clause-equals c =
    body_closes c.args.text.now c.loop-i.i c.loop-i.depth c.loop-i-test.true (grind (arith, nat_tests)) c.loop-i.invariant.equals

pub loop-i-preserved : goal.loop-i-preserved
loop-i-preserved c =
    let text = c.args.text.now in
    let i = c.loop-i.i in
    let depth = c.loop-i.depth in
    let other : (is_right_brace (get_or text i 0) && (depth == 0)) ≡ false =
    elim c.else-c-eq125.branch [
      | else-c-eq125-via-then-c-eq125+else-depth-eq0 w ↦ grind (arith, nat_tests)
      | else-c-eq125-via-else-c-eq125 w ↦ grind (arith, nat_tests)
    ] in
    record {
      equals = body_goes_on text i depth c.loop-i-test.true other c.loop-i.invariant.equals
          ∙ ap (λ (d : ℕ). option_map (λ n. (i + 1) + n) (body_len d (drop (i + 1) text))) (sym c.depth_after-depth.ensures.equals);
      few = omega (arith, c.loop-i.invariant.few, c.depth_after-depth.ensures.grows);
    }

pub returns-clause-equals : goal.returns-clause-equals
returns-clause-equals c = body_unclosed c.args.text.now c.loop-i.i c.loop-i.depth c.loop-i-test.false c.loop-i.invariant.equals
