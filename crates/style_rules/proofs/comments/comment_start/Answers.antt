use Rattle.std.proofs.Common.{◌≡◌, drop, arith, sym, ap, ◌∙◌}
use Rattle.std.proofs.lemmas.List.{take_rest}
use Rattle.style_rules.specs.Blocks.{comment_len}
use Rattle.style_rules.proofs.TextSteps.{spaced_character}
use Rattle.style_rules.proofs.comments.comment_start.Goals as goal

pub loop-at-preserved : goal.loop-at-preserved
loop-at-preserved c =
    let text = c.args.text.now in
    let at = c.loop-at.at in
    let size : comment_len (drop at text) ≡ c.comment_len.result = ap comment_len (sym (take_rest text at)) ∙ sym c.comment_len.ensures.equals in
    let none : comment_len (drop at text) ≡ 0 = omega arith in
    record {
      whole = spaced_character text at c.loop-at-test.true none c.loop-at.invariant.whole;
      within = omega arith;
    }
