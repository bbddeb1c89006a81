use Rattle.std.proofs.Common.{◌≡◌, false, true, drop, arith, sym, ap, ◌∙◌}
use Rattle.std.proofs.lemmas.List.{take_rest}
use Rattle.style_rules.proofs.TextSteps.{ends_comment, comment_ends, comment_goes_on, comment_unclosed}
use Rattle.style_rules.proofs.comments.comment_rest.Goals as goal

pub returns-then-starts_with-clause-equals : goal.returns-then-starts_with-clause-equals
returns-then-starts_with-clause-equals c =
    let here : ends_comment (drop c.loop-size.size c.args.text.now) ≡ true = ap ends_comment (sym (take_rest c.args.text.now c.loop-size.size)) ∙ sym c.if-starts_with.ensures.value in
    let e = comment_ends c.args.text.now c.loop-size.size c.loop-size-test.true here in
    omega (arith, e, c.loop-size.invariant.equals)

pub loop-size-preserved : goal.loop-size-preserved
loop-size-preserved c =
    let here : ends_comment (drop c.loop-size.size c.args.text.now) ≡ false = ap ends_comment (sym (take_rest c.args.text.now c.loop-size.size)) ∙ sym c.if-starts_with.ensures.value in
    let e = comment_goes_on c.args.text.now c.loop-size.size c.loop-size-test.true here in
    record { equals = omega (arith, e, c.loop-size.invariant.equals); within = omega arith }

pub returns-clause-equals : goal.returns-clause-equals
returns-clause-equals c = omega (arith, comment_unclosed c.args.text.now c.loop-size.size c.loop-size-test.false, c.loop-size.invariant.equals)
