use Rattle.std.proofs.Common.{◌+◌, ◌∙◌, ap, arith, length}
use Rattle.std.proofs.lemmas.List.{length-take-le}
use Rattle.std.specs.Option.{option_copied}
use Rattle.mime_tree.proofs.BestLemmas.{given_here, given_inside, given_none, given_end}
use Rattle.mime_tree.proofs.choice.leaf_to_show.Goals as goal

pub returns-in_err-taken : goal.returns-in_err-taken
returns-in_err-taken c = ap option_copied c.from_residual.ensures ∙ given_none c.args.tree.now c.loop-step.around.now c.loop-step._step _ c.loop-step-test.true c.in_err-taken.ensures c.loop-step.invariant.leaf

pub returns-then-numbers-size : goal.returns-then-numbers-size
returns-then-numbers-size c = given_here c.args.tree.now c.loop-step.around.now c.numbers-numbers.result.now c.loop-step._step c.in_ok-taken.taken.now _ c.loop-step-test.true c.in_ok-taken.ensures (c.numbers-numbers.ensures.equals ∙ c.section.ensures) c.if-numbers-size.true c.loop-step.invariant.leaf

pub loop-step-preserved : goal.loop-step-preserved
loop-step-preserved c = record {
  short = omega (arith, length-take-le (length c.loop-step.around.now + 1) c.numbers-numbers.result.now (omega arith));
  leaf = given_inside c.args.tree.now c.loop-step.around.now c.numbers-numbers.result.now c.loop-step._step c.in_ok-taken.taken.now _ c.loop-step-test.true c.in_ok-taken.ensures (c.numbers-numbers.ensures.equals ∙ c.section.ensures) c.if-numbers-size.false c.loop-step.invariant.leaf;
}

pub returns : goal.returns
returns c = given_end c.args.tree.now c.loop-step.around.now c.loop-step._step _ c.loop-step-test.false c.loop-step.invariant.leaf
