use Rattle.std.proofs.Common.{Option, drop, subst}
use Rattle.html_tokens.specs.Stepping.{IsNextStep, IsStepTo}
use Rattle.html_tokens.specs.declared.step.Step.{Step}
use Rattle.html_tokens.proofs.StepRuns.{moved_to, same_span}
use Rattle.html_tokens.proofs.step.step_in_text.Goals as goal

pub returns-in-Some : goal.returns-in-Some
returns-in-Some c =
    let rest = drop c.args.at c.args.text.now in
    let e = c.shift.ensures in
    let steps : IsStepTo rest c.args.mode c.in-Some.step = subst (λ (o : Option Step). IsNextStep rest c.args.mode o) c.in-Some.is c.requires.steps in
    moved_to c.args.text.now c.args.at c.args.mode c.in-Some.step c.shift.result c.utf8.text c.requires.boundary steps (same_span c.shift.result _ _ _ e.start e.end e.part)
