use Rattle.std.proofs.Common.{◌∙◌}
use Rattle.std.proofs.lemmas.List.{drop_all}
use Rattle.submission.proofs.Following.{leads_on, leads_fault, leads_end, err_followed}
use Rattle.submission.proofs.submitting.follow.Goals as goal

pub loop-step-preserved : goal.loop-step-preserved
loop-step-preserved g c = record {
  leads = leads_on _ _ _ c.args.steps.now c.loop-step.step-index _ c.args.inbox.now c.loop-step.inbox c.take_step.new.inbox c.step-item.result c.loop-step-test.true c.step-item.is c.loop-step.invariant.leads c.in_ok-take_step.ensures.steps;
  kept = c.in_ok-take_step.ensures.cause ∙ c.loop-step.invariant.kept;
}

pub returns-clause-follows : goal.returns-clause-follows
returns-clause-follows g c = leads_end _ _ c.args.steps.now _ c.args.inbox.now c.loop-step.inbox (drop_all c.loop-step.step-index c.args.steps.now c.loop-step-test.false) c.loop-step.invariant.leads

pub returns-in_err-take_step-clause-follows : goal.returns-in_err-take_step-clause-follows
returns-in_err-take_step-clause-follows g c = err_followed _ _ c.args.steps.now c.args.inbox.now c.take_step.new.inbox c.from_residual.result c.in_err-take_step.field-0.0 c.from_residual.ensures.1
    (leads_fault _ _ _ c.args.steps.now c.loop-step.step-index _ c.args.inbox.now c.loop-step.inbox c.step-item.result _ c.loop-step-test.true c.step-item.is c.loop-step.invariant.leads c.in_err-take_step.ensures.steps)
