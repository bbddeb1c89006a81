use Rattle.std.proofs.Common.{rules, ◌≡◌, ◌<◌, ◌∙◌, sym, subst, List, ℕ, length, All}
use Rattle.submission.specs.declared.steps.Step.{Step}
use Rattle.submission.specs.Script.{script, dotted}
use Rattle.submission.specs.Stops.{IsSayable}
use Rattle.submission.proofs.Sayables.{dotted_some, script_sayable, done_submits, err_stops}
use Rattle.submission.proofs.submitting.submit.Goals as goal

pub converse-requires-clause-sayable : goal.converse-requires-clause-sayable
converse-requires-clause-sayable g c = subst (λ (l : List Step). All (λ (step : Step). IsSayable step.opening) l) (sym (c.deref-2.ensures.value ∙ c.in_ok-steps.ensures)) (script_sayable _ _ _ _)

pub converse-requires-clause-nonempty : goal.converse-requires-clause-nonempty
converse-requires-clause-nonempty g c = subst (λ (l : List ℕ). 0 < length l) (sym (c.deref-3.ensures.value ∙ c.in_ok-body.ensures)) (dotted_some _ c.requires.nonempty)

pub returns-in-Ok-clause-submits : goal.returns-in-Ok-clause-submits
returns-in-Ok-clause-submits g c =
    let steps : c.deref-2.result.now ≡ script c.args.user.now c.args.password.now c.args.envelope.now.from c.args.envelope.now.to.items = search rules in
    let body : c.deref-3.result.now ≡ dotted c.args.message.now = c.deref-3.ensures.value ∙ c.in_ok-body.ensures in
    done_submits _ _ _ _ _ _ steps body c.in-Ok.ensures.submits

pub returns-clause-submits : goal.returns-clause-submits
returns-clause-submits g c =
    let steps : c.deref-2.result.now ≡ script c.args.user.now c.args.password.now c.args.envelope.now.from c.args.envelope.now.to.items = search rules in
    let body : c.deref-3.result.now ≡ dotted c.args.message.now = c.deref-3.ensures.value ∙ c.in_ok-body.ensures in
    err_stops _ _ _ _ _ _ c.in-Err.stop c.converse.new.inbox c.into_fault.result c.into_fault.ensures steps body c.in-Err.ensures.submits
