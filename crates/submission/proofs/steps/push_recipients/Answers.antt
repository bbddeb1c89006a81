use Rattle.std.proofs.Common.{ap, ◌∙◌}
use Rattle.submission.specs.Script.{recipient_step}
use Rattle.submission.proofs.Pushing.{push_mapped}
use Rattle.submission.proofs.steps.push_recipients.Goals as goal

pub loop-address-preserved : goal.loop-address-preserved
loop-address-preserved c =
    push_mapped recipient_step c.args.to.now c.loop-address.address-index _ c.args.steps.now.items c.loop-address.steps.items c.push.new.self.items c.in_ok-recipient_step.field-0 c.loop-address-test.true c.loop-address.invariant
    (c.in_ok-recipient_step.ensures ∙ ap recipient_step (c.as_str.ensures ∙ c.address-item.is)) c.in_ok-push.ensures.items
