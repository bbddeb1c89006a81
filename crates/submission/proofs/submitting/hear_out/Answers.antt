use Rattle.std.proofs.Common.{◌∙◌, sym, refl}
use Rattle.submission.specs.Submits.{HearsOut}
use Rattle.submission.proofs.Growing.{grows_none}
use Rattle.submission.proofs.HearingOut.{hears_more}
use Rattle.submission.proofs.submitting.hear_out.Goals as goal

pub loop-inbox-init : goal.loop-inbox-init
loop-inbox-init g c = record { hears = grows_none (g.L.Link.talk c.args.link.now) (λ pieces. HearsOut c.args.inbox.now pieces c.args.inbox.now) refl; kept = refl }

pub loop-inbox-preserved : goal.loop-inbox-preserved
loop-inbox-preserved g c = record {
  hears = hears_more _ _ _ _ _ _ c.loop-inbox.invariant.hears (sym c.is_awaiting.ensures ∙ c.loop-inbox-test.true) c.in_ok-receive.ensures.hears;
  kept = c.in_ok-receive.ensures.cause.kept ∙ c.loop-inbox.invariant.kept;
}
