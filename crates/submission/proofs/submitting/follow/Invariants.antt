use Rattle.std.proofs.Common.{◌≡◌, drop}
use Rattle.submission.specs.Submits.{GrowsBy}
use Rattle.submission.proofs.Following.{LeadsTo}
use Rattle.submission.proofs.submitting.follow.Given as goal

abbrev pub invariant-loop-step : goal.invariant-loop-step
invariant-loop-step g l = record {
  leads : GrowsBy (g.L.Link.talk l.fn.link) (g.L.Link.talk l.link) (LeadsTo l.steps l.fn.inbox (drop l.step-index l.steps) l.inbox);
  kept : g.L.Link.faults l.link ≡ g.L.Link.faults l.fn.link;
}
