use Rattle.std.proofs.Common.{◌≡◌, ◌-◌, suc, cond}
use Rattle.submission.specs.Replies.{is_awaiting, reply_limit}
use Rattle.submission.specs.Submits.{GrowsBy, HearsOut}
use Rattle.submission.proofs.submitting.hear_out.Given as goal

abbrev pub invariant-loop-inbox : goal.invariant-loop-inbox
invariant-loop-inbox g l = record {
  hears : GrowsBy (g.L.Link.talk l.fn.link) (g.L.Link.talk l.link) (λ pieces. HearsOut l.fn.inbox pieces l.inbox);
  kept : g.L.Link.faults l.link ≡ g.L.Link.faults l.fn.link;
}

abbrev pub decreases-loop-inbox : goal.decreases-loop-inbox
decreases-loop-inbox g l = cond (is_awaiting l.inbox) (suc (reply_limit - l.inbox.reading.size)) 0
