use Rattle.std.proofs.Common.{◌≡◌, length}
use Rattle.mail_talk.specs.Units.{drained}
use Rattle.mail_talk.proofs.listener.Listener.drain.Given as goal

abbrev pub invariant-loop-self : goal.invariant-loop-self
invariant-loop-self l = drained l.self ≡ drained l.fn.self

abbrev pub decreases-loop-self : goal.decreases-loop-self
decreases-loop-self l = length l.self.rest
