use Rattle.std.proofs.Common.{sym, subst, ℕ}
use Rattle.submission.specs.Submits.{replied}
use Rattle.submission.specs.Stops.{IsStopCaused}
use Rattle.submission.proofs.Growing.{grows_weaker}
use Rattle.submission.proofs.submitting.take_step.Goals as goal

pub returns-in-Ok-clause-steps : goal.returns-in-Ok-clause-steps
returns-in-Ok-clause-steps g c = grows_weaker _ _ _ _ c.in-Ok.ensures.exchanges (λ pieces exchange. (replied c.exchange.new.inbox, exchange, c.judge.ensures.equals))

pub returns-in-Ok-clause-cause : goal.returns-in-Ok-clause-cause
returns-in-Ok-clause-cause g c = subst (λ (n : ℕ). IsStopCaused (g.L.Link.faults c.args.link.now) n c.judge.result) (sym c.in-Ok.ensures.cause.kept) (c.judge.ensures.cause (g.L.Link.faults c.args.link.now))
