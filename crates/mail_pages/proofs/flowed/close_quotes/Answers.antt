use Rattle.mail_pages.proofs.QuoteSteps.{close_next}
use Rattle.mail_pages.proofs.flowed.close_quotes.Goals as goal

pub loop-preserved : goal.loop-preserved
loop-preserved c = close_next c.args.out.now c.loop.out c.end.new.self c.loop.counter c.args.count c.loop-test.true c.requires c.loop.invariant c.in_ok-end.ensures.ok
