use Rattle.imap_responses.proofs.StreamLemmas.{answered_less}
use Rattle.bench.proofs.responses.take_all.Goals as goal

pub loop-reader-smaller : goal.loop-reader-smaller
loop-reader-smaller c = answered_less c.loop-reader.reader c.advance.new.self c.advance.result c.in_ok-advance.field-0 c.in_ok-advance.was c.if-branch.true c.advance.ensures
