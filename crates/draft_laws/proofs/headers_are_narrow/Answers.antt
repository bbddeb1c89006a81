use Rattle.draft_laws.proofs.HeaderLines.{saved_narrow, sent_narrow}
use Rattle.draft_laws.proofs.headers_are_narrow.Goals as goal

pub returns-clause-sent : goal.returns-clause-sent
returns-clause-sent c = sent_narrow

pub returns-clause-saved : goal.returns-clause-saved
returns-clause-saved c = saved_narrow
