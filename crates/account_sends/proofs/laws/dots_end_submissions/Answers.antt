use Rattle.account_sends.proofs.DotLemmas.{dots_end}
use Rattle.account_sends.proofs.laws.dots_end_submissions.Goals as goal

pub returns : goal.returns
returns c = dots_end
