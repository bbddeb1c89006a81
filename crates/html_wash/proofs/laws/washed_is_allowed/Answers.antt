use Rattle.html_wash.proofs.Law.{washed_is_allowed}
use Rattle.html_wash.proofs.laws.washed_is_allowed.Goals as goal

pub returns : goal.returns
returns c = washed_is_allowed
