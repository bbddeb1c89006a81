use Rattle.wash_attributes.proofs.Allowed.{washed_allowed}
use Rattle.wash_attributes.proofs.laws.kept_attributes_are_allowed.Goals as goal

pub returns : goal.returns
returns c = washed_allowed
