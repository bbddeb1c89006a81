use Rattle.wash_attributes.proofs.Sound.{references_sound}
use Rattle.wash_attributes.proofs.laws.references_are_sound.Goals as goal

pub returns : goal.returns
returns c = references_sound
