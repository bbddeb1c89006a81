use Rattle.style_wash.proofs.Styles.{washed_characters}
use Rattle.style_wash.proofs.laws.washed_characters.Goals as goal

pub returns : goal.returns
returns c = λ text. washed_characters text
