use Rattle.style_wash.proofs.Styles.{styles_are_fixed_points}
use Rattle.style_wash.proofs.laws.styles_are_fixed_points.Goals as goal

pub returns : goal.returns
returns c = λ text. styles_are_fixed_points text
