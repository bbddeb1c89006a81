use Rattle.style_wash.proofs.Styles.{washed_is_style}
use Rattle.style_wash.proofs.laws.washed_is_style.Goals as goal

pub returns : goal.returns
returns c = washed_is_style
