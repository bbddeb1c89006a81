use Rattle.style_wash.proofs.Styles.{washed_calls_only_rgb}
use Rattle.style_wash.proofs.laws.washed_calls_only_rgb.Goals as goal

pub returns : goal.returns
returns c = λ text. washed_calls_only_rgb text
