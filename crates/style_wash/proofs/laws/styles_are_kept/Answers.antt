use Rattle.style_wash.proofs.Styles.{styles_are_kept}
use Rattle.style_wash.proofs.laws.styles_are_kept.Goals as goal

pub returns : goal.returns
returns c = styles_are_kept
