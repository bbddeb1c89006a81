use Rattle.style_rules.proofs.Written.{declared_is}
use Rattle.style_rules.proofs.laws.declared_is_style.Goals as goal

pub returns : goal.returns
returns c = declared_is
