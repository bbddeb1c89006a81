use Rattle.style_wash.proofs.Styles.{washing_is_idempotent}
use Rattle.style_wash.proofs.laws.washing_is_idempotent.Goals as goal

pub returns : goal.returns
returns c = washing_is_idempotent
