use Rattle.html_rules.proofs.Parts.{allowed_loads}
use Rattle.html_rules.proofs.laws.allowed_pages_load.Goals as goal

pub returns : goal.returns
returns c = allowed_loads
