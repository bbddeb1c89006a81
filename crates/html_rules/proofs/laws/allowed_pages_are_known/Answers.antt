use Rattle.html_rules.proofs.Mail.{allowed_known}
use Rattle.html_rules.proofs.laws.allowed_pages_are_known.Goals as goal

pub returns : goal.returns
returns c = allowed_known
