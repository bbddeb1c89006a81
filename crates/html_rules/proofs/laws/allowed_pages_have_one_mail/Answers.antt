use Rattle.html_rules.proofs.Mail.{one_mail}
use Rattle.html_rules.proofs.laws.allowed_pages_have_one_mail.Goals as goal

pub returns : goal.returns
returns c = one_mail
