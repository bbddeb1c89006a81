use Rattle.mail_talk.proofs.CutLemmas.{any_cut}
use Rattle.mail_talk.proofs.laws.any_cut.Goals as goal

pub returns : goal.returns
returns c = any_cut
