use Rattle.mail_talk.proofs.SayLemmas.{first_tells, later_tells, cut_tells}
use Rattle.mail_talk.proofs.laws.pieces_tell.Goals as goal

pub returns : goal.returns
returns c = record { first = first_tells; later = later_tells; cut = cut_tells }
