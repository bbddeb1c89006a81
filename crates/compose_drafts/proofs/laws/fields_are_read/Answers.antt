use Rattle.compose_drafts.specs.Drafts.{parties_of, saved_parties_of}
use Rattle.compose_drafts.proofs.MessageLines.{fields_read, parties_lines, saved_lines}
use Rattle.compose_drafts.proofs.laws.fields_are_read.Goals as goal

pub returns-clause-sent : goal.returns-clause-sent
returns-clause-sent c = λ draft identity parties clock e. fields_read draft (parties_of draft identity) parties clock (parties_lines draft identity) e

pub returns-clause-saved : goal.returns-clause-saved
returns-clause-saved c = λ draft identity parties clock e. fields_read draft (saved_parties_of draft identity) parties clock (saved_lines draft identity) e
