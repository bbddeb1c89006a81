use Rattle.compose_drafts.specs.Drafts.{parties_of, saved_parties_of}
use Rattle.compose_drafts.proofs.MessageLines.{parties_lines, saved_lines}
use Rattle.draft_laws.proofs.Tree.{sent_text}
use Rattle.draft_laws.proofs.messages_are_one_text.Goals as goal

pub returns-clause-sent : goal.returns-clause-sent
returns-clause-sent c = λ draft identity moment bytes sent carried. sent_text (parties_of draft identity) draft moment bytes (parties_lines draft identity) sent carried

pub returns-clause-saved : goal.returns-clause-saved
returns-clause-saved c = λ draft identity moment bytes sent carried. sent_text (saved_parties_of draft identity) draft moment bytes (saved_lines draft identity) sent carried
