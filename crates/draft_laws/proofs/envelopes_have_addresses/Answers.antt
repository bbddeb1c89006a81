use Rattle.draft_laws.proofs.Recipients.{recipients_are, sender_is}
use Rattle.draft_laws.proofs.envelopes_have_addresses.Goals as goal

pub returns-clause-sender : goal.returns-clause-sender
returns-clause-sender c = sender_is

pub returns-clause-recipients : goal.returns-clause-recipients
returns-clause-recipients c = recipients_are
