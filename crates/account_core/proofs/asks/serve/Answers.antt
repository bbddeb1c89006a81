use Rattle.account_core.proofs.EventLemmas.{served_event}
use Rattle.account_core.proofs.asks.serve.Goals as goal

pub returns-in-SendDraft-clause-event : goal.returns-in-SendDraft-clause-event
returns-in-SendDraft-clause-event g c = served_event c.args.mail.now.who _ c.args.ask.now c.in-SendDraft.key c.in-SendDraft.fields _ _ _ _ _ c.send_draft.result c.in-SendDraft.is c.requires.owned c.send_draft.ensures.turn
