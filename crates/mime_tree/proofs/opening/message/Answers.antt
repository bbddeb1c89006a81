use Rattle.mime_tree.proofs.OpeningLemmas.{message_is}
use Rattle.mime_tree.proofs.opening.message.Goals as goal

pub returns-clause-equals : goal.returns-clause-equals
returns-clause-equals c = message_is c.args.bytes.now c.args.header.now c.body_at.result c.in_ok-content.content c.requires.header c.body_at.ensures c.in_ok-content.ensures
