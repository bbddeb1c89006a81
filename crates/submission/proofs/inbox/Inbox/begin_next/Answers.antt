use Rattle.submission.proofs.Hearings.{next_read}
use Rattle.submission.proofs.inbox.Inbox.begin_next.Goals as goal

pub returns : goal.returns
returns c = next_read c.args.self.now c.self.inside.reply c.begin_next.new.self c.read_from-self-inside.new.reply c.self.inside.room c.self.inside.from c.self.inside.to c.read_from-self-inside.result c.self.view_is c.begin_next.ensures
    c.read_from-self-inside.ensures.reads
