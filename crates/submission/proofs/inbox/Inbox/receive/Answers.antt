use Rattle.std.proofs.Common.{take}
use Rattle.submission.proofs.Hearings.{piece_read}
use Rattle.submission.proofs.inbox.Inbox.receive.Goals as goal

pub returns-clause-hears : goal.returns-clause-hears
returns-clause-hears g c = record {
  bytes = take c.in_ok-self-inside.field-0 c.receive.new.room;
  says = c.in_ok-self-inside.ensures.hears;
  reads = piece_read c.args.self.now c.self.inside.reply c.read_from-self-inside.new.reply c.self.inside.room c.receive.new.room c.self.inside.from c.self.inside.to c.in_ok-self-inside.field-0 c.read_from-self-inside.result c.self.view_is c.self.invariant.within c.self.invariant.read c.requires.awaiting
      c.read_from-self-inside.ensures.reads;
}
