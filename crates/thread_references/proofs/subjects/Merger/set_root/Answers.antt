use Rattle.std.proofs.Common.{refl}
use Rattle.thread_references.proofs.CountLemmas.{row_entered}
use Rattle.thread_references.proofs.subjects.Merger.set_root.Goals as goal

pub returns : goal.returns
returns g c =
    row_entered g.merging c.args.subject.now c.in_ok-key.key.items c.args.root c.args.self.now _ c.requires c.in_ok-key.ensures.items refl c.in_ok-insert.ensures.updates
