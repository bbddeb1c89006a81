use Rattle.std.proofs.Common.{arith}
use Rattle.imap_framing.proofs.FieldLemmas.{held_at_start, returned}
use Rattle.imap_framing.proofs.reader.UnitReader.give_back.Goals as goal

pub invariant_of-self : goal.invariant_of-self
invariant_of-self c =
    let held = c.self.invariant in
    let behind = held.behind in
    let within = held.within in
    held_at_start c.self.inside.buffer.items c.self.inside.base c.self.inside.given c.self.inside.given (omega arith) (omega arith) held.countable

pub returns : goal.returns
returns c = rw (← c.self.view_is) (returned c.self.inside.buffer.items c.self.inside.base c.self.inside.given c.self.inside.start c.self.invariant.behind c.self.invariant.within)
