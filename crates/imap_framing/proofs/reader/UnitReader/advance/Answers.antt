use Rattle.std.proofs.Common.{◌+◌, drop, arith}
use Rattle.std.proofs.lemmas.List.{length-drop}
use Rattle.imap_framing.specs.declared.scan.Found.TheVariants as found
use Rattle.imap_framing.proofs.FieldLemmas.{held_at_start, scanned, gave, too_long_whole, went}
use Rattle.imap_framing.proofs.reader.UnitReader.advance.Goals as goal

pub invariant_of-self-in-Whole : goal.invariant_of-self-in-Whole
invariant_of-self-in-Whole c =
    let s = scanned c.self.inside.buffer.items c.deref.result.now c.self.inside.start c.scan-found.result.1 c.scan-found.result.0 found.Whole c.deref.ensures.value c.scan-found.ensures.within c.scan-found.ensures.found c.in-Whole.is in
    let len = length-drop c.self.inside.start c.self.inside.buffer.items in
    let within = s.within in
    let inside = c.self.invariant.within in
    held_at_start c.self.inside.buffer.items c.self.inside.base c.self.inside.start (c.self.inside.start + c.scan-found.result.1) (omega arith) (omega arith) c.self.invariant.countable

pub returns-in-TooLong : goal.returns-in-TooLong
returns-in-TooLong c =
    let s = scanned c.self.inside.buffer.items c.deref.result.now c.self.inside.start c.scan-found.result.1 c.scan-found.result.0 found.TooLong c.deref.ensures.value c.scan-found.ensures.within c.scan-found.ensures.found c.in-TooLong.is in
    rw (← c.self.view_is) (too_long_whole (drop c.self.inside.start c.self.inside.buffer.items) c.scan-found.result.1 s.leads, c.at.ensures, went c.self.inside.buffer.items c.self.inside.base c.self.inside.given c.self.inside.start)

pub returns-in-Whole : goal.returns-in-Whole
returns-in-Whole c =
    let s = scanned c.self.inside.buffer.items c.deref.result.now c.self.inside.start c.scan-found.result.1 c.scan-found.result.0 found.Whole c.deref.ensures.value c.scan-found.ensures.within c.scan-found.ensures.found c.in-Whole.is in
    rw (← c.self.view_is) (gave c.self.inside.buffer.items c.self.inside.base c.self.inside.given c.self.inside.start c.scan-found.result.1 s.within s.leads)
