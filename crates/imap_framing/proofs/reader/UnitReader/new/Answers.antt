use Rattle.std.proofs.Common.{arith}
use Rattle.imap_framing.proofs.FieldLemmas.{held_at_start}
use Rattle.imap_framing.proofs.reader.UnitReader.new.Goals as goal

pub invariant_of-result : goal.invariant_of-result
invariant_of-result c = held_at_start c.new.result.items 0 0 0 (omega arith) (omega arith) (rw c.new.ensures.items (omega arith))
