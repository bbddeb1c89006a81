use Rattle.std.proofs.Common.{length}
use Rattle.imap_framing.specs.Units.{IsUnit}
use Rattle.imap_framing.specs.Streams.{TakesParts, bytes_of_vecs}
use Rattle.imap_framing.proofs.stream.take_all.Given as goal

abbrev pub invariant-loop-units : goal.invariant-loop-units
invariant-loop-units l = TakesParts IsUnit l.fn.reader (bytes_of_vecs l.fn.units.items) l.reader (bytes_of_vecs l.units.items)

abbrev pub decreases-loop-units : goal.decreases-loop-units
decreases-loop-units l = length l.reader.rest
