use Rattle.std.proofs.Common.{◌≡◌, length, false}
use Rattle.imap_framing.specs.Streams.{TakesParts, bytes_of_vecs}
use Rattle.imap_responses.specs.ReaderStates.{IsResponse}
use Rattle.imap_responses.proofs.stream.take_all.Given as goal

abbrev pub invariant-loop-units : goal.invariant-loop-units
invariant-loop-units l = record {
  sound : l.reader.damaged ≡ false;
  taken : TakesParts IsResponse l.fn.reader.cut (bytes_of_vecs l.fn.units.items) l.reader.cut (bytes_of_vecs l.units.items);
}

abbrev pub decreases-loop-units : goal.decreases-loop-units
decreases-loop-units l = length l.reader.cut.rest
