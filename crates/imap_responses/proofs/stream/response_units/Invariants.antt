use Rattle.std.proofs.Common.{◌≡◌, length, take, false}
use Rattle.std.specs.List.{concat}
use Rattle.imap_framing.specs.Units.{IsIncomplete}
use Rattle.imap_framing.specs.Streams.{SplitsStream, bytes_of_vecs}
use Rattle.imap_responses.specs.ReaderStates.{IsResponse}
use Rattle.imap_responses.proofs.stream.response_units.Given as goal

abbrev pub invariant-loop-piece : goal.invariant-loop-piece
invariant-loop-piece l = record {
  sound : l.reader.damaged ≡ false;
  splits : SplitsStream IsResponse (concat (bytes_of_vecs (take l.piece-index l.pieces))) (bytes_of_vecs l.units.items) l.reader.cut.rest;
  open_rest : IsIncomplete l.reader.cut.rest;
  at : l.reader.cut.at ≡ length (concat (bytes_of_vecs l.units.items));
}
