use Rattle.std.proofs.Common.{◌≡◌, length, take}
use Rattle.std.specs.List.{concat}
use Rattle.imap_framing.specs.Units.{IsUnit, IsIncomplete}
use Rattle.imap_framing.specs.Streams.{SplitsStream, bytes_of_vecs}
use Rattle.imap_framing.proofs.stream.units_of.Given as goal

abbrev pub invariant-loop-piece : goal.invariant-loop-piece
invariant-loop-piece l = record {
  splits : SplitsStream IsUnit (concat (bytes_of_vecs (take l.piece-index l.pieces))) (bytes_of_vecs l.units.items) l.reader.rest;
  open_rest : IsIncomplete l.reader.rest;
  at : l.reader.at ≡ length (concat (bytes_of_vecs l.units.items));
}
