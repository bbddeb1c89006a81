use Rattle.std.proofs.Common.{◌≡◌, ◌++◌, length}
use Rattle.mail_io.specs.Recordings.{entries_len, pieces_of}
use Rattle.mail_io.proofs.recording.read_pieces.Given as goal

abbrev pub invariant-loop-rest : goal.invariant-loop-rest
invariant-loop-rest l = record {
  lens : entries_len l.rest ≡ length l.left;
  read : l.read.items ++ pieces_of l.rest l.left ≡ pieces_of l.entries l.bytes;
}

abbrev pub decreases-loop-rest : goal.decreases-loop-rest
decreases-loop-rest l = length l.rest
