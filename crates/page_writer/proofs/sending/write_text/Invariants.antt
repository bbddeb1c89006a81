use Rattle.std.proofs.Common.{◌≡◌, ◌≤◌, vec_capacity}
use Rattle.std.specs.Slice.Iter.{chunks_rest, chunks_size}
use Rattle.page_writer.specs.Bytes.{spell_bytes}
use Rattle.page_writer.specs.Written.{AppendsUpTo}
use Rattle.page_writer.proofs.sending.write_text.Given as goal

abbrev pub invariant-loop-chunk : goal.invariant-loop-chunk
invariant-loop-chunk g l = record {
  size : chunks_size l.chunk-iterator ≡ 4096;
  written : AppendsUpTo (g.W.Sink.taken l.fn.sink) (g.W.Sink.taken l.sink) (spell_bytes l.fn.text) (spell_bytes (chunks_rest l.chunk-iterator));
  kept : g.W.Sink.faults l.sink ≡ g.W.Sink.faults l.fn.sink;
  room : 24576 ≤ vec_capacity l.room;
}
