use Rattle.std.proofs.Common.{◌≡◌, ◌≤◌, drop, vec_capacity}
use Rattle.std.specs.List.{concat}
use Rattle.page_writer.specs.Written.{AppendsUpTo}
use Rattle.page_writer.proofs.sending.write_segments.Given as goal

abbrev pub invariant-loop-segment : goal.invariant-loop-segment
invariant-loop-segment g l = record {
  written : AppendsUpTo (g.W.Sink.taken l.fn.sink) (g.W.Sink.taken l.sink) (concat l.segments) (concat (drop l.segment-index l.segments));
  kept : g.W.Sink.faults l.sink ≡ g.W.Sink.faults l.fn.sink;
  room : 24576 ≤ vec_capacity l.room;
}
