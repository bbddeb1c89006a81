use Rattle.std.proofs.Common.{◌≡◌, take, length}
use Rattle.thread_references.specs.Counts.{CountsTopmost}
use Rattle.thread_references.proofs.pruning.Topmost.of.Given as goal

abbrev pub invariant-loop-message : goal.invariant-loop-message
invariant-loop-message l = record {
  size : length l.topmost.counts.items ≡ l.node_count;
  counted : CountsTopmost l.node_count (take l.message l.places) l.topmost;
}
