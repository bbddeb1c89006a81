use Rattle.std.proofs.Common.{◌≡◌, ◌≤◌, ◌++◌, length, drop}
use Rattle.std.specs.Prelude.{reverse}
use Rattle.thread_references.specs.Listing.{at_depth}
use Rattle.thread_references.proofs.listing.wait_for.Given as goal

abbrev pub invariant-loop-at : goal.invariant-loop-at
invariant-loop-at l = record {
  within : l.at ≤ length l.nodes;
  waiting : l.waiting.items ≡ l.fn.waiting.items ++ reverse (at_depth l.depth (drop l.at l.nodes));
}

abbrev pub decreases-loop-at : goal.decreases-loop-at
decreases-loop-at l = l.at
