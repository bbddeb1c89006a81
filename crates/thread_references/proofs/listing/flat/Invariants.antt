use Rattle.std.proofs.Common.{◌≡◌, take}
use Rattle.thread_references.specs.Listing.{at_depth}
use Rattle.thread_references.proofs.listing.flat.Given as goal

abbrev pub invariant-loop-root : goal.invariant-loop-root
invariant-loop-root l = l.waiting.items ≡ at_depth 0 (take l.root-index l.root-items)
