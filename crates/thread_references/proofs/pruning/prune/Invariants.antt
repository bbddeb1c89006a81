use Rattle.std.proofs.Common.{◌≡◌, ◌++◌, take, map}
use Rattle.std.specs.Prelude.{None, replicate}
use Rattle.thread_references.specs.Trees.{pruned_parent}
use Rattle.thread_references.proofs.pruning.prune.Given as goal

abbrev pub invariant-loop-place : goal.invariant-loop-place
invariant-loop-place l = l.parents.items ≡ map (λ p. pruned_parent l.places p.top p.above) (take l.place-index l.places)

abbrev pub invariant-loop-more : goal.invariant-loop-more
invariant-loop-more l = l.parents.items ≡ map (λ p. pruned_parent l.places p.top p.above) l.places ++ replicate l.more None
