use Rattle.std.proofs.Common.{◌≡◌}
use Rattle.std.specs.List.{range_with_len, flat_map}
use Rattle.thread_references.specs.Trees.{roots_at, parent_at}
use Rattle.thread_references.proofs.trees.roots.Given as goal

abbrev pub invariant-loop-message : goal.invariant-loop-message
invariant-loop-message l =
    l.roots.items ≡ flat_map (λ m. roots_at l.message_count l.children m (parent_at l.message_count l.parents m)) (range_with_len 0 l.message)
