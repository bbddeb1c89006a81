use Rattle.std.proofs.Common.{◌≡◌, ◌+◌, map, filter}
use Rattle.std.specs.List.{range_with_len}
use Rattle.thread_references.specs.Trees.{is_parent, parent_at}
use Rattle.thread_references.proofs.trees.all_children.Given as goal

abbrev pub invariant-loop-message : goal.invariant-loop-message
invariant-loop-message l =
    l.children.items ≡ map (λ node. filter (λ m. is_parent node (parent_at l.message_count l.parents m)) (range_with_len 0 l.message)) (range_with_len 0 (l.message_count + l.message_count))
