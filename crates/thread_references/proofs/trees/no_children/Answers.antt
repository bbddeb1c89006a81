use Rattle.std.proofs.Common.{◌≡◌, ◌+◌, ℕ, List, [], ◌∷◌, ◌++◌, map, arith, rules}
use Rattle.std.specs.List.{range_with_len}
use Rattle.std.proofs.lemmas.List.FromFn.{map-range_with_len_more}
use Rattle.thread_references.proofs.trees.no_children.Goals as goal

abbrev none : ℕ → List ℕ
none k = []

pub loop-node-preserved : goal.loop-node-preserved
loop-node-preserved c =
    let more : map none (range_with_len 0 (c.loop-node.node + 1)) ≡ map none (range_with_len 0 c.loop-node.node) ++ [] ∷ [] = map-range_with_len_more none 0 c.loop-node.node c.loop-node.node (omega arith) in
    let items = c.in_ok-push.ensures.items in
    let before = c.loop-node.invariant in
    search (rules, items, before, more)
