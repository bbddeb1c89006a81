use Rattle.std.proofs.Common.{◌≡◌, ◌+◌, map, ap, ◌∙◌, arith}
use Rattle.std.specs.List.{range_with_len}
use Rattle.thread_references.specs.Trees.{parent_at, parent_through, all_children}
use Rattle.thread_references.specs.Counts.{with_child}
use Rattle.thread_references.proofs.TreeLemmas.{found, child_turn}
use Rattle.thread_references.proofs.trees.all_children.Goals as goal

pub loop-message-preserved : goal.loop-message-preserved
loop-message-preserved c =
    let n = c.args.message_count in
    let parents = c.args.parents.now in
    let at = c.loop-message.message in
    let parent = c.parent_through-parent.ensures ∙ ap (parent_through n parents) c.entry.ensures in
    c.in_ok-add_child.ensures
    ∙ ap (λ l. with_child l c.parent_through-parent.result at) c.loop-message.invariant
    ∙ ap (λ o. with_child (map (found (parent_at n parents) at) (range_with_len 0 (n + n))) o at) parent
    ∙ child_turn (parent_at n parents) (n + n) at

pub returns : goal.returns
unfolding all_children
returns c =
    let n = c.args.message_count in
    let all : c.loop-message.message ≡ n = omega arith in
    c.loop-message.invariant ∙ ap (λ k. map (found (parent_at n c.args.parents.now) k) (range_with_len 0 (n + n))) all
