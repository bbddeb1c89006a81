use Rattle.std.proofs.Common.{◌++◌, sym, ap, ◌∙◌}
use Rattle.std.specs.List.{range_with_len, flat_map}
use Rattle.thread_references.specs.Trees.{roots_at, parent_at, parent_through}
use Rattle.thread_references.proofs.TreeLemmas.{root_turn}
use Rattle.thread_references.proofs.trees.roots.Goals as goal

pub loop-message-preserved : goal.loop-message-preserved
loop-message-preserved c =
    let n = c.args.message_count in
    let parents = c.args.parents.now in
    let parent = c.parent_through-parent.ensures ∙ ap (parent_through n parents) c.entry.ensures in
    c.in_ok-push_root.ensures
    ∙ ap (λ l. l ++ roots_at n c.args.children.now c.loop-message.message c.parent_through-parent.result) c.loop-message.invariant
    ∙ ap (λ o. flat_map (λ m. roots_at n c.args.children.now m (parent_at n parents m)) (range_with_len 0 c.loop-message.message) ++ roots_at n c.args.children.now c.loop-message.message o) parent
    ∙ sym (root_turn (λ m. roots_at n c.args.children.now m (parent_at n parents m)) c.loop-message.message)
