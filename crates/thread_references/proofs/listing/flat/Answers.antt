use Rattle.std.proofs.Common.{◌≡◌, ◌+◌, length, subst, ap, ◌∙◌, arith}
use Rattle.std.specs.Prelude.{IfOk, reverse}
use Rattle.std.proofs.lemmas.List.{take_all}
use Rattle.thread_references.specs.Listing.{at_depth, list_from, flat}
use Rattle.thread_references.specs.Trees.{all_children, roots_of}
use Rattle.thread_references.proofs.ListingLemmas.{reverse_waiting}
use Rattle.thread_references.proofs.listing.flat.Goals as goal

pub returns : goal.returns
unfolding flat
returns c =
    let uids = c.args.uids.now in
    let n = length uids in
    let children = c.deref-2.ensures.value ∙ c.in_ok-children.ensures in
    let waits =
    c.loop-root.invariant ∙ ap (at_depth 0) (take_all c.loop-root.root-index c.deref-root-items.result.now (omega arith) ∙ c.deref-root-items.ensures.value ∙ c.in_ok-roots.ensures) in
    subst (λ l. IfOk c.list_from.result (λ rows. rows.items ≡ l))
    (ap (λ l. list_from uids l (n + n) (reverse c.loop-root.waiting.items)) children
    ∙ ap (λ l. list_from uids (all_children n c.args.parents.now) (n + n) (reverse l)) waits
    ∙ ap (list_from uids (all_children n c.args.parents.now) (n + n)) (reverse_waiting 0 (roots_of n c.args.parents.now)))
    c.list_from.ensures
