use Rattle.std.proofs.Common.{◌≡◌, [], length, map, true, subst, ap, ◌∙◌}
use Rattle.std.specs.Prelude.{IfOk}
use Rattle.thread_places.specs.Dates.{date_order, in_order}
use Rattle.thread_references.specs.Trees.{roots_of}
use Rattle.thread_references.specs.Subjects.{Headings, folded_subject, headings_of, pruned_parents, merge_roots, parents_of}
use Rattle.thread_references.proofs.forest.parents.Goals as goal

pub returns : goal.returns
unfolding parents_of headings_of
returns c =
    let facts = c.args.linked.now in
    let same = c.facts-facts.ensures in
    let n = length facts in
    let h : Headings = c.in_ok-headings.headings in
    let subjects = c.in_ok-headings.ensures.subjects ∙ ap (λ f. in_order [] (map folded_subject f) c.args.order.now) same ∙ ap (in_order [] (map folded_subject facts)) c.requires.order in
    let replies = c.in_ok-headings.ensures.replies ∙ ap (λ f. in_order true (map (λ m. m.subject.reply) f) c.args.order.now) same ∙ ap (in_order true (map (λ f. f.subject.reply) facts)) c.requires.order in
    let head : h ≡ headings_of facts =
    ap (λ s. record { subjects = s; replies = h.replies }) subjects ∙ ap (λ r. record { subjects = in_order [] (map folded_subject facts) (date_order facts); replies = r }) replies in
    let pruned = c.in_ok-pruned.ensures in
    let roots = c.deref-4.ensures.value ∙ c.in_ok-roots.ensures ∙ ap (λ f. roots_of (length f) c.deref-2.result.now) same ∙ ap (roots_of n) (c.deref-2.ensures.value ∙ pruned) in
    subst (λ l. IfOk c.merge_roots.result (λ parents. parents.items ≡ l))
    (ap (λ v. merge_roots v c.deref-4.result.now c.in_ok-pruned.pruned.items) head
    ∙ ap (λ r. merge_roots (headings_of facts) r c.in_ok-pruned.pruned.items) roots
    ∙ ap (merge_roots (headings_of facts) (roots_of n (pruned_parents facts))) pruned)
    c.merge_roots.ensures
