use Rattle.std.proofs.Common.{refl, fold, [], ap, ◌∙◌}
use Rattle.thread_references.specs.Subjects.{enter, merge, merge_roots}
use Rattle.thread_references.proofs.subjects.merge_roots.Goals as goal

pub merge_roots-requires : goal.merge_roots-requires
merge_roots-requires c = record { parents = refl; table = c.new-merger.ensures.table }

pub returns : goal.returns
unfolding merge_roots
returns c =
    let h = c.args.headings.now in
    let roots = c.args.roots.now in
    c.in_ok-merge_roots.ensures.parents
    ∙ ap (λ p. (fold (merge h) (fold (enter h) (record { parents = p; table = [] }) roots) roots).parents) c.new-merger.ensures.parents
