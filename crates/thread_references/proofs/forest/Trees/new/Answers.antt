use Rattle.std.proofs.Common.{◌≡◌, length, ap, ◌∙◌, rules}
use Rattle.thread_references.specs.Trees.{roots_of}
use Rattle.thread_references.specs.Listing.{root_count}
use Rattle.thread_references.proofs.forest.Trees.new.Goals as goal

pub returns-clause-roots : goal.returns-clause-roots
unfolding root_count
returns-clause-roots c =
    let size : c.len-roots.result ≡ length c.in_ok-roots.field-0.items = search rules in
    size ∙ ap length (c.in_ok-roots.ensures ∙ ap (λ f. roots_of (length f) c.deref-3.result.now) c.facts-facts.ensures ∙ ap (roots_of (length c.args.linked.now)) (c.deref-3.ensures.value ∙ c.in_ok-parents.ensures))
