use Rattle.std.proofs.Common.{◌≡◌, sym, ◌∙◌, arith}
use Rattle.std.specs.Prelude.{None, Some, position}
use Rattle.thread_references.specs.Trees.{is_topmost}
use Rattle.thread_references.proofs.CountLemmas.{pruned_some, pruned_alone, pruned_kept, first_inside}
use Rattle.thread_references.proofs.pruning.Topmost.parent.Goals as goal

pub returns-then-is_some : goal.returns-then-is_some
returns-then-is_some c = pruned_some c.args.places.now c.args.place.top c.args.place.above (sym c.is_some.ensures ∙ c.if-is_some.true)

pub returns-then-count_at-le1 : goal.returns-then-count_at-le1
returns-then-count_at-le1 c =
    pruned_alone c.args.places.now c.args.place.top c.count_at.result c.args.place.above (sym c.is_some.ensures ∙ c.if-is_some.false) (c.count_at.ensures ∙ c.requires.counted.counts c.args.place.top c.requires.top) c.if-count_at-le1.true

pub overflow_add-result : goal.overflow_add-result
overflow_add-result c =
    let first : Some c.in-Some.first ≡ position (is_topmost c.args.place.top) c.args.places.now = sym c.in-Some.is ∙ c.first_at.ensures ∙ c.requires.counted.firsts c.args.place.top c.requires.top in
    let inside = first_inside c.args.places.now c.args.place.top c.in-Some.first (record { above = None; top = 0 }) first in
    let room = c.requires.room in
    omega (arith, inside, room)

pub returns-in-Some : goal.returns-in-Some
returns-in-Some c =
    pruned_kept c.args.places.now c.args.place.top c.count_at.result c.args.place.above (Some c.in-Some.first) (sym c.is_some.ensures ∙ c.if-is_some.false) (c.count_at.ensures ∙ c.requires.counted.counts c.args.place.top c.requires.top) c.if-count_at-le1.false
    (sym c.in-Some.is ∙ c.first_at.ensures ∙ c.requires.counted.firsts c.args.place.top c.requires.top)

pub returns-in-None : goal.returns-in-None
returns-in-None c =
    pruned_kept c.args.places.now c.args.place.top c.count_at.result c.args.place.above None (sym c.is_some.ensures ∙ c.if-is_some.false) (c.count_at.ensures ∙ c.requires.counted.counts c.args.place.top c.requires.top) c.if-count_at-le1.false
    (sym c.in-None.is ∙ c.first_at.ensures ∙ c.requires.counted.firsts c.args.place.top c.requires.top)
