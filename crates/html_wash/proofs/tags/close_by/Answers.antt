use Rattle.html_wash.proofs.Writing.{inside_outside, counted_le, lookups_none, lookups_step, lookups_done}
use Rattle.html_wash.proofs.tags.close_by.Goals as goal

pub loop-kind-init : goal.loop-kind-init
loop-kind-init c = lookups_none c.lookups-kind-items.result.now c.args.opened.now _ c.args.out.now c.requires

pub close-requires-clause-within : goal.close-requires-clause-within
close-requires-clause-within c = counted_le c.looked_up-count.result _ c.loop-kind.opened c.looked_up-count.ensures

pub close-requires-clause-inside : goal.close-requires-clause-inside
close-requires-clause-inside c = inside_outside c.loop-kind.opened c.loop-kind.out.opened _ c.loop-kind.invariant.inside

pub loop-kind-preserved : goal.loop-kind-preserved
loop-kind-preserved c =
    lookups_step c.lookups-kind-items.result.now c.loop-kind.kind-index _ c.args.opened.now c.loop-kind.opened _ c.args.out.now c.loop-kind.out c.close.new.out c.close.new.opened c.looked_up-count.result
    c.loop-kind-test.true c.looked_up-count.ensures c.loop-kind.invariant c.in_ok-close.ensures

pub returns : goal.returns
returns c = lookups_done c.lookups-kind-items.result.now c.loop-kind.kind-index _ c.args.opened.now _ c.args.out.now c.loop-kind.out c.loop-kind.opened c.loop-kind-test.false c.lookups-kind-items.ensures c.loop-kind.invariant
