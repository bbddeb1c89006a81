use Rattle.html_wash.proofs.Writing.{close_none, close_some, close_step, page_some}
use Rattle.html_wash.proofs.tags.close.Goals as goal

pub loop-i-init : goal.loop-i-init
loop-i-init c = close_none c.args.opened.now _ c.args.out.now c.requires.inside

pub end-requires : goal.end-requires
end-requires c = page_some c.loop-i.opened c.loop-i.out.opened _ c.loop-i.invariant.inside (close_some c.loop-i._i c.args.count c.args.opened.now _ _ _ _ c.loop-i-test.true c.requires.within c.loop-i.invariant)

pub loop-i-preserved : goal.loop-i-preserved
loop-i-preserved c =
    close_step c.loop-i._i c.args.opened.now _ c.args.out.now c.loop-i.out c.end.new.self c.loop-i.opened c.pop.new.self
    (close_some c.loop-i._i c.args.count c.args.opened.now _ _ _ _ c.loop-i-test.true c.requires.within c.loop-i.invariant)
    c.in_ok-end.ensures.ok c.pop.ensures c.loop-i.invariant
