use Rattle.std.proofs.Common.{rules, sym, is_none}
use Rattle.site_sessions.proofs.Positions.{position_here, position_none}
use Rattle.site_sessions.proofs.places.free_place.Goals as goal

pub returns-then-is_none-clause-equals : goal.returns-then-is_none-clause-equals
returns-then-is_none-clause-equals g c = sym (position_here is_none c.args.places.now c.loop-i.i c.index-places-i.result c.loop-i-test.true c.loop-i.invariant (search rules))

pub returns-clause-equals : goal.returns-clause-equals
returns-clause-equals g c = sym (position_none is_none c.args.places.now c.loop-i.i (search rules) c.loop-i.invariant)
