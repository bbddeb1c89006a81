use Rattle.std.proofs.Common.{rules, sym}
use Rattle.site_sessions.specs.Entering.{is_unused}
use Rattle.site_sessions.proofs.Positions.{position_here, position_none}
use Rattle.site_sessions.proofs.slots.unused_slot.Goals as goal

pub returns-then-is_unused-clause-equals : goal.returns-then-is_unused-clause-equals
returns-then-is_unused-clause-equals g c = sym (position_here is_unused c.args.slots.now c.loop-i.i c.index-slots-i.result c.loop-i-test.true c.loop-i.invariant (search rules))

pub returns-clause-equals : goal.returns-clause-equals
returns-clause-equals g c = sym (position_none is_unused c.args.slots.now c.loop-i.i (search rules) c.loop-i.invariant)
