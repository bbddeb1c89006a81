use Rattle.std.proofs.Common.{rules, sym}
use Rattle.site_sessions.specs.Entering.{was_given_to}
use Rattle.site_sessions.proofs.Positions.{position_here, position_none}
use Rattle.site_sessions.proofs.slots.slot_given_to.Goals as goal

pub returns-then-was_given_to-clause-equals : goal.returns-then-was_given_to-clause-equals
returns-then-was_given_to-clause-equals g c = sym (position_here (was_given_to c.args.user.now) c.args.slots.now c.loop-i.i c.index-slots-i.result c.loop-i-test.true c.loop-i.invariant (search rules))

pub returns-clause-equals : goal.returns-clause-equals
returns-clause-equals g c = sym (position_none (was_given_to c.args.user.now) c.args.slots.now c.loop-i.i (search rules) c.loop-i.invariant)
