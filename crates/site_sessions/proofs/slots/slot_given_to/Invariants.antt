use Rattle.site_sessions.specs.Entering.{was_given_to}
use Rattle.site_sessions.proofs.Positions.{NonePasses}
use Rattle.site_sessions.proofs.slots.slot_given_to.Given as goal

abbrev pub invariant-loop-i : goal.invariant-loop-i
invariant-loop-i g l = NonePasses (was_given_to l.user) l.i l.slots
