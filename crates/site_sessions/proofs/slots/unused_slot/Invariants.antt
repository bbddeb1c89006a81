use Rattle.site_sessions.specs.Entering.{is_unused}
use Rattle.site_sessions.proofs.Positions.{NonePasses}
use Rattle.site_sessions.proofs.slots.unused_slot.Given as goal

abbrev pub invariant-loop-i : goal.invariant-loop-i
invariant-loop-i g l = NonePasses is_unused l.i l.slots
