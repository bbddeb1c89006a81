use Rattle.std.proofs.Common.{is_none}
use Rattle.site_sessions.proofs.Positions.{NonePasses}
use Rattle.site_sessions.proofs.places.free_place.Given as goal

abbrev pub invariant-loop-i : goal.invariant-loop-i
invariant-loop-i g l = NonePasses is_none l.i l.places
