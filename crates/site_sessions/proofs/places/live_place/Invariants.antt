use Rattle.site_sessions.specs.Sessions.{has_live_token}
use Rattle.site_sessions.proofs.Positions.{NonePasses}
use Rattle.site_sessions.proofs.places.live_place.Given as goal

abbrev pub invariant-loop-i : goal.invariant-loop-i
invariant-loop-i g l = NonePasses (has_live_token l.token l.now) l.i l.places
