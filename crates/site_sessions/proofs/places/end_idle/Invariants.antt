use Rattle.std.proofs.Common.{◌≡◌, ◌++◌, map, take, drop}
use Rattle.site_sessions.specs.Entering.{unless_idle}
use Rattle.site_sessions.proofs.places.end_idle.Given as goal

abbrev pub invariant-loop-i : goal.invariant-loop-i
invariant-loop-i g l = l.places ≡ map (unless_idle l.now) (take l.i l.initial.places) ++ drop l.i l.initial.places
