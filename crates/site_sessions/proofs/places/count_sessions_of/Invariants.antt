use Rattle.std.proofs.Common.{◌≡◌, take}
use Rattle.std.specs.List.{count_by}
use Rattle.site_sessions.specs.Sessions.{is_of}
use Rattle.site_sessions.proofs.places.count_sessions_of.Given as goal

abbrev pub invariant-loop-place : goal.invariant-loop-place
invariant-loop-place g l = l.count ≡ count_by (is_of l.user) (take l.place-index l.places)
