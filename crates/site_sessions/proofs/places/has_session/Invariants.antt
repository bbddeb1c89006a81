use Rattle.std.proofs.Common.{◌≡◌, false, take}
use Rattle.std.specs.List.{list_any}
use Rattle.site_sessions.specs.Entering.{is_in}
use Rattle.site_sessions.proofs.places.has_session.Given as goal

abbrev pub invariant-loop-place : goal.invariant-loop-place
invariant-loop-place g l = list_any (is_in l.account) (take l.place-index l.places) ≡ false
