use Rattle.site_sessions.proofs.Rosters.{new_roster}
use Rattle.site_sessions.proofs.roster.Roster.new.Goals as goal

pub invariant_of-result : goal.invariant_of-result
invariant_of-result g c = rw c.in_ok-places.ensures (new_roster c.args.slots.items c.requires.some c.requires.few c.requires.desks)
