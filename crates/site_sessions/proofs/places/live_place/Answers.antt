use Rattle.std.proofs.Common.{rules, sym}
use Rattle.site_sessions.specs.Sessions.{has_live_token}
use Rattle.site_sessions.proofs.Positions.{position_here, position_none}
use Rattle.site_sessions.proofs.places.live_place.Goals as goal

pub returns-then-has_live_token-clause-equals : goal.returns-then-has_live_token-clause-equals
returns-then-has_live_token-clause-equals g c = sym (position_here (has_live_token c.args.token.now c.args.now.now) c.args.places.now c.loop-i.i c.index-places-i.result c.loop-i-test.true c.loop-i.invariant (search rules))

pub returns-clause-equals : goal.returns-clause-equals
returns-clause-equals g c = sym (position_none (has_live_token c.args.token.now c.args.now.now) c.args.places.now c.loop-i.i (search rules) c.loop-i.invariant)
