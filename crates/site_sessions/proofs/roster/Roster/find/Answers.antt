use Rattle.std.proofs.Common.{rules, ◌≡◌}
use Rattle.site_sessions.specs.Sessions.{find}
use Rattle.site_sessions.proofs.Rosters.{found_sessions}
use Rattle.site_sessions.proofs.roster.Roster.find.Goals as goal

pub returns-clause-some : goal.returns-clause-some
returns-clause-some g c =
    let is : c.find_live.result ≡ find c.args.token.now c.args.now c.args.self.now = search rules in
    found_sessions c.args.token.now c.args.now c.args.self.now c.find_live.result is
