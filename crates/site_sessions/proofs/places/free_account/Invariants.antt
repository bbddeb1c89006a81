use Rattle.std.specs.List.{range_with_len}
use Rattle.site_sessions.specs.Entering.{has_no_session}
use Rattle.site_sessions.proofs.Positions.{NonePasses}
use Rattle.site_sessions.proofs.places.free_account.Given as goal

abbrev pub invariant-loop-account : goal.invariant-loop-account
invariant-loop-account g l = NonePasses (has_no_session l.places) l.account (range_with_len 0 l.count)
