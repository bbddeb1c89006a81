use Rattle.std.proofs.Common.{sym, rules}
use Rattle.std.specs.List.{range_with_len}
use Rattle.std.proofs.lemmas.List.FromFn.{get_or-range_with_len}
use Rattle.std.proofs.lemmas.List.FromFn.{length-range_with_len}
use Rattle.site_sessions.specs.Entering.{has_no_session}
use Rattle.site_sessions.proofs.Positions.{none_of_next, position_here, position_none}
use Rattle.site_sessions.proofs.places.free_account.Goals as goal

pub returns-then-not-has_session-clause-equals : goal.returns-then-not-has_session-clause-equals
returns-then-not-has_session-clause-equals g c =
    let n = c.args.count in
    sym (position_here (has_no_session c.args.places.now) (range_with_len 0 n) c.loop-account.account 0 (rw (length-range_with_len 0 n) c.loop-account-test.true) c.loop-account.invariant (rw (get_or-range_with_len 0 n c.loop-account.account 0 c.loop-account-test.true) (search rules)))

pub loop-account-preserved : goal.loop-account-preserved
loop-account-preserved g c =
    none_of_next (has_no_session c.args.places.now) (range_with_len 0 c.args.count) c.loop-account.account c.loop-account.invariant (λ d. rw (get_or-range_with_len 0 c.args.count c.loop-account.account d c.loop-account-test.true) (search rules))

pub returns-clause-equals : goal.returns-clause-equals
returns-clause-equals g c = sym (position_none (has_no_session c.args.places.now) (range_with_len 0 c.args.count) c.loop-account.account (rw (length-range_with_len 0 c.args.count) (search rules)) c.loop-account.invariant)
