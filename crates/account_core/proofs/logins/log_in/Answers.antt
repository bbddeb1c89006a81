use Rattle.std.proofs.lemmas.Result.{err_from_is_err_and}
use Rattle.account_core.proofs.LoginLemmas.{broken, untaken}
use Rattle.account_core.proofs.logins.log_in.Goals as goal

pub returns-in_err-kept-clause-turn : goal.returns-in_err-kept-clause-turn
returns-in_err-kept-clause-turn g c =
    let p = err_from_is_err_and c.from_residual.result c.from_residual.ensures.1 in
    rw (p.1, p.2) (untaken c.args.user.now c.args.password.now c.args.mail.now c.args.outbox.now.adopted c.args.outbox.now.keeper_faults)

pub returns-in_err-login-clause-turn : goal.returns-in_err-login-clause-turn
returns-in_err-login-clause-turn g c =
    let p = err_from_is_err_and c.from_residual-in_err-login.result c.from_residual-in_err-login.ensures.1 in
    rw (p.1, p.2) (broken c.args.user.now c.args.password.now c.args.mail.now c.login.new.self c.in_err-login.field-0.0 c.args.outbox.now.adopted c.args.outbox.now.keeper_faults c.in_err-login.ensures.logged_in)
