use Rattle.submission.proofs.Following.{err_submits}
use Rattle.submission.proofs.submitting.converse.Goals as goal

pub returns-in_err-follow-clause-submits : goal.returns-in_err-follow-clause-submits
returns-in_err-follow-clause-submits g c = err_submits _ _ c.args.steps.now c.args.body.now c.args.inbox.now c.follow.new.inbox c.from_residual.result c.in_err-follow.field-0.0 c.requires.new c.from_residual.ensures.1 c.in_err-follow.ensures.follows
