use Rattle.std.proofs.Common.{[], refl, sym, subst, append-nil}
use Rattle.submission.specs.declared.steps.Opening.{Opening}
use Rattle.submission.specs.Submits.{replied, lost, IsExchange}
use Rattle.submission.proofs.Growing.{grows_then, grows_weaker}
use Rattle.submission.proofs.submitting.end_message.Goals as goal

pub returns-in-Ok-clause-ends : goal.returns-in-Ok-clause-ends
returns-in-Ok-clause-ends g c = grows_then _ _ _ _ _ c.in-Ok.ensures.exchanges
    (λ first exchange. grows_weaker _ _ _ _ c.close.ensures.closes (λ rest closes. (first, rest, replied c.exchange.new.inbox, refl, subst (λ (o : Opening). IsExchange o c.args.inbox.now first (replied c.exchange.new.inbox)) c.requires.dot exchange, closes)))

pub returns-in-Err-clause-ends : goal.returns-in-Err-clause-ends
returns-in-Err-clause-ends g c = grows_weaker _ _ _ _ c.in-Err.ensures.exchanges
    (λ first exchange. (first, [], lost, sym (append-nil first), subst (λ (o : Opening). IsExchange o c.args.inbox.now first lost) c.requires.dot exchange, (refl, refl)))
