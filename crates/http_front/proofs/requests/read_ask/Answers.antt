use Rattle.http_front.proofs.Hearing.{keeps_trans}
use Rattle.http_front.proofs.Wholes.{answered, head_refused, of_err}
use Rattle.http_front.proofs.requests.read_ask.Goals as goal

pub returns-in_err-head-clause-answers : goal.returns-in_err-head-clause-answers
returns-in_err-head-clause-answers g c =
    let heard = head_refused _ _ c.receive_head.new.bytes.items c.receive_head.new.spans.items c.args.form c.in_err-head.field-0.0 c.receive_head.ensures.hears c.in_err-head.ensures.heard in
    of_err (g.C.Caller.heard c.args.caller.now) (g.C.Caller.heard c.receive_head.new.caller) c.args.form c.from_residual.result c.in_err-head.field-0.0 c.from_residual.ensures.1 heard

pub returns-clause-answers : goal.returns-clause-answers
returns-clause-answers g c =
    answered _ _ _ c.receive_head.new.bytes.items c.in_ok-parts.ensures.0 c.in_ok-parts.parts c.args.form c.answer.result c.receive_head.ensures.hears c.in_ok-head.ensures.heard.0
    (rw c.deref.ensures.value at c.in_ok-parts.ensures.1) (rw c.deref-3.ensures.value at c.answer.ensures.answers)

pub returns-clause-keeps_sent : goal.returns-clause-keeps_sent
returns-clause-keeps_sent g c = keeps_trans _ _ _ c.receive_head.ensures.keeps_sent c.answer.ensures.keeps_sent
