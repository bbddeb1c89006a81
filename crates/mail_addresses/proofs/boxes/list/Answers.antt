use Rattle.std.proofs.Common.{ap, ◌∙◌, length, rules, Ok}
use Rattle.std.proofs.lemmas.Result.{err_from_is_err_and}
use Rattle.mail_addresses.specs.Boxes.{boxes_within}
use Rattle.mail_addresses.specs.Runs.{rest_of}
use Rattle.mail_addresses.proofs.ListLemmas.{at_start, ends_here, goes_on, no_box, no_next, none_left}
use Rattle.mail_addresses.proofs.boxes.list.Goals as goal

pub returns-in_err-mailbox : goal.returns-in_err-mailbox
returns-in_err-mailbox c =
    let p = err_from_is_err_and c.from_residual.result c.from_residual.ensures.1 in
    rw (p.1, p.2) (no_box c.in_err-mailbox.field-0.0 c.loop.boxes.items (length c.args.text.now) c.loop.counter c.loop.rest.now (boxes_within (length c.args.text.now) c.args.text.now) c.loop-test.true c.in_err-mailbox.ensures c.loop.invariant.read)

pub returns-in_err-more : goal.returns-in_err-more
returns-in_err-more c =
    let p = err_from_is_err_and c.from_residual-in_err-more.result c.from_residual-in_err-more.ensures.1 in
    rw (p.1, p.2) (no_next c.in_err-more.field-0.0 c.loop.boxes.items (length c.args.text.now) c.loop.counter c.loop.rest.now c.in_ok-mailbox.after.now c.in_ok-mailbox.mailbox (boxes_within (length c.args.text.now) c.args.text.now)
    c.loop-test.true c.in_ok-mailbox.ensures c.in_err-more.ensures c.loop.invariant.read)

pub returns-in_default : goal.returns-in_default
returns-in_default c = rw c.in_ok-push.ensures.items (ends_here c.loop.boxes.items (length c.args.text.now) c.loop.counter c.loop.rest.now c.in_ok-mailbox.after.now c.in_ok-mailbox.mailbox (boxes_within (length c.args.text.now) c.args.text.now)
    c.loop-test.true c.in_ok-mailbox.ensures (c.in_ok-more.ensures ∙ ap (λ o. Ok (rest_of o)) c.in_default.is) c.loop.invariant.read)

pub loop-preserved : goal.loop-preserved
loop-preserved c = record {
  text = search rules;
  read = rw c.in_ok-push.ensures.items (goes_on c.loop.boxes.items (length c.args.text.now) c.loop.counter c.loop.rest.now c.in_ok-mailbox.after.now c.in-Some.more.now c.in_ok-mailbox.mailbox (boxes_within (length c.args.text.now) c.args.text.now)
      c.loop-test.true c.in_ok-mailbox.ensures (c.in_ok-more.ensures ∙ ap (λ o. Ok (rest_of o)) c.in-Some.is) c.loop.invariant.read);
}

pub returns : goal.returns
returns c = none_left c.loop.boxes.items (length c.args.text.now) c.loop.counter c.loop.rest.now (boxes_within (length c.args.text.now) c.args.text.now) c.loop-test.false c.loop.invariant.read
