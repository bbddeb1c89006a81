use Rattle.std.proofs.Common.{length}
use Rattle.std.proofs.lemmas.Result.{err_from_is_err_and}
use Rattle.imap_grammar.specs.ItemData.{item_data_of, items_data_of}
use Rattle.imap_grammar.specs.Items.{items_at}
use Rattle.imap_grammar.proofs.ItemLemmas.{items_data_of-push, goes_on, ends_here, no_item, no_separator, none_left}
use Rattle.imap_grammar.proofs.fetch.items.Goals as goal

pub returns-in_err-one : goal.returns-in_err-one
returns-in_err-one c =
    let p = err_from_is_err_and c.from_residual-in_err-one.result c.from_residual-in_err-one.ensures.1 in
    rw (p.1, p.2) (no_item c.in_err-one.field-0.0 (items_data_of c.loop.items.items) (length c.args.bytes.now) c.loop.counter c.loop.left.now (items_at (length c.args.bytes.now) c.args.bytes.now) c.loop-test.true c.in_err-one.ensures c.loop.invariant)

pub returns-in_err-ends : goal.returns-in_err-ends
returns-in_err-ends c =
    let p = err_from_is_err_and c.from_residual-in_err-ends.result c.from_residual-in_err-ends.ensures.1 in
    rw (p.1, p.2) (no_separator c.in_err-ends.field-0.0 (items_data_of c.loop.items.items) (length c.args.bytes.now) c.loop.counter c.loop.left.now c.in_ok-one.rest.now (item_data_of c.in_ok-one.one) (items_at (length c.args.bytes.now) c.args.bytes.now) c.loop-test.true c.in_ok-one.ensures c.in_err-ends.ensures c.loop.invariant)

pub returns-then-ends : goal.returns-then-ends
returns-then-ends c = rw (c.in_ok-push.ensures.items, items_data_of-push) (ends_here (items_data_of c.loop.items.items) (length c.args.bytes.now) c.loop.counter c.loop.left.now c.in_ok-one.rest.now c.in_ok-ends.after.now (item_data_of c.in_ok-one.one) c.in_ok-ends.ends (items_at (length c.args.bytes.now) c.args.bytes.now) c.loop-test.true c.in_ok-one.ensures c.in_ok-ends.ensures c.if-ends.true c.loop.invariant)

pub loop-preserved : goal.loop-preserved
loop-preserved c = rw (c.in_ok-push.ensures.items, items_data_of-push) (goes_on (items_data_of c.loop.items.items) (length c.args.bytes.now) c.loop.counter c.loop.left.now c.in_ok-one.rest.now c.in_ok-ends.after.now (item_data_of c.in_ok-one.one) c.in_ok-ends.ends (items_at (length c.args.bytes.now) c.args.bytes.now) c.loop-test.true c.in_ok-one.ensures c.in_ok-ends.ensures c.if-ends.false c.loop.invariant)

pub returns : goal.returns
returns c = none_left (items_data_of c.loop.items.items) (length c.args.bytes.now) c.loop.counter c.loop.left.now (items_at (length c.args.bytes.now) c.args.bytes.now) c.loop-test.false c.loop.invariant
