use Rattle.std.proofs.Common.{length}
use Rattle.std.proofs.lemmas.Result.{err_from_is_err_and}
use Rattle.imap_values.specs.Sets.{ranges_at}
use Rattle.imap_values.proofs.SetLemmas.{no_range, ends_here, goes_on, none_left}
use Rattle.imap_values.proofs.sets.ranges.Goals as goal

pub returns-in_err-one : goal.returns-in_err-one
returns-in_err-one c =
    let p = err_from_is_err_and c.from_residual.result c.from_residual.ensures.1 in
    rw (p.1, p.2) (no_range c.in_err-one.field-0.0 c.loop.ranges.items (length c.args.bytes.now) c.loop.counter c.loop.left.now (ranges_at (length c.args.bytes.now) c.args.bytes.now) c.loop-test.true c.in_err-one.ensures c.loop.invariant)

pub returns-then-not-more : goal.returns-then-not-more
returns-then-not-more c = rw c.in_ok-push.ensures.items (ends_here c.loop.ranges.items (length c.args.bytes.now) c.loop.counter c.loop.left.now c.in_ok-one.rest.now c.comma-more.result.1.now c.in_ok-one.one c.comma-more.result.0 (ranges_at (length c.args.bytes.now) c.args.bytes.now) c.loop-test.true c.in_ok-one.ensures c.comma-more.ensures.comma c.comma-more.ensures.rest c.if-not-more.true c.loop.invariant)

pub loop-preserved : goal.loop-preserved
loop-preserved c = rw c.in_ok-push.ensures.items (goes_on c.loop.ranges.items (length c.args.bytes.now) c.loop.counter c.loop.left.now c.in_ok-one.rest.now c.comma-more.result.1.now c.in_ok-one.one c.comma-more.result.0 (ranges_at (length c.args.bytes.now) c.args.bytes.now) c.loop-test.true c.in_ok-one.ensures c.comma-more.ensures.comma c.comma-more.ensures.rest c.if-not-more.false c.loop.invariant)

pub returns : goal.returns
returns c = none_left c.loop.ranges.items (length c.args.bytes.now) c.loop.counter c.loop.left.now (ranges_at (length c.args.bytes.now) c.args.bytes.now) c.loop-test.false c.loop.invariant
