use Rattle.std.proofs.Common.{◌≡◌, ◌+◌, ◌≤◌, length, eqb, false, arith}
use Rattle.std.proofs.lemmas.Bool.Decides.{nat_tests}
use Rattle.std.proofs.lemmas.Result.{err_from_is_err_and}
use Rattle.imap_values.specs.Values.{value_end_at}
use Rattle.imap_values.proofs.ValueLemmas.{no_token, no_depth, closes_here, goes_on, none_left}
use Rattle.imap_values.proofs.values.skip_value.Goals as goal

pub returns-in_err-token : goal.returns-in_err-token
returns-in_err-token c =
    let p = err_from_is_err_and c.from_residual.result c.from_residual.ensures.1 in
    rw (p.1, p.2) (no_token c.in_err-token.field-0.0 (length c.args.bytes.now) c.loop.counter c.loop.depth c.loop.left.now (value_end_at c.args.bytes.now) c.loop-test.true c.in_err-token.ensures c.loop.invariant.1)

pub returns-in_err-depth : goal.returns-in_err-depth
returns-in_err-depth c =
    let p = err_from_is_err_and c.from_residual-in_err-depth.result c.from_residual-in_err-depth.ensures.1 in
    rw (p.1, p.2) (no_depth c.in_err-depth.field-0.0 (length c.args.bytes.now) c.loop.counter c.loop.depth c.loop.left.now c.in_ok-token.rest.now c.in_ok-token.token (value_end_at c.args.bytes.now) c.loop-test.true c.in_ok-token.ensures c.in_err-depth.ensures.parses c.loop.invariant.1)

pub returns-then-depth-eq0 : goal.returns-then-depth-eq0
returns-then-depth-eq0 c = closes_here (length c.args.bytes.now) c.loop.counter c.loop.depth c.in_ok-depth.depth c.loop.left.now c.in_ok-token.rest.now c.in_ok-token.token (value_end_at c.args.bytes.now) c.loop-test.true c.in_ok-token.ensures c.in_ok-depth.ensures.parses c.if-depth-eq0.true c.loop.invariant.1

pub loop-preserved : goal.loop-preserved
loop-preserved c =
    let open_still : eqb c.in_ok-depth.depth 0 ≡ false = grind (arith, nat_tests) in
    let within : c.in_ok-depth.depth ≤ c.loop.depth + 1 = c.in_ok-depth.ensures.within in
    let before : c.loop.depth ≤ c.loop.counter = c.loop.invariant.0 in
    (omega arith, goes_on (length c.args.bytes.now) c.loop.counter c.loop.depth c.in_ok-depth.depth c.loop.left.now c.in_ok-token.rest.now c.in_ok-token.token (value_end_at c.args.bytes.now) c.loop-test.true c.in_ok-token.ensures c.in_ok-depth.ensures.parses open_still c.loop.invariant.1)

pub returns : goal.returns
returns c = none_left (length c.args.bytes.now) c.loop.counter c.loop.depth c.loop.left.now (value_end_at c.args.bytes.now) c.loop-test.false c.loop.invariant.1
