use Rattle.std.proofs.Common.{◌≡◌, length, eqb, true, false, arith, None}
use Rattle.std.proofs.lemmas.Bool.Decides.{nat_tests}
use Rattle.std.proofs.lemmas.Result.{err_from_is_err_and}
use Rattle.imap_values.specs.Slices.{slice_of}
use Rattle.imap_grammar.specs.Searches.{last_all_at}
use Rattle.imap_grammar.proofs.PairLemmas.{at_end, no_pair, goes_on, last_end, ended}
use Rattle.imap_grammar.proofs.searches.last_all.Goals as goal

pub returns-then-is_empty : goal.returns-then-is_empty
returns-then-is_empty c =
    let empty : eqb (length c.loop.left.now) 0 ≡ true = grind (arith, nat_tests) in
    at_end (length c.args.bytes.now) c.loop.counter (slice_of c.loop.found) c.loop.left.now (last_all_at (length c.args.bytes.now) None c.args.bytes.now) c.loop-test.true empty c.loop.invariant

pub returns-in_err-name : goal.returns-in_err-name
returns-in_err-name c =
    let more : eqb (length c.loop.left.now) 0 ≡ false = grind (arith, nat_tests) in
    let p = err_from_is_err_and c.from_residual.result c.from_residual.ensures.1 in
    rw (p.1, p.2) (no_pair c.in_err-name.field-0.0 (length c.args.bytes.now) c.loop.counter (slice_of c.loop.found) c.loop.left.now (last_all_at (length c.args.bytes.now) None c.args.bytes.now) c.loop-test.true more c.in_err-name.ensures c.loop.invariant)

pub loop-preserved : goal.loop-preserved
loop-preserved c =
    let more : eqb (length c.loop.left.now) 0 ≡ false = grind (arith, nat_tests) in
    rw c.all_value_or-found.ensures (goes_on (length c.args.bytes.now) c.loop.counter (slice_of c.loop.found) c.loop.left.now c.in_ok-name.name.now c.in_ok-name.value.now c.in_ok-name.rest.now (last_all_at (length c.args.bytes.now) None c.args.bytes.now) c.loop-test.true more c.in_ok-name.ensures c.loop.invariant)

pub returns-in_err-expect_end : goal.returns-in_err-expect_end
returns-in_err-expect_end c =
    let p = err_from_is_err_and c.from_residual-in_err-expect_end.result c.from_residual-in_err-expect_end.ensures.1 in
    rw (p.1, p.2) (last_end c.in_err-expect_end.field-0.0 (length c.args.bytes.now) c.loop.counter (slice_of c.loop.found) c.loop.left.now (last_all_at (length c.args.bytes.now) None c.args.bytes.now) c.loop-test.false c.in_err-expect_end.ensures c.loop.invariant)

pub returns : goal.returns
returns c = ended (length c.args.bytes.now) c.loop.counter (slice_of c.loop.found) c.loop.left.now (last_all_at (length c.args.bytes.now) None c.args.bytes.now) c.in_ok-expect_end.field-0 c.loop-test.false c.in_ok-expect_end.ensures c.loop.invariant
