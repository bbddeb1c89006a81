use Rattle.std.proofs.Common.{◌≡◌, ◌+◌, ◌<◌, length, get_or, eqb, false, arith}
use Rattle.std.proofs.lemmas.Bool.Decides.{nat_tests}
use Rattle.imap_values.specs.Strings.{before_quote}
use Rattle.imap_values.proofs.QuotedLemmas.{at_start, ends_here, one_more, two_more}
use Rattle.imap_values.proofs.strings.closing_quote.Goals as goal
use Rattle.imap_values.proofs.strings.closing_quote.Goals.{then-bytes-at-eq92+else-at-bytes, else-bytes-at-eq92}

pub loop-at-init : goal.loop-at-init
loop-at-init c = (c.next_mark-at.ensures.within, c.next_mark-at.ensures.plain (at_start (before_quote c.args.bytes.now)))

pub returns-then-bytes-at-eq34 : goal.returns-then-bytes-at-eq34
returns-then-bytes-at-eq34 c = (omega arith, ends_here c.args.bytes.now c.loop-at.at c.loop-at-test.true c.if-bytes-at-eq34.true c.loop-at.invariant.1)

pub loop-at-preserved : goal.loop-at-preserved
loop-at-preserved c = elim c.if-bytes-at-eq92.branch [
  | then-bytes-at-eq92+else-at-bytes w ↦
      let more : c.loop-at.at + 1 < length c.args.bytes.now = omega arith in
      (c.next_mark-at-in-loop-at.ensures.within, c.next_mark-at-in-loop-at.ensures.plain (rw w.at-is (two_more c.args.bytes.now c.loop-at.at more w.if-bytes-at-eq92.true c.loop-at.invariant.1)))
  | else-bytes-at-eq92 w ↦
      let no34 : eqb (get_or c.args.bytes.now c.loop-at.at 0) 34 ≡ false = grind (arith, nat_tests) in
      let no92 : eqb (get_or c.args.bytes.now c.loop-at.at 0) 92 ≡ false = grind (arith, nat_tests) in
      (c.next_mark-at-in-loop-at.ensures.within, c.next_mark-at-in-loop-at.ensures.plain (rw w.at-is (one_more c.args.bytes.now c.loop-at.at c.loop-at-test.true no34 no92 c.loop-at.invariant.1)))
]
