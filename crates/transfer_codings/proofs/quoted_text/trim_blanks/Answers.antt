use Rattle.std.proofs.Common.{◌≡◌, arith, refl, ◌∙◌, sym}
use Rattle.std.proofs.lemmas.List.Sums.{suffix_len-take_no}
use Rattle.transfer_codings.specs.Quoted.{is_blank}
use Rattle.transfer_codings.proofs.QuotedLemmas.{without_blanks-is}
use Rattle.transfer_codings.proofs.quoted_text.trim_blanks.Goals as goal
use Rattle.transfer_codings.proofs.quoted_text.trim_blanks.Goals.{then-loop-end-test+else-is_blank, else-loop-end-test}

pub returns-clause-kept : goal.returns-clause-kept
returns-clause-kept c =
    let line = c.args.line.now in
    let end = c.loop-end.end in
    without_blanks-is line end c.loop-end.invariant.within c.loop-end.invariant.trimmed (elim c.loop-end-test.branch [
      | then-loop-end-test+else-is_blank w ↦
          suffix_len-take_no is_blank line end 0 (omega arith) (omega arith) (sym w.is_blank.ensures ∙ w.if-is_blank.false)
      | else-loop-end-test w ↦ let none : end ≡ 0 = omega arith in rw none refl
    ])
