use Rattle.std.proofs.Common.{◌≡◌, ◌∷◌, List, ℕ, ◌+◌, ◌-◌, ◌<◌, ◌≤◌, ◌==◌, ◌&&◌, false, get_or, take, drop, length, ap, ◌∙◌, arith}
use Rattle.std.proofs.lemmas.Bool.{and_from, and_left, and_right, eq-eqb, ne_eqb}
use Rattle.std.proofs.lemmas.List.{length-drop, length-take, take_rest}
use Rattle.transfer_codings.specs.QuotedRows.{broken_lines}
use Rattle.transfer_codings.proofs.RowLemmas.{before, before-break, before-last, before-more, broken_lines-before}
use Rattle.transfer_codings.proofs.quoted_rows.split_break.Goals as goal
use Rattle.transfer_codings.proofs.quoted_rows.split_break.Goals.{else-text-end-eq10-via-then-text-end-eq10+else-text-end-eq13, else-text-end-eq10-via-else-text-end-eq10}

pub loop-end-init : goal.loop-end-init
loop-end-init c = broken_lines-before c.args.text.now

pub returns-then-text-end-eq13 : goal.returns-then-text-end-eq13
returns-then-text-end-eq13 c =
    let text = c.args.text.now in
    let end = c.loop-end.end in
    let i = end - 1 in
    let next : i + 1 ≡ end = omega arith in
    let after : i + 2 ≡ end + 1 = omega arith in
    let rest = take_rest text (end + 1) in
    let test = and_from (get_or text i 0 == 13) (get_or text (i + 1) 0 == 10)
    (eq-eqb (get_or text i 0) 13 c.if-text-end-eq13.true) (ap (λ n. get_or text n 0 == 10) next ∙ eq-eqb (get_or text end 0) 10 c.if-text-end-eq10.true) in
    let cut = c.loop-end.invariant ∙ before-break text i (omega arith) test ∙ ap (λ n. take i text ∷ broken_lines (drop n text)) after in
    rw rest
    (cut, omega (arith, length-take i text, length-drop (end + 1) text))

more : (text : List ℕ) (end : ℕ) → 1 ≤ end → end < length text → broken_lines text ≡ before (take (end - 1) text) (broken_lines (drop (end - 1) text))
    → (get_or text (end - 1) 0 == 13) && (get_or text end 0 == 10) ≡ false
    → broken_lines text ≡ before (take (end + 1 - 1) text) (broken_lines (drop (end + 1 - 1) text))
more text end low lt so_far test =
    let i = end - 1 in
    let next : i + 1 ≡ end = omega arith in
    let same : i + 1 ≡ end + 1 - 1 = omega arith in
    so_far
    ∙ before-more text i (omega arith) (ap (λ n. (get_or text i 0 == 13) && (get_or text n 0 == 10)) next ∙ test)
    ∙ ap (λ n. before (take n text) (broken_lines (drop n text))) same

pub loop-end-preserved : goal.loop-end-preserved
loop-end-preserved c =
    let text = c.args.text.now in
    let end = c.loop-end.end in
    more text end (omega arith) (omega arith) c.loop-end.invariant (elim c.else-text-end-eq10.branch [
      | else-text-end-eq10-via-then-text-end-eq10+else-text-end-eq13 w ↦
          and_left (get_or text (end - 1) 0 == 13) (get_or text end 0 == 10) (ne_eqb (get_or text (end - 1) 0) 13 w.if-text-end-eq13.false)
      | else-text-end-eq10-via-else-text-end-eq10 w ↦
          and_right (get_or text (end - 1) 0 == 13) (get_or text end 0 == 10) (ne_eqb (get_or text end 0) 10 w.if-text-end-eq10.false)
    ])

pub returns : goal.returns
returns c =
    let text = c.args.text.now in
    c.loop-end.invariant ∙ before-last text (c.loop-end.end - 1) (omega arith)
