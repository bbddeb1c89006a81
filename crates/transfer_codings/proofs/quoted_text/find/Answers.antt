use Rattle.std.proofs.Common.{◌≡◌, ◌==◌, ℕ, ◌+◌, ◌-◌, ◌<◌, List, length, get_or, drop, true, false, sym, ap, ◌∙◌, inl, inr, arith}
use Rattle.std.proofs.lemmas.Bool.{cases_lt, eq-eqb, false_from_ne_true}
use Rattle.std.proofs.lemmas.List.{get_or-drop, length-drop, take_rest}
use Rattle.std.proofs.lemmas.List.Sums.{position_or_len_is}
use Rattle.transfer_codings.proofs.quoted_text.find.Goals as goal

-- what holds before a place, and from there on up to another
both_parts : (byte : ℕ) (text : List ℕ) (near n : ℕ) → ((k : ℕ) → k < near → (get_or text k 0 == byte) ≡ false)
    → ((k : ℕ) → k < n → (get_or (drop near text) k 0 == byte) ≡ false)
    → (k : ℕ) → k < near + n → (get_or text k 0 == byte) ≡ false
both_parts byte text near n first second k below = elim (cases_lt k near) [
  | inl early ↦ first k early
  | inr late ↦
      let place : near + (k - near) ≡ k = omega arith in
      ap (λ i. get_or text i 0 == byte) (sym place) ∙ ap (λ x. x == byte) (sym (get_or-drop near text (k - near) 0)) ∙ second (k - near) (omega arith)
]

pub returns-then-text-i-clause-place : goal.returns-then-text-i-clause-place
returns-then-text-i-clause-place c =
    let text = c.args.text.now in
    let i = c.loop-i.i in
    sym (position_or_len_is (λ x. x == c.args.byte) text i 0 (omega arith) c.loop-i.invariant
    (λ _. eq-eqb (get_or text i 0) c.args.byte c.if-text-i.true))

pub returns-in-Some-clause-place : goal.returns-in-Some-clause-place
returns-in-Some-clause-place c =
    let text = c.args.text.now in
    let byte = c.args.byte in
    let near = c.min-near.result in
    let i = c.in-Some.i in
    let first = c.in-Some.ensures in
    let high = first.0.high in
    let rest = take_rest text near in
    let before : (k : ℕ) → k < i → (get_or (drop near text) k 0 == byte) ≡ false =
    λ k below. ap (λ xs. get_or xs k 0 == byte) (sym rest) ∙ false_from_ne_true _ (first.0.before k (omega arith) below) in
    let at : (get_or text (near + i) 0 == byte) ≡ true =
    ap (λ x. x == byte) (sym (get_or-drop near text i 0)) ∙ ap (λ xs. get_or xs i 0 == byte) (sym rest) ∙ first.1 in
    sym (position_or_len_is (λ x. x == byte) text (near + i) 0 (omega (arith, ap length rest, length-drop near text))
    (both_parts byte text near i (λ k below. c.loop-i.invariant k (omega arith)) before) (λ _. at))

pub returns-in-None-clause-place : goal.returns-in-None-clause-place
returns-in-None-clause-place c =
    let text = c.args.text.now in
    let byte = c.args.byte in
    let near = c.min-near.result in
    let rest = take_rest text near in
    let n = length text - near in
    let whole : near + n ≡ length text = omega arith in
    let after : (k : ℕ) → k < n → (get_or (drop near text) k 0 == byte) ≡ false =
    λ k below. ap (λ xs. get_or xs k 0 == byte) (sym rest) ∙ false_from_ne_true _ (c.in-None.ensures k (omega arith) (omega (arith, ap length rest, length-drop near text))) in
    sym (position_or_len_is (λ x. x == byte) text (length text) 0 (omega arith)
    (λ k below. both_parts byte text near n (λ j early. c.loop-i.invariant j (omega arith)) after k (omega arith)) (λ below. absurd (omega arith)))
