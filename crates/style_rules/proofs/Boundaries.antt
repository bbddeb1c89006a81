-- Comments end after an ASCII character, or at the end of the text.
use Rattle.std.proofs.Common.{◌≡◌, ℕ, zero, suc, ◌+◌, ◌<◌, ◌≤◌, ◌==◌, nat_eq, nat_lt, true, List, [], ◌∷◌, length, drop, get_or, refl, sym, ap, subst, ◌∙◌, arith, add-one, lit<, inl, inr}
use Rattle.std.specs.Prelude.{codes}
use Rattle.std.specs.Str.{IsUtf8, IsCharBoundary}
use Rattle.std.specs.List.{starts_with}
use Rattle.std.proofs.lemmas.Bool.{cases_Bool, eqb-true, ltb-true, ltb-false}
use Rattle.std.proofs.lemmas.Str.{IsCharBoundary-after_ascii, IsCharBoundary-before_ascii, IsCharBoundary-end}
use Rattle.std.proofs.lemmas.List.{drop_more}
use Rattle.style_rules.proofs.TextSteps.{comment_first}
use Rattle.style_wash.proofs.Facts.{and_true}
use Rattle.style_rules.specs.Blocks.{comment_len, comment_rest}

prefix_at : (text needle : List ℕ) (k : ℕ) → starts_with nat_eq text needle ≡ true → k < length needle → get_or text k 0 ≡ get_or needle k 0
prefix_at text [] k e lt = absurd (omega arith)
prefix_at [] (d ∷ needle) k e lt = absurd cc
prefix_at (c ∷ text) (d ∷ needle) zero e lt = sym (eqb-true d c (and_true (d == c) _ e).0)
prefix_at (c ∷ text) (d ∷ needle) (suc k) e lt = prefix_at text needle k (and_true (d == c) _ e).1 (omega arith)

-- the last of a number of characters is ASCII
record EndsAscii (text : List ℕ) (size : ℕ) : Type 0 where
  last : ℕ
  is : size ≡ suc last
  ascii : get_or text last 0 < 128

rest_ends : (text : List ℕ) → comment_rest text < length text → EndsAscii text (comment_rest text)
unfolding comment_rest
rest_ends [] lt = absurd (omega arith)
rest_ends (c ∷ more) lt = elim (cases_Bool (starts_with nat_eq (c ∷ more) (codes "*/"))) [
  | inl e ↦ rw e (record { last = 1; is = refl; ascii = let d = prefix_at (c ∷ more) (codes "*/") 1 e (lit< tt) in omega (arith, d) })
  | inr e ↦
      let below : comment_rest more < length more = (let whole : suc (comment_rest more) < suc (length more) = rw e at lt in omega arith) in
      let rest = rest_ends more below in
      rw e (record { last = suc rest.last; is = ap suc rest.is; ascii = rest.ascii })
]

open_ends : (text : List ℕ) → comment_rest (drop 2 text) + 2 < length text → EndsAscii text (comment_rest (drop 2 text) + 2)
open_ends [] lt = absurd (omega arith)
open_ends (a ∷ []) lt = absurd (omega arith)
open_ends (a ∷ b ∷ text) lt =
    let rest = rest_ends text (omega arith) in
    record { last = suc (suc rest.last); is = omega (arith, rest.is); ascii = rest.ascii }

comment_ends : (text : List ℕ) → 0 < comment_len text → comment_len text < length text → EndsAscii text (comment_len text)
unfolding comment_len
comment_ends text some lt = elim (cases_Bool (starts_with nat_eq text (codes "/*"))) [
  | inl a ↦ (let below : comment_rest (drop 2 text) + 2 < length text = rw a at lt in rw a (open_ends text below))
  | inr not_a ↦ elim (cases_Bool (starts_with nat_eq text (codes "<!--"))) [
    | inl a ↦ rw (not_a, a) (record { last = 3; is = refl; ascii = let d = prefix_at text (codes "<!--") 3 a (lit< tt) in omega (arith, d) })
    | inr not_b ↦ elim (cases_Bool (starts_with nat_eq text (codes "-->"))) [
      | inl a ↦ rw (not_a, not_b, a) (record { last = 2; is = refl; ascii = let d = prefix_at text (codes "-->") 2 a (lit< tt) in omega (arith, d) })
      | inr not_c ↦ let none : 0 < 0 = rw not_a at (rw not_b at (rw not_c at some)) in absurd (omega arith)
    ]
  ]
]

after_size : (text : List ℕ) (size : ℕ) → IsUtf8 text → size < length text → EndsAscii text size → IsCharBoundary text size
after_size text size utf8 lt ends =
    let is = ends.is in
    rw (is ∙ sym (add-one ends.last)) (IsCharBoundary-after_ascii text ends.last utf8 (omega arith) ends.ascii)

pub comment_boundary : (text : List ℕ) (size : ℕ) → comment_len text ≡ size → 0 < size → size ≤ length text → IsUtf8 text → IsCharBoundary text size
comment_boundary text size e some le utf8 = elim (cases_Bool (nat_lt size (length text))) [
  | inl lt ↦ after_size text size utf8 (ltb-true size (length text) lt) (subst (EndsAscii text) e (comment_ends text (rw e some) (rw e (ltb-true size (length text) lt))))
  | inr other ↦ (let whole : size ≡ length text = (let least = ltb-false size (length text) other in omega arith) in rw whole (IsCharBoundary-end text))
]

pub start_boundary : (text : List ℕ) (at : ℕ) → at < length text → 0 < comment_len (drop at text) → IsCharBoundary text at
start_boundary text at lt some =
    IsCharBoundary-before_ascii text at lt (comment_first (get_or text at 0) (drop (at + 1) text) (subst (λ (t : List ℕ). 0 < comment_len t) (drop_more text at 0 lt) some))
