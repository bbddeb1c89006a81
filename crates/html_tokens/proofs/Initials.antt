-- The letters that names begin with.
use Rattle.std.proofs.Common.{◌≡◌, ◌≢◌, ℕ, ◌≤◌, Bool, true, false, ◌==◌, leb, List, [], ◌∷◌, if◌then◌else◌, refl, sym, ap, ◌∙◌, arith, inl, inr, IsUtf8}
use Rattle.std.proofs.lemmas.Bool.{cases_Bool, cases_lt, eqb-true}
use Rattle.std.proofs.lemmas.Bool.Decides.{nat_tests}
use Rattle.std.specs.Char.{is_ascii_alphabetic}
use Rattle.html_syntax.specs.Characters.{is_between, lower}
use Rattle.html_syntax.specs.States.{replace_null}
use Rattle.html_tokens.specs.Tags.{read_name, initial, initial_byte}
use Rattle.html_references.proofs.Stretches.{input-nil, input-cons, input-first}
use Rattle.html_tokens.proofs.TagRuns.{head_return}

wide_none : (b : ℕ) → 128 ≤ b → is_ascii_alphabetic b ≡ false
wide_none b big = grind (arith, nat_tests)

wide_read : (c : ℕ) → 128 ≤ c → is_between 0x61 0x7A (lower (replace_null c)) ≡ false
wide_read c big = elim (cases_Bool (c == 0)) [
  | inl is ↦ absurd (grind (arith, nat_tests))
  | inr other ↦ rw other (grind (arith, nat_tests))
]

small_read : (b : ℕ) → is_between 0x61 0x7A (lower (replace_null b)) ≡ is_ascii_alphabetic b
small_read b = elim (cases_Bool (b == 0)) [
  | inl is ↦ let e : b ≡ 0 = eqb-true b 0 is in rw e refl
  | inr other ↦ rw other (grind (arith, nat_tests))
]

small_letter : (b : ℕ) → (if is_ascii_alphabetic b then lower b else 0) ≡ (if is_between 0x61 0x7A (lower (replace_null b)) then lower (replace_null b) else 0)
small_letter b = elim (cases_Bool (b == 0)) [
  | inl is ↦ let e : b ≡ 0 = eqb-true b 0 is in rw e refl
  | inr other ↦ ap (λ (t : Bool). if t then lower b else 0) (sym (small_read b)) ∙ rw other refl
]

pub initial_read : (bytes : List ℕ) → IsUtf8 bytes → initial_byte bytes ≡ initial (read_name bytes)
initial_read [] utf8 = rw input-nil refl
initial_read (b ∷ bytes) utf8 = elim (cases_lt b 128) [
  | inl small ↦ elim (cases_Bool (b == 13)) [
    | inl is ↦
        let e : b ≡ 13 = eqb-true b 13 is in
        let head = head_return bytes in
        rw (e, head.1) refl
    | inr other ↦
        let no_return : b ≢ 13 = (λ (y : b ≡ 13). let z : (13 == 13) ≡ false = rw y at other in cc) in
        rw (input-cons b bytes small no_return) (small_letter b)
  ]
  | inr big ↦
      let f = input-first (λ c. leb 128 c) (λ c large. grind (arith, nat_tests)) (λ y. absurd (let z : false ≡ true = y in cc)) b bytes utf8 (grind (arith, nat_tests)) in
      let p = f.passes in
      let large : 128 ≤ f.char = grind (arith, nat_tests) in
      rw (wide_none b big, f.is, wide_read f.char large) refl
]
