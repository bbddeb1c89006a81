-- Names that are compared with words of lower letters.
use Rattle.std.proofs.Common.{◌≡◌, ◌≢◌, ℕ, ◌≤◌, Bool, true, false, ◌&&◌, ◌==◌, leb, List, [], ◌∷◌, map, refl, sym, ap, ◌∙◌, arith, inl, inr, IsUtf8}
use Rattle.std.proofs.lemmas.Bool.{cases_Bool, cases_lt, and_parts, eqb-true}
use Rattle.std.proofs.lemmas.Bool.Decides.{nat_tests}
use Rattle.std.specs.List.{list_all}
use Rattle.std.specs.Str.{bytes_eq}
use Rattle.html_syntax.specs.Characters.{lower}
use Rattle.html_syntax.specs.States.{replace_null}
use Rattle.html_tokens.specs.Tags.{read_name, is_word_char}
use Rattle.html_references.proofs.Stretches.{input-nil, input-cons, input-first, utf8_tail}
use Rattle.html_tokens.proofs.TagRuns.{head_return}

lowered_first : (x b : ℕ) → is_word_char x ≡ true → (lower b == lower x) ≡ (lower (replace_null b) == x)
lowered_first x b h = elim (cases_Bool (b == 0)) [
  | inl is ↦
      let e : b ≡ 0 = eqb-true b 0 is in
      let low : (0 == lower x) ≡ false = grind (arith, nat_tests) in
      let high : (0xFFFD == x) ≡ false = grind (arith, nat_tests) in
      rw (e, low, high) refl
  | inr other ↦
      let e : lower x ≡ x = grind (arith, nat_tests) in
      rw (other, e) refl
]

returned : (x : ℕ) → is_word_char x ≡ true → ((13 == lower x) ≡ false) × ((10 == x) ≡ false)
returned x h = (grind (arith, nat_tests), grind (arith, nat_tests))

wide_other : (x b : ℕ) → is_word_char x ≡ true → 128 ≤ b → (lower b == lower x) ≡ false
wide_other x b h big = grind (arith, nat_tests)

pub word_read : (word bytes : List ℕ) → list_all is_word_char word ≡ true → IsUtf8 bytes → bytes_eq (map lower bytes) (map lower word) ≡ bytes_eq (read_name bytes) word
word_read [] [] h utf8 = rw input-nil refl
word_read [] (b ∷ bytes) h utf8 =
    let f = input-first (λ c. true) (λ c big. refl) (λ h. refl) b bytes utf8 refl in
    rw f.is refl
word_read (x ∷ word) [] h utf8 = rw input-nil refl
word_read (x ∷ word) (b ∷ bytes) h utf8 =
    let parts = and_parts (is_word_char x) (list_all is_word_char word) h in
    elim (cases_lt b 128) [
      | inl small ↦ elim (cases_Bool (b == 13)) [
        | inl is ↦
            let e : b ≡ 13 = eqb-true b 13 is in
            let head = head_return bytes in
            let neither = returned x parts.0 in
            rw (e, head.1, neither.0, neither.1) refl
        | inr other ↦
            let no_return : b ≢ 13 = (λ (y : b ≡ 13). let z : (13 == 13) ≡ false = rw y at other in cc) in
            rw (input-cons b bytes small no_return) (
            ap (λ (t : Bool). t && bytes_eq (map lower bytes) (map lower word)) (lowered_first x b parts.0)
            ∙ ap (λ (t : Bool). (lower (replace_null b) == x) && t) (word_read word bytes parts.1 (utf8_tail b bytes small utf8)))
      ]
      | inr big ↦
          let f = input-first (λ c. leb 128 c) (λ c large. grind (arith, nat_tests)) (λ y. absurd (let z : false ≡ true = y in cc)) b bytes utf8 (grind (arith, nat_tests)) in
          let p = f.passes in
          let large : 128 ≤ f.char = grind (arith, nat_tests) in
          let first : (lower (replace_null f.char) == x) ≡ false = sym (lowered_first x f.char parts.0) ∙ wide_other x f.char parts.0 large in
          rw (wide_other x b parts.0 big, f.is, first) refl
    ]
