-- Lowering the bytes of a text lowers its characters.
use Rattle.std.proofs.Common.{◌≡◌, ℕ, ◌+◌, ◌/◌, ◌%◌, ◌<◌, ◌≤◌, true, false, ltb, List, [], ◌∷◌, ◌++◌, map, chars, refl, sym, ap, ◌∙◌, arith, inl, inr, IsUtf8}
use Rattle.std.proofs.lemmas.Bool.{cases_Bool, cases_lt, and_parts, and_from, lt-ltb}
use Rattle.std.proofs.lemmas.Bool.Decides.{nat_tests}
use Rattle.std.proofs.lemmas.List.{map-append}
use Rattle.std.proofs.lemmas.Str.{encodes-chars, chars-encodes, scalars-chars}
use lib.Utf8.{encode, encodes, scalar, scalars}
use Rattle.html_syntax.specs.Characters.{lower}

high_stays : (b : ℕ) → 128 ≤ b → lower b ≡ b
high_stays b big = grind (arith, nat_tests)

two : (a b : ℕ) → 128 ≤ a → 128 ≤ b → map lower (a ∷ b ∷ []) ≡ a ∷ b ∷ []
two a b x y = rw (high_stays a x, high_stays b y) refl

three : (a b c : ℕ) → 128 ≤ a → 128 ≤ b → 128 ≤ c → map lower (a ∷ b ∷ c ∷ []) ≡ a ∷ b ∷ c ∷ []
three a b c x y z = rw (high_stays a x, high_stays b y, high_stays c z) refl

four : (a b c d : ℕ) → 128 ≤ a → 128 ≤ b → 128 ≤ c → 128 ≤ d → map lower (a ∷ b ∷ c ∷ d ∷ []) ≡ a ∷ b ∷ c ∷ d ∷ []
four a b c d x y z w = rw (high_stays a x, high_stays b y, high_stays c z, high_stays d w) refl

wide_encoded : (c : ℕ) → (ltb c 128 ≡ false) → map lower (encode c) ≡ encode c
unfolding encode
wide_encoded c h = elim (cases_Bool (ltb c 2048)) [
  | inl x ↦ rw (h, x) (two (192 + c / 64) (128 + c % 64) (omega arith) (omega arith))
  | inr y ↦ elim (cases_Bool (ltb c 65536)) [
    | inl x ↦ rw (h, y, x) (three (224 + c / 4096) (128 + (c / 64) % 64) (128 + c % 64) (omega arith) (omega arith) (omega arith))
    | inr z ↦ rw (h, y, z) (four (240 + c / 262144) (128 + (c / 4096) % 64) (128 + (c / 64) % 64) (128 + c % 64) (omega arith) (omega arith) (omega arith) (omega arith))
  ]
]

small_encoded : (c : ℕ) → c < 128 → map lower (encode c) ≡ encode (lower c)
unfolding encode
small_encoded c small =
    let after : lower c < 128 = grind (arith, nat_tests) in
    rw (lt-ltb c 128 small, lt-ltb (lower c) 128 after) refl

encoded : (c : ℕ) → map lower (encode c) ≡ encode (lower c)
encoded c = elim (cases_lt c 128) [
  | inl small ↦ small_encoded c small
  | inr big ↦
      let test : ltb c 128 ≡ false = grind (arith, nat_tests) in
      wide_encoded c test ∙ ap encode (sym (high_stays c big))
]

all_encoded : (cs : List ℕ) → map lower (encodes cs) ≡ encodes (map lower cs)
all_encoded [] = refl
all_encoded (c ∷ cs) = map-append lower (encode c) (encodes cs) ∙ ap (λ (l : List ℕ). l ++ map lower (encodes cs)) (encoded c) ∙ ap (λ (l : List ℕ). encode (lower c) ++ l) (all_encoded cs)

lower_scalar : (c : ℕ) → scalar c ≡ true → scalar (lower c) ≡ true
lower_scalar c h = elim (cases_lt c 128) [
  | inl small ↦
      let after : lower c < 55296 = grind (arith, nat_tests) in
      rw (lt-ltb (lower c) 55296 after) refl
  | inr big ↦ ap scalar (high_stays c big) ∙ h
]

lower_scalars : (cs : List ℕ) → scalars cs ≡ true → scalars (map lower cs) ≡ true
lower_scalars [] h = refl
lower_scalars (c ∷ cs) h =
    let parts = and_parts (scalar c) (scalars cs) h in
    and_from (scalar (lower c)) (scalars (map lower cs)) (lower_scalar c parts.0) (lower_scalars cs parts.1)

pub chars-lower : (bytes : List ℕ) → IsUtf8 bytes → chars (map lower bytes) ≡ map lower (chars bytes)
chars-lower bytes utf8 =
    ap (λ (l : List ℕ). chars (map lower l)) (sym (encodes-chars bytes utf8)) ∙ ap chars (all_encoded (chars bytes)) ∙ chars-encodes (map lower (chars bytes)) (lower_scalars (chars bytes) (scalars-chars bytes utf8))
