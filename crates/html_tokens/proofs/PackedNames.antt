-- Names as numbers: different short names have different numbers.
use Rattle.std.proofs.Common.{◌≡◌, ℕ, ◌+◌, ◌*◌, ◌<◌, ◌≤◌, List, [], ◌∷◌, length, refl, arith, inl, inr}
use Rattle.std.proofs.Math.Nat.{mul-le-mul_right}
use Rattle.std.proofs.lemmas.Bool.{cases_lt}
use Rattle.std.specs.List.{fold, AllByRecursion}
use Rattle.html_tokens.specs.PackedNames.{pack}

-- the digits after m
abbrev pub number_after : ℕ → List ℕ → ℕ
number_after m xs = fold (λ n b. n * 256 + b) m xs

-- 256 times itself, as often as there are digits
abbrev size : List ℕ → ℕ
size [] = 1
size (_ ∷ xs) = 256 * size xs

abbrev pub AreBytes : List ℕ → Type 0
AreBytes xs = AllByRecursion (λ b. b < 256) xs

size_pos : (xs : List ℕ) → 1 ≤ size xs
size_pos [] = omega arith
size_pos (x ∷ xs) = let h = size_pos xs in omega (arith, h)

low : (m : ℕ) (xs : List ℕ) → m * size xs ≤ number_after m xs
low m [] = omega arith
low m (x ∷ xs) = let h = low (m * 256 + x) xs in omega (arith, h)

high : (m : ℕ) (xs : List ℕ) → AreBytes xs → number_after m xs < (m + 1) * size xs
high m [] _ = omega arith
high m (x ∷ xs) bytes =
    let h = high (m * 256 + x) xs bytes.1 in
    let le : m * 256 + x + 1 ≤ (m + 1) * 256 = omega (arith, bytes.0) in
    let more = mul-le-mul_right (size xs) le in
    omega (arith, h, more)

longer : (xs ys : List ℕ) → length xs < length ys → 256 * size xs ≤ size ys
longer xs [] lt = absurd (omega arith)
longer [] (y ∷ ys) lt = let h = size_pos ys in omega (arith, h)
longer (x ∷ xs) (y ∷ ys) lt =
    let less : length xs < length ys = omega (arith, lt) in
    let h = longer xs ys less in omega (arith, h)

-- the shorter of two names has the smaller number
shorter_less : (xs ys : List ℕ) → AreBytes xs → length xs < length ys → pack xs < pack ys
shorter_less xs ys bytes lt =
    let top = high 1 xs bytes in
    let far = longer xs ys lt in
    let bottom = low 1 ys in
    let pos = size_pos xs in
    omega (arith, top, far, bottom, pos)

same_digits : (m n : ℕ) (xs ys : List ℕ) → AreBytes xs → AreBytes ys → length xs ≡ length ys → number_after m xs ≡ number_after n ys → (m ≡ n) × (xs ≡ ys)
same_digits m n [] [] _ _ _ e = (e, refl)
same_digits m n [] (y ∷ ys) _ _ len _ = absurd (omega (arith, len))
same_digits m n (x ∷ xs) [] _ _ len _ = absurd (omega (arith, len))
same_digits m n (x ∷ xs) (y ∷ ys) p q len e =
    let len_rest : length xs ≡ length ys = omega (arith, len) in
    let rest = same_digits (m * 256 + x) (n * 256 + y) xs ys p.1 q.1 len_rest e in
    let front : m ≡ n = omega (arith, rest.0, p.0, q.0) in
    let digit : x ≡ y = omega (arith, rest.0, p.0, q.0) in
    (front, cc (digit, rest.1))

pub packed_apart : (xs ys : List ℕ) → AreBytes xs → AreBytes ys → pack xs ≡ pack ys → xs ≡ ys
packed_apart xs ys p q e = elim (cases_lt (length xs) (length ys)) [
  | inl lt ↦ let less = shorter_less xs ys p lt in absurd (omega (arith, less, e))
  | inr le ↦ elim (cases_lt (length ys) (length xs)) [
    | inl lt ↦ let less = shorter_less ys xs q lt in absurd (omega (arith, less, e))
    | inr ge ↦ (same_digits 1 1 xs ys p q (omega (arith, le, ge)) e).1
  ]
]
