-- Pages of a list, from its first or from its last.
use Rattle.std.proofs.Common.{◌≡◌, ℕ, ◌+◌, ◌-◌, ◌≤◌, inl, inr, List, [], ◌∷◌, ◌++◌, length, take, drop, refl, sym, ap, ◌∙◌, arith, None, length-drop}
use Rattle.std.specs.Prelude.{min, reverse, zero, suc}
use Rattle.std.specs.List.{slice_get}
use Rattle.std.proofs.lemmas.Bool.{cases_lt}
use Rattle.std.proofs.lemmas.List.{take_all, drop_all, reverse-append, length-reverse, length-take-le, take-append-drop, drop-take}
use Rattle.std.proofs.Math.Seq.{take-append_seam, drop-append_seam}

-- what is left of a list after `n`, or the first `k` of it
pub slice_of_page : {X : Type 0} (xs : List X) (n k start end : ℕ) → start ≡ min (length xs) n → end ≡ min (length xs) (start + k) → take (end - start) (drop start xs) ≡ take k (drop n xs)
slice_of_page xs n k start end s e =
    elim (cases_lt n (length xs)) [
      | inl less ↦
          let at : start ≡ n = omega (arith, s, less) in
          rw at (elim (cases_lt (n + k) (length xs)) [
            | inl full ↦ let size : end - n ≡ k = omega (arith, s, e, less, full) in rw size refl
            | inr short ↦
                let all : length (drop n xs) ≤ end - n = omega (arith, s, e, less, short, length-drop n xs) in
                let few : length (drop n xs) ≤ k = omega (arith, s, e, less, short, length-drop n xs) in
                take_all (end - n) (drop n xs) all ∙ sym (take_all k (drop n xs) few)
          ])
      | inr past ↦
          let at : length xs ≤ start = omega (arith, s, past) in
          rw (drop_all start xs at, drop_all n xs past) (take_all (end - start) [] (omega arith) ∙ sym (take_all k [] (omega arith)))
    ]

pub none_past : {X : Type 0} (xs : List X) (i : ℕ) → length xs ≤ i → slice_get xs i ≡ None
none_past [] i past = refl
none_past (x ∷ xs) zero past = absurd (omega arith)
none_past (x ∷ xs) (suc i) past = none_past xs i (omega arith)

-- ---- lists from the last

pub first_of_reverse : {X : Type 0} (xs : List X) (k : ℕ) → take k (reverse xs) ≡ reverse (drop (length xs - k) xs)
first_of_reverse xs k = elim (cases_lt (length xs) k) [
  | inl many ↦
      let none : length xs - k ≡ 0 = omega (arith, many) in
      take_all k (reverse xs) (omega (arith, many, length-reverse xs)) ∙ sym (ap (λ n. reverse (drop n xs)) none)
  | inr few ↦
      let n = length xs - k in
      let size : length (reverse (drop n xs)) ≡ k = length-reverse (drop n xs) ∙ omega (arith, few, length-drop n xs) in
      let split : reverse xs ≡ reverse (drop n xs) ++ reverse (take n xs) = sym (ap reverse (take-append-drop n xs)) ∙ reverse-append (take n xs) (drop n xs) in
      ap (λ m. take m (reverse xs)) (sym size) ∙ ap (λ t. take (length (reverse (drop n xs))) t) split ∙ take-append_seam (reverse (drop n xs)) (reverse (take n xs))
]

pub rest_of_reverse : {X : Type 0} (xs : List X) (k : ℕ) → drop k (reverse xs) ≡ reverse (take (length xs - k) xs)
rest_of_reverse xs k = elim (cases_lt (length xs) k) [
  | inl many ↦
      let none : length xs - k ≡ 0 = omega (arith, many) in
      drop_all k (reverse xs) (omega (arith, many, length-reverse xs)) ∙ sym (ap (λ n. reverse (take n xs)) none)
  | inr few ↦
      let n = length xs - k in
      let size : length (reverse (drop n xs)) ≡ k = length-reverse (drop n xs) ∙ omega (arith, few, length-drop n xs) in
      let split : reverse xs ≡ reverse (drop n xs) ++ reverse (take n xs) = sym (ap reverse (take-append-drop n xs)) ∙ reverse-append (take n xs) (drop n xs) in
      ap (λ m. drop m (reverse xs)) (sym size) ∙ ap (λ t. drop (length (reverse (drop n xs))) t) split ∙ drop-append_seam (reverse (drop n xs)) (reverse (take n xs))
]

-- the `k` before the last `n`, from the last
pub slice_from_last : {X : Type 0} (xs : List X) (n k start end : ℕ) → end ≡ length xs - n → start ≡ end - k → reverse (take (end - start) (drop start xs)) ≡ take k (drop n (reverse xs))
slice_from_last xs n k start end e s =
    let size : length (take end xs) ≡ end = length-take-le end xs (omega (arith, e)) in
    let sum : end ≡ start + (end - start) = omega (arith, s) in
    let slice : drop start (take end xs) ≡ take (end - start) (drop start xs) = ap (λ m. drop start (take m xs)) sum ∙ drop-take start (end - start) xs in
    let at : length (take end xs) - k ≡ start = omega (arith, size, s) in
    sym (ap (take k) (rest_of_reverse xs n ∙ ap (λ m. reverse (take m xs)) (sym e)) ∙ first_of_reverse (take end xs) k ∙ ap (λ m. reverse (drop m (take end xs))) at ∙ ap reverse slice)
