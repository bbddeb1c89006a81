-- Prefixes of lists.
use Rattle.std.proofs.Common.{◌≡◌, ◌≤◌, List, [], ◌∷◌, ◌++◌, length, take, drop, refl, ap, sym, ◌∙◌, arith, append_assoc, append-nil}
use Rattle.std.proofs.lemmas.List.{take-append-drop}
use mathlib.Core.List.{IsPrefix}

module _ {A : Type 0} where
  pub prefix_self : (xs : List A) → IsPrefix xs xs
  prefix_self xs = ([], append-nil xs)

  pub prefix_trans : (xs ys zs : List A) → IsPrefix xs ys → IsPrefix ys zs → IsPrefix xs zs
  prefix_trans xs ys zs p q = (p.0 ++ q.0, sym (append_assoc xs p.0 q.0) ∙ (ap (λ l. l ++ q.0) p.1 ∙ q.1))

  -- of two prefixes of one list the shorter is a prefix of the longer
  pub prefix_of_longer : (xs ys zs : List A) → IsPrefix xs zs → IsPrefix ys zs → length xs ≤ length ys → IsPrefix xs ys
  prefix_of_longer [] ys zs p q short = (ys, refl)
  prefix_of_longer (x ∷ xs) [] zs p q short = absurd (omega arith)
  prefix_of_longer (x ∷ xs) (y ∷ ys) [] p q short = absurd (cc (p.1))
  prefix_of_longer (x ∷ xs) (y ∷ ys) (z ∷ zs) p q short =
      let first : x ≡ y = cc (p.1, q.1) in
      let rest = prefix_of_longer xs ys zs (p.0, cc (p.1)) (q.0, cc (q.1)) (omega arith) in
      (rest.0, cc (first, rest.1))

  -- a prefix that isn't shorter is the whole list
  pub prefix_is_whole : (xs ys : List A) → IsPrefix xs ys → length ys ≤ length xs → xs ≡ ys
  prefix_is_whole [] [] p long = refl
  prefix_is_whole [] (y ∷ ys) p long = absurd (omega arith)
  prefix_is_whole (x ∷ xs) [] p long = absurd (cc (p.1))
  prefix_is_whole (x ∷ xs) (y ∷ ys) p long =
      let rest = prefix_is_whole xs ys (p.0, cc (p.1)) (omega arith) in cc (p.1, rest)

  pub prefix_of_take : (xs ys : List A) → take (length xs) ys ≡ xs → IsPrefix xs ys
  prefix_of_take xs ys e = (drop (length xs) ys, ap (λ l. l ++ drop (length xs) ys) (sym e) ∙ take-append-drop (length xs) ys)
