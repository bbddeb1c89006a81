-- The front of a list after two writes, one after the other.
use Rattle.std.proofs.Common.{◌≡◌, ℕ, ◌+◌, ◌<◌, List, [], ◌∷◌, ◌++◌, length, set, take, sym, ap, ◌∙◌, arith, append_assoc, length-append, length-set}
use Rattle.std.proofs.lemmas.List.{take_at, take_more_set}

pub take-set-two : (xs : List ℕ) (n a b : ℕ) → n + 1 < length xs
    → take (n + 2) (set (set xs n a) (n + 1) b) ≡ take n xs ++ a ∷ b ∷ []
take-set-two xs n a b lt =
    let within : n + 1 < length (set xs n a) = omega (arith, length-set xs n a) in
    let count : n + 2 ≡ n + 1 + 1 = omega arith in
    let outer : take (n + 1 + 1) (set (set xs n a) (n + 1) b) ≡ take (n + 1) (set xs n a) ++ b ∷ [] = take_more_set (set xs n a) (n + 1) b within in
    let inner : take (n + 1) (set xs n a) ≡ take n xs ++ a ∷ [] = take_more_set xs n a (omega arith) in
    rw count (outer ∙ ap (λ front. front ++ b ∷ []) inner ∙ append_assoc (take n xs) (a ∷ []) (b ∷ []))

pub take-set-three : (xs : List ℕ) (n a b c : ℕ) → n + 2 < length xs
    → take (n + 3) (set (set (set xs n a) (n + 1) b) (n + 2) c) ≡ take n xs ++ a ∷ b ∷ c ∷ []
take-set-three xs n a b c lt =
    let two = set (set xs n a) (n + 1) b in
    let within : n + 2 < length two = omega (arith, length-set xs n a, length-set (set xs n a) (n + 1) b) in
    let count : n + 3 ≡ n + 2 + 1 = omega arith in
    let outer : take (n + 2 + 1) (set two (n + 2) c) ≡ take (n + 2) two ++ c ∷ [] = take_more_set two (n + 2) c within in
    rw count (outer ∙ ap (λ front. front ++ c ∷ []) (take-set-two xs n a b (omega arith)) ∙ append_assoc (take n xs) (a ∷ b ∷ []) (c ∷ []))

pub take_front_and_piece : (front piece rest : List ℕ) (n m : ℕ) → length front ≡ n → length piece ≡ m
    → take (n + m) (front ++ (piece ++ rest)) ≡ front ++ piece
take_front_and_piece front piece rest n m long wide =
    ap (take (n + m)) (sym (append_assoc front piece rest))
    ∙ take_at (front ++ piece) rest (n + m) (omega (arith, length-append front piece))
