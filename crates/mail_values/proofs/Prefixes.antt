-- Prefixes of a list, with_number piece by piece.
use Rattle.std.proofs.Common.{◌≡◌, ℕ, ◌+◌, ◌≤◌, List, ◌++◌, length, take, drop, sym, ap, ◌∙◌}
use Rattle.std.proofs.lemmas.List.{take-append-drop, length-take-le}
use Rattle.std.proofs.Math.Seq.{take-append-add}

-- the first i elements and then n more are the first i + n
pub take_further : (xs : List ℕ) (i n : ℕ) → i ≤ length xs → take i xs ++ take n (drop i xs) ≡ take (i + n) xs
take_further xs i n h =
    let size : length (take i xs) ≡ i = length-take-le i xs h in
    let whole : take i xs ++ drop i xs ≡ xs = take-append-drop i xs in
    sym (take-append-add (take i xs) (drop i xs) n) ∙ ap (λ k. take (k + n) (take i xs ++ drop i xs)) size ∙ ap (λ l. take (i + n) l) whole
