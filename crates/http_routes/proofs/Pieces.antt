-- The first piece of a value.
use Rattle.std.proofs.Common.{◌≡◌, ℕ, suc, ◌+◌, ◌-◌, ◌<◌, ◌≤◌, Bool, true, false, List, [], ◌∷◌, length, take, drop, refl, ap, arith, cond, length-drop}
use Rattle.std.specs.Prelude.{not}
use Rattle.std.specs.List.{onto_first, position_or_len, slice_split}
use Rattle.std.proofs.lemmas.List.{take_all}
use Rattle.std.proofs.lemmas.List.Splits.{slice_split_first}

-- a value without a separator is one piece
pub no_piece : (p : ℕ → Bool) (value : List ℕ) → length value ≤ position_or_len p value → slice_split p value ≡ value ∷ []
no_piece p [] none = refl
no_piece p (b ∷ value) none =
    elim (p b) as (λ v. suc (length value) ≤ cond (not v) (1 + position_or_len p value) 0 → cond v ([] ∷ slice_split p value) (onto_first b (slice_split p value)) ≡ (b ∷ value) ∷ []) [
      | true ↦ λ h. absurd (omega arith)
      | false ↦ λ h. ap (onto_first b) (no_piece p value (omega arith))
    ] none

-- the piece before the first separator, and the pieces after it
pub first_piece : (p : ℕ → Bool) (value : List ℕ) (at : ℕ) → at ≡ position_or_len p value → at < length value
    → slice_split p value ≡ take at value ∷ slice_split p (take (length value - (at + 1)) (drop (at + 1) value))
first_piece p value at is within =
    let all : take (length value - (at + 1)) (drop (at + 1) value) ≡ drop (at + 1) value = take_all (length value - (at + 1)) (drop (at + 1) value) (omega (arith, length-drop (at + 1) value)) in
    rw (all, is) (slice_split_first p value 0 (omega (arith, is, within)))
