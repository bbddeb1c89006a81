-- What a series returns and tells.
use Rattle.std.proofs.Common.{ℕ, ◌≡◌, ◌-◌, ◌^◌, [], ◌∷◌, refl, Some, None}
use Rattle.site_io.specs.Series.{returned, told_values}

-- the last value is returned again
repeats_last : returned {T = ℕ} (5 ∷ 7 ∷ []) 4 ≡ 5 ∷ 7 ∷ 7 ∷ 7 ∷ []
unfolding returned
repeats_last = refl

tells_two : told_values {T = ℕ} (record { values = 5 ∷ 7 ∷ 9 ∷ []; calls = 2 }) ≡ Some (5 ∷ 7 ∷ [])
unfolding told_values returned
tells_two = refl

tells_nothing : told_values {T = ℕ} (record { values = 5 ∷ []; calls = 2 ^ 64 - 1 }) ≡ None
unfolding told_values returned
tells_nothing = refl
