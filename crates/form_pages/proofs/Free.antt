-- The lowest free number, number by number.
use Rattle.std.proofs.Common.{◌≡◌, ℕ, ◌+◌, ◌-◌, ◌<◌, suc, Bool, true, false, Some, find, refl, arith}
use Rattle.std.specs.List.{range_with_len}

pub next_free : (p : ℕ → Bool) (n : ℕ) → n < 17 → p n ≡ false → find p (range_with_len (n + 1) (17 - (n + 1))) ≡ find p (range_with_len n (17 - n))
next_free p n h e = let more : 17 - n ≡ suc (17 - (n + 1)) = omega arith in rw (more, e) refl

pub first_free : (p : ℕ → Bool) (n : ℕ) → n < 17 → p n ≡ true → find p (range_with_len n (17 - n)) ≡ Some n
first_free p n h e = let more : 17 - n ≡ suc (17 - (n + 1)) = omega arith in rw (more, e) refl
