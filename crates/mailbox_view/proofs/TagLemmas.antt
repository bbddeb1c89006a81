-- Numerals of tags.
use Rattle.std.proofs.Common.{◌≡◌, ℕ, ◌<◌, ◌≤◌, ◌==◌, false, List, [], ◌∷◌, arith}
use Rattle.std.specs.List.{fold}
use Rattle.std.proofs.lemmas.Bool.{ne_eqb}
use Rattle.mailbox_view.specs.View.{with_digit}

-- more digits make no smaller number
pub more_digits : (value : ℕ) (digits : List ℕ) → value ≤ fold with_digit value digits
more_digits value [] = omega arith
more_digits value (digit ∷ digits) = omega (more_digits (with_digit value digit) digits, arith)

pub too_great : (value number : ℕ) (digits : List ℕ) → number < value → (fold with_digit value digits == number) ≡ false
too_great value number digits h = ne_eqb (fold with_digit value digits) number (λ same. absurd (omega (same, more_digits value digits, h, arith)))
