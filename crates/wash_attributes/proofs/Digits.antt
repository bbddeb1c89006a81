-- A run of digits, one at a time.
use Rattle.std.proofs.Common.{◌≡◌, ◌<◌, ◌-◌, ◌+◌, ℕ, zero, suc, Bool, true, false, ◌||◌, ◌==◌, List, [], ◌∷◌, drop, refl, arith}
use Rattle.std.proofs.lemmas.Bool.Decides.{nat_tests}
use Rattle.html_syntax.specs.Characters.{is_digit}
use Rattle.html_rules.specs.Values.{percent_sign, has_at_most_digits}
use Rattle.wash_attributes.specs.Written.{begins_with_digit, ends_number}

not_percent : (c : ℕ) → is_digit c ≡ true → (c == percent_sign) ≡ false
not_percent c h = grind (arith, nat_tests)

or_no : (b : Bool) → (b || false) ≡ b
or_no true = refl
or_no false = refl

one_digit : (n : ℕ) (rest : List ℕ) → begins_with_digit rest ≡ true → has_at_most_digits (suc n) rest ≡ has_at_most_digits n (drop 1 rest)
one_digit n [] h = absurd cc
one_digit n (c ∷ cs) h = rw (h, not_percent c h) (or_no (has_at_most_digits n cs))

-- the digit number `i` of at most `count`
pub next_digit : (count i : ℕ) (rest more : List ℕ) → i < count → begins_with_digit rest ≡ true → more ≡ drop 1 rest → has_at_most_digits (count - (i + 1)) more ≡ has_at_most_digits (count - i) rest
next_digit count i rest more within digit e =
    let size : count - i ≡ suc (count - (i + 1)) = omega arith in
    rw (size, e) (let step = one_digit (count - (i + 1)) rest digit in cc)

pub no_digit : (n : ℕ) (rest : List ℕ) → begins_with_digit rest ≡ false → has_at_most_digits n rest ≡ ends_number rest
no_digit zero [] h = refl
no_digit zero (c ∷ cs) h = refl
no_digit (suc n) [] h = refl
no_digit (suc n) (c ∷ cs) h = rw h refl

pub no_more : (rest : List ℕ) → has_at_most_digits 0 rest ≡ ends_number rest
no_more [] = refl
no_more (c ∷ cs) = refl
