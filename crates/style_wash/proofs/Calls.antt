-- No function but `rgb` is called.
use Rattle.std.proofs.Common.{◌≡◌, ℕ, Bool, true, not, ◌||◌, ◌==◌, List, [], ◌∷◌, ◌++◌, refl}
use Rattle.std.specs.Prelude.{codes}
use Rattle.std.specs.Str.{bytes_eq}
use Rattle.std.specs.List.{list_all}
use Rattle.style_wash.specs.Characters.{is_delimiter}
use Rattle.style_wash.specs.Declarations.{calls_only_rgb, next_name}
use Rattle.style_wash.proofs.Facts.{and_true}

-- a text calls no function but `rgb`, whatever name precedes it
pub record CallsOnlyRgb (text : List ℕ) : Type 0 where
  pub whatever : (name : List ℕ) → calls_only_rgb name text ≡ true

-- the same of a text at the start or after a delimiter
pub record CallsOnlyRgbFirst (text : List ℕ) : Type 0 where
  pub first : calls_only_rgb [] text ≡ true

abbrev pub is_no_bracket : ℕ → Bool
is_no_bracket c = not (c == 40)

goes_on : (name xs ys : List ℕ) → calls_only_rgb name xs ≡ true → CallsOnlyRgb ys → calls_only_rgb name (xs ++ ys) ≡ true
unfolding calls_only_rgb
goes_on name [] ys e more = more.whatever name
goes_on name (c ∷ xs) ys e more =
    let both = and_true (not (c == 40) || bytes_eq name (codes "rgb")) (calls_only_rgb (next_name name c) xs) e in
    rw (both.0, goes_on (next_name name c) xs ys both.1 more) refl

pub calls-append : (xs ys : List ℕ) → CallsOnlyRgb xs → CallsOnlyRgb ys → CallsOnlyRgb (xs ++ ys)
calls-append xs ys first more = record { whatever = λ name. goes_on name xs ys (first.whatever name) more }

pub calls_first-append : (xs ys : List ℕ) → CallsOnlyRgbFirst xs → CallsOnlyRgb ys → CallsOnlyRgbFirst (xs ++ ys)
calls_first-append xs ys first more = record { first = goes_on [] xs ys first.first more }

none_in : (name text : List ℕ) → list_all is_no_bracket text ≡ true → calls_only_rgb name text ≡ true
unfolding calls_only_rgb
none_in name [] none = refl
none_in name (c ∷ more) none =
    let both = and_true (is_no_bracket c) (list_all is_no_bracket more) none in
    rw (both.0, none_in (next_name name c) more both.1) refl

pub calls_none : (text : List ℕ) → list_all is_no_bracket text ≡ true → CallsOnlyRgb text
calls_none text none = record { whatever = λ name. none_in name text none }

pub calls_first_none : (text : List ℕ) → list_all is_no_bracket text ≡ true → CallsOnlyRgbFirst text
calls_first_none text none = record { first = none_in [] text none }

pub calls_rgb : (levels : List ℕ) → CallsOnlyRgb levels → CallsOnlyRgbFirst (codes "rgb(" ++ levels)
unfolding calls_only_rgb
calls_rgb levels more = record { first = more.whatever [] }

pub after_delimiter : (c : ℕ) (text : List ℕ) → is_delimiter c ≡ true → is_no_bracket c ≡ true → CallsOnlyRgbFirst text → CallsOnlyRgb (c ∷ text)
unfolding calls_only_rgb
after_delimiter c text delimiter none first = record { whatever = λ name. rw (none, delimiter, first.first) refl }

pub calls_first : (text : List ℕ) → CallsOnlyRgb text → CallsOnlyRgbFirst text
calls_first text calls = record { first = calls.whatever [] }
