-- The steps in which a text is cut.
use Rattle.std.specs.Prelude.{◌≡◌, ◌≤◌, ◌<◌, ℕ, Bool, true, false, ◌||◌, List, [], ◌∷◌, ◌++◌, length, take, slice_index, Option, Some, None, codes}
use Rattle.style_wash.specs.Characters.{is_quote, is_separator}
use Rattle.style_wash.specs.Values.{parts, Value, written_value}
use Rattle.style_wash.specs.Values.Nesting.{Outside}
use Rattle.style_wash.specs.Declarations.{Declaration, is_piece_end}

-- a text is empty, or begins with a separator
abbrev pub begins_gap : List ℕ → Bool
begins_gap [] = true
begins_gap (c ∷ more) = is_separator c

-- a value is a text without a gap, and a rest
pub record IsTextAndRest (value text rest : List ℕ) : Type 0 where
  pub parts_are : parts Outside value ≡ record { first = text; more = (parts Outside rest).more }
  pub gap : begins_gap rest ≡ true
  pub bound : length rest ≤ length value

-- a text is a gap, and a rest
pub record IsGapAndRest (text gap rest : List ℕ) : Type 0 where
  pub parts_are : (parts Outside text).more ≡ record { gap = gap; text = (parts Outside rest).first } ∷ (parts Outside rest).more
  pub bound : length rest < length text

-- a text begins with another
pub record BeginsWith (front text : List ℕ) : Type 0 where
  pub bound : length front ≤ length text
  pub is : take (length front) text ≡ front

-- none of the first n bytes ends a piece or begins a quote
abbrev pub IsPlainBefore : ℕ → List ℕ → Type 0
IsPlainBefore n text = (k : ℕ) → k < n → (is_piece_end Outside (slice_index text k) || is_quote (slice_index text k)) ≡ false

-- a text with a value appended
abbrev pub written_onto : List ℕ → Option Value → Option (List ℕ)
written_onto front None = None
written_onto front (Some value) = Some (front ++ written_value value)

-- a style with a property appended
abbrev pub property_onto : List ℕ → List ℕ → List ℕ
property_onto [] property = property ++ codes ": "
property_onto (c ∷ more) property = (c ∷ more) ++ codes "; " ++ property ++ codes ": "

-- a style with one more declaration
abbrev pub with_declaration : List ℕ → Option Declaration → List ℕ
with_declaration style None = style
with_declaration style (Some declaration) = property_onto style declaration.property ++ written_value declaration.value
