-- Laws of framing.
use Rattle.std.specs.Prelude.{◌≡◌, ℕ, ◌+◌, ◌-◌, ◌*◌, ◌<◌, ◌⊎◌, false, true, List, [], ◌∷◌, ◌++◌, length}
use Rattle.std.specs.List.{fold, list_all}
use Rattle.imap_framing.specs.Bytes.{line_feed, carriage_return, digit_zero, left_brace, right_brace}
use Rattle.imap_framing.specs.Lines.{is_digit, tail_of, has_literals}
use Rattle.imap_framing.specs.Lines.Tail.{Size}
use Rattle.imap_framing.specs.Units.{IsUnit, IsIncomplete, HasTooLongLiteral, frame_state, after_line}
use Rattle.imap_framing.specs.Streams.{SplitsStream}

-- ---- where units end

-- no unit is a proper prefix of another
abbrev pub NoUnitIsPrefix : Type 0
NoUnitIsPrefix = (a b x y : List ℕ) → IsUnit a → IsUnit b → a ++ x ≡ b ++ y → (a ≡ b) × (x ≡ y)

-- a rest from which no unit is read: an incomplete unit, or one with a literal that is too long
abbrev pub IsEnd : List ℕ → Type 0
IsEnd rest = IsIncomplete rest ⊎ HasTooLongLiteral rest

abbrev pub EndsBeginWithNoUnit : Type 0
EndsBeginWithNoUnit = (unit more : List ℕ) → IsUnit unit → IsEnd (unit ++ more) → ⊥

-- a stream is cut into units in one way only
abbrev pub SplitIsUnique : Type 0
SplitIsUnique = (stream : List ℕ) (us vs : List (List ℕ)) (r q : List ℕ) → SplitsStream IsUnit stream us r → IsEnd r → SplitsStream IsUnit stream vs q → IsEnd q → (us ≡ vs) × (r ≡ q)

-- ---- lines

abbrev pub line_end : List ℕ
line_end = carriage_return ∷ line_feed ∷ []

-- the text of a line: it has no CR LF
abbrev pub IsLine : List ℕ → Type 0
IsLine line = (front back : List ℕ) → line ≡ front ++ (line_end ++ back) → ⊥

-- a first line ends at its first CR LF, whatever its bytes
abbrev pub LinesEndAtFirstCrLf : Type 0
LinesEndAtFirstCrLf = (line : List ℕ) → IsLine line → frame_state (line ++ line_end) ≡ after_line true line

-- so a unit without literals ends there
abbrev pub PlainUnitsAreLines : Type 0
PlainUnitsAreLines = (line : List ℕ) → IsLine line → has_literals line ≡ false → IsUnit (line ++ line_end)

abbrev pub value : List ℕ → ℕ
value digits = fold (λ n c. n * 10 + (c - digit_zero)) 0 digits

-- a line that ends with `{`, digits and `}`
pub record EndsWithSize (line : List ℕ) (n : ℕ) : Type 0 where
  pub front : List ℕ
  pub digits : List ℕ
  pub some : 0 < length digits
  pub all : list_all is_digit digits ≡ true
  pub value_is : value digits ≡ n
  pub line_is : line ≡ front ++ (left_brace ∷ digits) ++ (right_brace ∷ [])

-- these lines end with a size, and no others
abbrev pub SizesAreRead : Type 0
SizesAreRead = (line : List ℕ) (n : ℕ) → EndsWithSize line n → tail_of line ≡ Size n

abbrev pub OnlySizesAreRead : Type 0
OnlySizesAreRead = (line : List ℕ) (n : ℕ) → tail_of line ≡ Size n → EndsWithSize line n
