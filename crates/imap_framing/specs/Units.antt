-- The units of a server's stream (RFC 9051 §2.2.2, §4.3). A unit ends at its first CR LF, with one exception: in a unit that has
-- literals, a line that ends with `{n}` is followed by n octets and another line.
use Rattle.std.specs.Prelude.{◌≡◌, ℕ, zero, suc, ◌-◌, Bool, true, false, not, ◌||◌, ◌==◌, nat_lt, if◌then◌else◌, List, [], ◌∷◌, ◌++◌, length, take}
use Rattle.std.specs.List.{ends_with}
use Rattle.imap_framing.specs.Bytes.{line_feed, carriage_return}
use Rattle.imap_framing.specs.Lines.{Tail, tail_of, has_literals}
use Rattle.imap_framing.specs.Lines.Tail.{Size}

-- the octets of the longest literal that is read
abbrev pub limit : ℕ
limit = 33554432

-- the state of the first unit after some bytes
pub data FrameState : Type 0 where
  -- in a line: whether it is the unit's first, and the line so far
  Line : Bool → List ℕ → FrameState
  -- in a literal: the octets that are left
  Octets : ℕ → FrameState
  -- at the end of the unit; at or after the size of a literal that is too long; past the end of the unit
  Whole TooLong Past : FrameState

abbrev pub octets_left : ℕ → FrameState
octets_left zero = Line false []
octets_left (suc n) = Octets (suc n)

abbrev pub after_tail : Tail → FrameState
after_tail (Size n) = if nat_lt limit n then TooLong else octets_left n
after_tail tail = Whole

-- after the CR LF of a line
abbrev pub after_line : Bool → List ℕ → FrameState
after_line first line = if not first || has_literals line then after_tail (tail_of line) else Whole

abbrev pub ends_with_carriage_return : List ℕ → Bool
ends_with_carriage_return line = ends_with (λ a b. a == b) line (carriage_return ∷ [])

-- after an LF, which ends the line only after a CR
abbrev pub after_line_feed : Bool → List ℕ → FrameState
after_line_feed first line = if ends_with_carriage_return line then after_line first (take (length line - 1) line) else Line first (line ++ line_feed ∷ [])

unfoldable pub step : FrameState → ℕ → FrameState
step (Line first line) c = if c == line_feed then after_line_feed first line else Line first (line ++ c ∷ [])
step (Octets zero) c = Past
step (Octets (suc n)) c = octets_left n
step Whole c = Past
step TooLong c = TooLong
step Past c = Past

unfoldable pub frame_state_from : FrameState → List ℕ → FrameState
frame_state_from place [] = place
frame_state_from place (c ∷ bytes) = frame_state_from (step place c) bytes

abbrev pub frame_state : List ℕ → FrameState
frame_state bytes = frame_state_from (Line true []) bytes

-- the bytes are one whole unit
abbrev pub IsUnit : List ℕ → Type 0
IsUnit bytes = frame_state bytes ≡ Whole

-- a literal of the first unit is longer than the limit
abbrev pub HasTooLongLiteral : List ℕ → Type 0
HasTooLongLiteral bytes = frame_state bytes ≡ TooLong

-- the bytes do not begin with a whole unit, and no literal of their first unit is too long
abbrev pub IsIncompleteState : FrameState → Type 0
IsIncompleteState (Line first line) = Unit {0}
IsIncompleteState (Octets n) = Unit {0}
IsIncompleteState place = ⊥

abbrev pub IsIncomplete : List ℕ → Type 0
IsIncomplete bytes = IsIncompleteState (frame_state bytes)
