-- The lines of a header, and the place of the body (RFC 5322 §2.1).
use Rattle.std.specs.Prelude.{ℕ, ◌+◌, Bool, List, [], ◌∷◌, length, take, min, nat_lt, ◌==◌, if◌then◌else◌, take_while}
use Rattle.std.specs.List.{slice_split, position_or_len}
use Rattle.std.specs.Str.Lines.{lines, strip_carriage_return}

abbrev pub is_newline : ℕ → Bool
is_newline b = b == 10

abbrev pub is_filled : List ℕ → Bool
is_filled line = nat_lt 0 (length line)

-- the lines up to the first empty one; a line ends at LF, and a CR before it belongs to the line break
abbrev pub header_lines : List ℕ → List (List ℕ)
header_lines bytes = take_while is_filled (lines bytes)

-- how many bytes there are up to the end of the first empty line, in the parts between newlines
abbrev pub header_size : List (List ℕ) → ℕ
header_size [] = 0
header_size (x ∷ []) = length x
header_size (x ∷ y ∷ more) = length x + 1 + (if is_filled (strip_carriage_return x) then header_size (y ∷ more) else 0)

-- the place of the body: after the first empty line, or the end if there is none
abbrev pub body_of : List ℕ → ℕ
body_of bytes = header_size (slice_split is_newline bytes)

-- the first line of some bytes, without its ending
abbrev pub first_text : List ℕ → List ℕ
first_text rest = if nat_lt (position_or_len is_newline rest) (length rest) then strip_carriage_return (take (position_or_len is_newline rest) rest) else rest

-- how many bytes the first line takes, with its ending
abbrev pub first_size : List ℕ → ℕ
first_size rest = min (position_or_len is_newline rest + 1) (length rest)
