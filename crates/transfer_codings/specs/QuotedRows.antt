-- Quoted-printable (RFC 2045 §6.7) as it is written.
use Rattle.std.specs.Prelude.{ℕ, ◌+◌, ◌/◌, ◌%◌, ◌==◌, nat_le, nat_lt, Bool, true, false, not, ◌&&◌, if◌then◌else◌, List, [], ◌∷◌, ◌++◌, length}
use Rattle.std.specs.List.{join_by, onto_first}

-- ---- a byte

-- the hexadecimal digit of a value, in upper case
abbrev pub upper_digit : ℕ → ℕ
upper_digit value = if nat_lt value 10 then 48 + value else 55 + value

-- a byte as `=` and two hexadecimal digits
abbrev pub escape_of : ℕ → List ℕ
escape_of byte = 61 ∷ upper_digit (byte / 16) ∷ upper_digit (byte % 16) ∷ []

-- a byte that is written as itself: printable ASCII other than `=`, and no space at the end of a line
abbrev pub is_literal : Bool → ℕ → Bool
is_literal at_end byte = nat_le 32 byte && nat_le byte 126 && not (byte == 61) && not (at_end && (byte == 32))

-- how a byte is written, at the end of its line or before it
unfoldable pub unit_of : Bool → ℕ → List ℕ
unit_of at_end byte = if is_literal at_end byte then byte ∷ [] else escape_of byte

-- ---- the rows of a line

-- there is nothing
abbrev pub is_empty : List ℕ → Bool
is_empty [] = true
is_empty (byte ∷ more) = false

-- the most characters on a row
abbrev pub row_width : ℕ
row_width = 76

-- `size` characters fit on a row of `column`: if the line goes on, one of those of a row is the `=` of a soft break
abbrev pub fits : ℕ → ℕ → Bool → Bool
fits column size at_end = nat_le (column + size + (if at_end then 0 else 1)) row_width

-- the row that a soft break ends, if the next unit doesn't fit on it
abbrev pub ended_row : List ℕ → List ℕ → Bool → List (List ℕ)
ended_row row unit at_end = if fits (length row) (length unit) at_end then [] else (row ++ 61 ∷ []) ∷ []

-- the row with the next unit: the same one if it fits there, and else a new one
abbrev pub next_row : List ℕ → List ℕ → Bool → List ℕ
next_row row unit at_end = if fits (length row) (length unit) at_end then row ++ unit else unit

-- the rows of a line, from one that is begun
abbrev pub rows_from : List ℕ → List ℕ → List (List ℕ)
rows_from row [] = row ∷ []
rows_from row (byte ∷ more) = ended_row row (unit_of (is_empty more) byte) (is_empty more)
    ++ rows_from (next_row row (unit_of (is_empty more) byte) (is_empty more)) more

-- CR LF
abbrev pub break : List ℕ
break = 13 ∷ 10 ∷ []

-- a line as it is written: its rows, with CR LF between them
unfoldable pub rows_text : List ℕ → List ℕ
rows_text line = join_by (λ row. row) break (rows_from [] line)

-- ---- the lines of a text

-- the lines between the CR LF of a text
unfoldable pub broken_lines : List ℕ → List (List ℕ)
broken_lines [] = [] ∷ []
broken_lines (only ∷ []) = (only ∷ []) ∷ []
broken_lines (first ∷ second ∷ more) = if (first == 13) && (second == 10) then [] ∷ broken_lines more
    else onto_first first (broken_lines (second ∷ more))

-- the quoted-printable text of bytes: their lines as they are written, with CR LF between them
unfoldable pub quoted_text : List ℕ → List ℕ
quoted_text bytes = join_by rows_text break (broken_lines bytes)

-- ---- the same by the number of characters on the row that is begun: `rest_of_line 0` is `rows_text`

-- what comes before a unit: a soft break, if it doesn't fit
abbrev pub soft_break : ℕ → ℕ → Bool → List ℕ
soft_break column size at_end = if fits column size at_end then [] else 61 ∷ 13 ∷ 10 ∷ []

-- the column at which a unit begins
abbrev pub unit_column : ℕ → ℕ → Bool → ℕ
unit_column column size at_end = if fits column size at_end then column else 0

-- a byte with what comes before it
unfoldable pub placed_unit : ℕ → Bool → ℕ → List ℕ
placed_unit column at_end byte =
    soft_break column (length (unit_of at_end byte)) at_end ++ unit_of at_end byte

-- how many characters the row has after a byte
unfoldable pub column_after : ℕ → Bool → ℕ → ℕ
column_after column at_end byte =
    unit_column column (length (unit_of at_end byte)) at_end + length (unit_of at_end byte)

-- how a line goes on after `column` characters of a row
abbrev pub rest_of_line : ℕ → List ℕ → List ℕ
rest_of_line column [] = []
rest_of_line column (byte ∷ more) = placed_unit column (is_empty more) byte
    ++ rest_of_line (column_after column (is_empty more) byte) more
