-- The lines of a text, the delimiter lines of a boundary among them, and the places between those.
use Rattle.std.specs.Prelude.{ℕ, ◌+◌, ◌≤◌, Bool, ◌&&◌, ◌||◌, List, [], ◌∷◌, ◌++◌, Option, Some, None, length, drop, max, if◌then◌else◌, filter, nat_eq, nat_lt, codes}
use Rattle.std.specs.List.{slice_split, list_all, starts_with}
use Rattle.std.specs.Str.Lines.{strip_carriage_return}
use Rattle.header_words.specs.Fields.{is_blank}
use Rattle.header_words.specs.Lines.{is_newline}
use Rattle.mime_tree.specs.declared.body.Range.{Range}

-- a line: where the line break before it begins, where the line after it begins, and its text
pub record Line : Type 0 where
  pub start : ℕ
  pub next : ℕ
  pub text : List ℕ

-- the lines, from the parts between newlines, of which the first begins at `at`; an empty last part is no line
abbrev pub placed : ℕ → ℕ → List (List ℕ) → List Line
placed start at [] = []
placed start at (x ∷ []) = if nat_lt 0 (length x) then record { start = start; next = at + length x; text = x } ∷ [] else []
placed start at (x ∷ y ∷ more) =
    record { start = start; next = at + (length x + 1); text = strip_carriage_return x }
    ∷ placed (at + length (strip_carriage_return x)) (at + (length x + 1)) (y ∷ more)

abbrev pub lines_from : ℕ → ℕ → List ℕ → List Line
lines_from start at text = placed start at (slice_split is_newline text)

-- a delimiter line is `--`, the boundary, optional `--`, and blanks
abbrev pub has_boundary : List ℕ → List ℕ → Bool
has_boundary boundary text = starts_with nat_eq text (codes "--") && starts_with nat_eq (drop 2 text) boundary

abbrev pub tail_of : List ℕ → List ℕ → List ℕ
tail_of boundary text = drop (2 + length boundary) text

abbrev pub is_opening_line : List ℕ → List ℕ → Bool
is_opening_line boundary text = has_boundary boundary text && list_all is_blank (tail_of boundary text)

unfoldable pub is_closing_line : List ℕ → List ℕ → Bool
is_closing_line boundary text =
    has_boundary boundary text && (starts_with nat_eq (tail_of boundary text) (codes "--") && list_all is_blank (drop 2 (tail_of boundary text)))

unfoldable pub is_delimiter_line : List ℕ → List ℕ → Bool
is_delimiter_line boundary text = is_opening_line boundary text || is_closing_line boundary text

abbrev pub is_delimiter : List ℕ → Line → Bool
is_delimiter boundary l = is_delimiter_line boundary l.text

abbrev pub range : ℕ → ℕ → Range
range from to = record { from = from; to = to }

-- the delimiter lines of a text whose first line begins at `at`, after a line break that begins at `start`
abbrev pub delimiters : List ℕ → ℕ → ℕ → List ℕ → List Line
delimiters boundary start at text = filter (is_delimiter boundary) (lines_from start at text)

-- the places after a delimiter that ends at `from`: each ends at the line break before the next delimiter, the last at the text's end
abbrev pub places_after : List ℕ → ℕ → ℕ → List Line → List Range
places_after boundary end from [] = range from end ∷ []
places_after boundary end from (d ∷ more) =
    range from (max from d.start) ∷ (if is_closing_line boundary d.text then [] else places_after boundary end d.next more)

abbrev pub places_between : List ℕ → ℕ → List Line → List Range
places_between boundary end [] = []
places_between boundary end (d ∷ more) = if is_closing_line boundary d.text then [] else places_after boundary end d.next more

-- the places of a multipart's parts in its body
unfoldable pub places : List ℕ → List ℕ → List Range
places boundary text = places_between boundary (length text) (delimiters boundary 0 0 text)

-- the places with that of the part that is begun, if one is, up to a line break
abbrev pub with_part : List Range → Option ℕ → ℕ → List Range
with_part found None line_break = found
with_part found (Some from) line_break = found ++ range from (max from line_break) ∷ []

abbrev pub line_of : ℕ → ℕ → List ℕ → Line
line_of start next text = record { start = start; next = next; text = text }

-- a place within a text of this length
pub record IsWithin (size : ℕ) (r : Range) : Type 0 where
  pub ordered : r.from ≤ r.to
  pub within : r.to ≤ size
