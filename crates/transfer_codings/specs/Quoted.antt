-- Quoted-printable (RFC 2045 §6.7) as it is read.
use Rattle.std.specs.Prelude.{ℕ, ◌+◌, ◌-◌, ◌*◌, ◌==◌, nat_le, nat_lt, Bool, ◌&&◌, ◌||◌, if◌then◌else◌, List, [], ◌∷◌, ◌++◌, length, take, drop, slice_index, Option, Some, None}
use Rattle.std.specs.List.{slice_split, flat_map, suffix_len}
use Rattle.transfer_codings.specs.Base64.{is_equals}

-- the value of a hexadecimal digit of either case
abbrev pub hex_value : ℕ → Option ℕ
hex_value digit =
    if nat_le 48 digit && nat_le digit 57 then Some (digit - 48)
    else if nat_le 65 digit && nat_le digit 70 then Some (digit - 55)
    else if nat_le 97 digit && nat_le digit 102 then Some (digit - 87)
    else None

-- the byte of two hexadecimal digits
abbrev pub byte_of_digits : Option ℕ → Option ℕ → Option ℕ
byte_of_digits (Some high) (Some low) = Some (high * 16 + low)
byte_of_digits (Some high) None = None
byte_of_digits None low = None

-- the byte of the first two characters of a text, if they are hexadecimal digits
abbrev pub escaped_byte : List ℕ → Option ℕ
escaped_byte [] = None
escaped_byte (high ∷ []) = None
escaped_byte (high ∷ low ∷ _) = byte_of_digits (hex_value high) (hex_value low)

-- a text whose first two characters are an escaped byte, or else with the `=` before it
abbrev pub with_escape : Option ℕ → List ℕ → List ℕ
with_escape (Some byte) text = byte ∷ drop 2 text
with_escape None text = 61 ∷ text

-- the bytes of an `=` and the text up to the next one
abbrev pub after_equals : List ℕ → List ℕ
after_equals text = with_escape (escaped_byte text) text

-- the bytes of the parts of a text between its `=`
abbrev pub unescaped_parts : List (List ℕ) → List ℕ
unescaped_parts [] = []
unescaped_parts (first ∷ others) = first ++ flat_map after_equals others

-- a text with each `=` and two hexadecimal digits as one byte
unfoldable pub unescaped : List ℕ → List ℕ
unescaped text = unescaped_parts (slice_split is_equals text)

-- a space or a TAB
abbrev pub is_blank : ℕ → Bool
is_blank byte = byte == 32 || byte == 9

-- a line without the blanks at its end
unfoldable pub without_blanks : List ℕ → List ℕ
without_blanks line = take (length line - suffix_len is_blank line) line

-- the last byte of a line is this one
abbrev pub ends_in : ℕ → List ℕ → Bool
ends_in byte line = nat_lt 0 (length line) && (slice_index line (length line - 1) == byte)

-- all but the last byte
abbrev pub without_last : List ℕ → List ℕ
without_last line = take (length line - 1) line

-- the bytes of a line without blanks at its end, and of its line break: an `=` at the end is a soft break, which drops both
abbrev pub text_of_line : List ℕ → List ℕ → List ℕ
text_of_line line ending = if ends_in 61 line then unescaped (without_last line)
    else unescaped line ++ ending

-- the bytes of a line and its break
unfoldable pub line_bytes : List ℕ → List ℕ → List ℕ
line_bytes line ending = text_of_line (without_blanks line) ending

-- the bytes of a line that ends in LF: the break is CR LF if a CR comes before the LF
abbrev pub broken_line : List ℕ → List ℕ
broken_line line = if ends_in 13 line then line_bytes (without_last line) (13 ∷ 10 ∷ [])
    else line_bytes line (10 ∷ [])

-- the bytes of lines, the last of which has no break
abbrev pub lines_bytes : List (List ℕ) → List ℕ
lines_bytes [] = []
lines_bytes (last ∷ []) = line_bytes last []
lines_bytes (line ∷ next ∷ more) = broken_line line ++ lines_bytes (next ∷ more)

-- the byte LF
abbrev pub is_line_feed : ℕ → Bool
is_line_feed byte = byte == 10

-- the bytes of a quoted-printable text
unfoldable pub quoted_bytes : List ℕ → List ℕ
quoted_bytes text = lines_bytes (slice_split is_line_feed text)
