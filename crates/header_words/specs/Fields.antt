-- The fields of a header (RFC 5322 §2.2 and §3.6.8): a name, a colon and a value, which lines that begin with a space or a TAB
-- continue.
use Rattle.std.specs.Prelude.{ℕ, ◌+◌, Bool, not, ◌&&◌, ◌||◌, List, [], ◌∷◌, length, take, drop, nat_lt, nat_le, ◌==◌, if◌then◌else◌, Option, filter, find, slice_index, take_while}
use Rattle.std.specs.List.{position_or_len, list_all}
use Rattle.std.specs.Str.{str_eq_ignore_ascii_case}
use Rattle.header_words.specs.Lines.{header_lines, body_of}

-- a field: its name, and the lines of its value
pub record FieldValue : Type 0 where
  pub name : List ℕ
  pub lines : List (List ℕ)

-- a header: its fields in order, and the place of the body
pub record Header : Type 0 where
  pub fields : List FieldValue
  pub body : ℕ

abbrev pub is_blank : ℕ → Bool
is_blank b = (b == 32) || (b == 9)

-- white space of all kinds: the space, TAB, CR, LF
abbrev pub is_white : ℕ → Bool
is_white b = is_blank b || ((b == 10) || (b == 13))

-- the bytes of a name: 0x21 to 0x7E; a colon ends it
abbrev pub is_name_byte : ℕ → Bool
is_name_byte b = nat_le 33 b && nat_le b 126

abbrev pub is_colon : ℕ → Bool
is_colon b = b == 58

-- a line that continues the field before it
abbrev pub is_continuation : List ℕ → Bool
is_continuation line = nat_lt 0 (length line) && is_blank (slice_index line 0)

-- the bytes before a line's first colon, and after it
abbrev pub name_of : List ℕ → List ℕ
name_of line = take (position_or_len is_colon line) line

abbrev pub value_of : List ℕ → List ℕ
value_of line = drop (position_or_len is_colon line + 1) line

-- a line that begins a field: a name of one byte or more, and a colon
abbrev pub begins_field : List ℕ → Bool
begins_field line = nat_lt (position_or_len is_colon line) (length line) && (nat_lt 0 (position_or_len is_colon line) && list_all is_name_byte (name_of line))

-- the field that a line begins, with the lines between it and the next field
abbrev pub field_of : List ℕ → List (List ℕ) → FieldValue
field_of line more = record { name = name_of line; lines = value_of line ∷ filter is_continuation more }

-- the lines before the next that begins a field
abbrev pub own_lines : List (List ℕ) → List (List ℕ)
own_lines more = take_while (λ line. not (begins_field line)) more

-- the fields of some lines; a line that neither begins a field nor continues one is skipped
abbrev pub fields_of : List (List ℕ) → List FieldValue
fields_of [] = []
fields_of (line ∷ more) = if begins_field line then field_of line (own_lines more) ∷ fields_of more else fields_of more

-- the header of a message
unfoldable pub header_of : List ℕ → Header
header_of bytes = record { fields = fields_of (header_lines bytes); body = body_of bytes }

-- the first field of a name, in either case
abbrev pub has_name : List ℕ → FieldValue → Bool
has_name name field = str_eq_ignore_ascii_case field.name name

abbrev pub first_of : List ℕ → List FieldValue → Option FieldValue
first_of name fields = find (has_name name) fields
