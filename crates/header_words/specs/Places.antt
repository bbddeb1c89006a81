-- Fields as the places of a message at which they begin.
use Rattle.std.specs.Char.{to_ascii_lowercase}
use Rattle.std.specs.Prelude.{ℕ, Bool, true, ◌+◌, ◌-◌, ◌<◌, ◌==◌, List, [], ◌∷◌, ◌++◌, if◌then◌else◌, length, take, drop, slice_index, map, Option, Some, None}
use Rattle.std.specs.Str.Lines.{lines}
use Rattle.header_words.specs.Fields.{FieldValue, Header, field_of, begins_field, first_of}

-- the field of these lines
abbrev pub field_of_lines : List (List ℕ) → FieldValue
field_of_lines [] = record { name = []; lines = [] }
field_of_lines (line ∷ more) = field_of line more

abbrev pub raw_field : List ℕ → FieldValue
raw_field raw = field_of_lines (lines raw)

-- the field between two places
abbrev pub field_between : List ℕ → ℕ → ℕ → FieldValue
field_between bytes start end = raw_field (take (end - start) (drop start bytes))

-- the fields that begin at these places, up to an end
abbrev pub fields_at : List ℕ → List ℕ → ℕ → List FieldValue
fields_at bytes [] end = []
fields_at bytes (a ∷ []) end = field_between bytes a end ∷ []
fields_at bytes (a ∷ b ∷ more) end = field_between bytes a b ∷ fields_at bytes (b ∷ more) end

-- ascending places, all below an end
pub record IsRising (starts : List ℕ) (end : ℕ) : Type 0 where
  pub next : (i : ℕ) → i + 1 < length starts → slice_index starts i < slice_index starts (i + 1)
  pub within : (i : ℕ) → i < length starts → slice_index starts i < end

-- the header of these places in a message
abbrev pub header_at : List ℕ → List ℕ → ℕ → ℕ → Header
header_at bytes starts end body = record { fields = fields_at bytes starts end; body = body }

-- the places with that of one more line, if it begins a field
abbrev pub with_start : List ℕ → List ℕ → ℕ → List ℕ
with_start starts line at = if begins_field line then starts ++ at ∷ [] else starts

-- the bytes at these places
abbrev pub letters_at : List ℕ → List ℕ → List ℕ
letters_at bytes starts = map (slice_index bytes) starts

-- the letters with that of one more line, if it begins a field
abbrev pub with_letter : List ℕ → List ℕ → List ℕ
with_letter letters line = if begins_field line then letters ++ slice_index line 0 ∷ [] else letters

-- the first field of a name, from a number on; none without a number
abbrev pub first_from : List ℕ → List FieldValue → Option ℕ → Option FieldValue
first_from name fields None = None
first_from name fields (Some at) = first_of name (drop at fields)

-- the first bytes of a field and of a name are the same letter, in either case
abbrev pub is_alike_first : ℕ → List ℕ → Bool
is_alike_first first [] = true
is_alike_first first (letter ∷ name) = to_ascii_lowercase first == to_ascii_lowercase letter

abbrev pub is_alike : List ℕ → List ℕ → Bool
is_alike [] name = true
is_alike (first ∷ raw) name = is_alike_first first name
