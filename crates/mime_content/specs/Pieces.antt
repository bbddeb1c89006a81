-- A structured field as its pieces, and the parameters among them (RFC 2045 §5.1, RFC 2183 §2).
use Rattle.std.specs.Prelude.{ℕ, ◌+◌, Bool, true, false, not, ◌&&◌, ◌||◌, List, [], ◌∷◌, ◌++◌, length, take, drop, ◌==◌, if◌then◌else◌, nat_lt, Option, Some, None}
use Rattle.std.specs.List.{onto_first, position_or_len, filter_map, slice_get}
use Rattle.std.specs.Option.{option_map}
use Rattle.std.specs.Str.{str_eq_ignore_ascii_case}
use Rattle.header_words.specs.Value.{trimmed}
use Rattle.mime_content.specs.declared.pieces.Quoting.{Quoting}
use Rattle.mime_content.specs.declared.pieces.Quoting.TheVariants.{Outside, Inside, Escaped}

-- whether the place after a byte is in a quoted string
abbrev pub quoting_after : Quoting → ℕ → Quoting
quoting_after Outside b = if b == 34 then Inside else Outside
quoting_after Inside b = if b == 34 then Outside else (if b == 92 then Escaped else Inside)
quoting_after Escaped b = Inside

-- a `;` outside quoted strings
abbrev pub cuts : Quoting → ℕ → Bool
cuts Outside b = b == 59
cuts Inside b = false
cuts Escaped b = false

-- the pieces with one more byte in front: a cut begins a piece
abbrev pub with_byte : Bool → ℕ → List (List ℕ) → List (List ℕ)
with_byte true b ps = [] ∷ ps
with_byte false b ps = onto_first b ps

-- the pieces between the cuts
abbrev pub pieces_from : Quoting → List ℕ → List (List ℕ)
pieces_from q [] = [] ∷ []
pieces_from q (b ∷ bs) = with_byte (cuts q b) b (pieces_from (quoting_after q b) bs)

abbrev pub pieces : List ℕ → List (List ℕ)
pieces value = pieces_from Outside value

-- the length of the first piece
abbrev pub size_from : Quoting → List ℕ → ℕ
size_from q [] = 0
size_from q (b ∷ bs) = if cuts q b then 0 else size_from (quoting_after q b) bs + 1

-- the first piece, which is the type or the disposition
abbrev pub first_of_pieces : List (List ℕ) → List ℕ
first_of_pieces [] = []
first_of_pieces (p ∷ ps) = trimmed p

abbrev pub first_piece : List ℕ → List ℕ
first_piece value = first_of_pieces (pieces value)

-- a byte of a quoted string that belongs to its text: neither its last quote nor a backslash that quotes a byte
abbrev pub is_kept : Quoting → ℕ → Bool
is_kept Outside b = false
is_kept Inside b = not (b == 34 || b == 92)
is_kept Escaped b = true

-- a text with one more byte of a quoted string
abbrev pub with_kept : Quoting → ℕ → List ℕ → List ℕ
with_kept q b text = if is_kept q b then text ++ b ∷ [] else text

abbrev pub is_outside : Quoting → Bool
is_outside Outside = true
is_outside Inside = false
is_outside Escaped = false

abbrev pub kept : Bool → ℕ → Option (List ℕ) → Option (List ℕ)
kept true b text = option_map (λ xs. b ∷ xs) text
kept false b text = text

-- the text of a quoted string, from just after its first quote; no byte comes after its last quote
abbrev pub unquoted : Quoting → List ℕ → Option (List ℕ)
unquoted q [] = if is_outside q then Some [] else None
unquoted q (b ∷ bs) = if is_outside q then None else kept (is_kept q b) b (unquoted (quoting_after q b) bs)

-- a value is a quoted string, or all of a text
abbrev pub text_of_value : List ℕ → Option (List ℕ)
text_of_value [] = Some []
text_of_value (b ∷ bs) = if b == 34 then unquoted Inside bs else Some (b ∷ bs)

abbrev pub is_equals : ℕ → Bool
is_equals b = b == 61

-- the value of a piece that is a parameter of this name, in either case
abbrev pub value_in : List ℕ → List ℕ → Option (List ℕ)
value_in name piece =
    let at = position_or_len is_equals piece in
    if nat_lt at (length piece) && str_eq_ignore_ascii_case (trimmed (take at piece)) name
    then text_of_value (trimmed (drop (at + 1) piece))
    else None

-- the value of the first parameter of a name, among the pieces after the first
abbrev pub parameter : List ℕ → List ℕ → Option (List ℕ)
parameter name value = slice_get (filter_map (value_in name) (drop 1 (pieces value))) 0
