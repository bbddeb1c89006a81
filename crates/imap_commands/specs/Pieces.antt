-- The pieces of a command (RFC 9051 §4.3): each literal begins one, after the server's continuation request.
use Rattle.std.specs.Prelude.{ℕ, Bool, ◌==◌, ◌&&◌, ◌||◌, nat_le, if◌then◌else◌, List, [], ◌∷◌, ◌++◌, length, codes, decimal}
use Rattle.std.specs.List.{list_all, flat_map}
use Rattle.imap_commands.specs.Bytes.{line_feed, carriage_return, space, quotation_mark, backslash, tilde}

-- a part of a command: words as they are, a string, or a literal
pub data Part : Type 0 where
  Words : List ℕ → Part
  Text : List ℕ → Part
  Literal : List ℕ → Part

-- the bytes that a quoted string may have: printable ASCII and the space
abbrev pub is_plain : ℕ → Bool
is_plain b = nat_le space b && nat_le b tilde

-- a string is quoted if it has at most 1,000 bytes, all of them plain, and else it is a literal
abbrev pub is_quotable : List ℕ → Bool
is_quotable text = nat_le (length text) 1000 && list_all is_plain text

-- a quoted string has a `\` before each `"` and each `\`
abbrev pub quoted_byte : ℕ → List ℕ
quoted_byte b = if b == quotation_mark || b == backslash then backslash ∷ b ∷ [] else b ∷ []

abbrev pub quoted : List ℕ → List ℕ
quoted text = quotation_mark ∷ flat_map quoted_byte text ++ quotation_mark ∷ []

abbrev pub line_end : List ℕ
line_end = carriage_return ∷ line_feed ∷ []

-- the size of a literal, which ends the piece before it
abbrev pub literal_size : ℕ → List ℕ
literal_size size = codes "{" ++ decimal size ++ codes "}" ++ line_end

-- bytes in front of the first of some pieces
abbrev pub onto_first : List ℕ → List (List ℕ) → List (List ℕ)
onto_first bytes [] = bytes ∷ []
onto_first bytes (first ∷ more) = (bytes ++ first) ∷ more

-- a literal begins a piece of its own
abbrev pub literal_before : List ℕ → List (List ℕ) → List (List ℕ)
literal_before text pieces = literal_size (length text) ∷ onto_first text pieces

abbrev pub text_before : List ℕ → List (List ℕ) → List (List ℕ)
text_before text pieces = if is_quotable text then onto_first (quoted text) pieces else literal_before text pieces

-- the pieces of the parts of a command
unfoldable pub pieces_of : List Part → List (List ℕ)
pieces_of [] = line_end ∷ []
pieces_of (Words words ∷ more) = onto_first words (pieces_of more)
pieces_of (Text text ∷ more) = text_before text (pieces_of more)
pieces_of (Literal text ∷ more) = literal_before text (pieces_of more)
