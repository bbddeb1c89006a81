-- The code's references and names, in the terms of the definition.
use Rattle.std.specs.Prelude.{ℕ, ◌+◌, Bool, true, false, not, ◌&&◌, ◌==◌, if◌then◌else◌, List, [], ◌∷◌, ◌++◌, map, length, drop, Option, Some, None}
use Rattle.std.specs.Borrow.{Bor}
use Rattle.html_references.specs.declared.references.Reference.{Reference as HeldReference}
use Rattle.html_references.specs.declared.names.Semicolon.{Semicolon}
use Rattle.html_references.specs.declared.names.Semicolon.TheVariants.{Optional, Required}
use Rattle.html_references.specs.declared.names.FoundName.{FoundName}
use Rattle.html_syntax.specs.Characters.{semicolon, is_digit, is_hex}
use Rattle.html_syntax.specs.Names.{Name, new_name, names_without_semicolon, further_names}
use Rattle.html_syntax.specs.References.{Reference, no_reference, begins_with, is_closed, continues_name}

abbrev pub reference_of : HeldReference → Reference
reference_of r = record { len = r.len; chars = r.character ∷ [] }

-- hexadecimal or decimal digits, and their base
abbrev pub digit_test : Bool → ℕ → Bool
digit_test true = is_hex
digit_test false = is_digit

abbrev pub base : Bool → ℕ
base true = 16
base false = 10

-- ---- names by their first letter

-- a name without its semicolon, and whether the semicolon may be left out
pub record Listed : Type 0 where
  pub name : Name
  pub is_optional : Bool

abbrev pub optional : Name → Listed
optional n = record { name = n; is_optional = true }

abbrev pub required : Name → Listed
required n = record { name = n; is_optional = false }

-- every name
unfoldable pub listed_names : List Listed
listed_names = map optional names_without_semicolon ++ map required further_names

abbrev pub is_optional_of : Semicolon → Bool
is_optional_of Optional = true
is_optional_of Required = false

abbrev pub listed_of : Bor (List ℕ) × ℕ × Semicolon → Listed
listed_of entry = record { name = new_name entry.0.now entry.1; is_optional = is_optional_of entry.2 }

abbrev pub begins_with_char : ℕ → List ℕ → Bool
begins_with_char c [] = false
begins_with_char c (x ∷ spelling) = x == c

-- the names that begin with a character
abbrev pub listed_with_first : ℕ → List Listed → List Listed
listed_with_first c [] = []
listed_with_first c (n ∷ ns) = if begins_with_char c n.name.spelling then n ∷ listed_with_first c ns else listed_with_first c ns

-- the part of a name that the code keeps when it finds it
abbrev pub found_name : Name → FoundName
found_name n = record { len = length n.spelling; character = n.char; is_closed = is_closed n.spelling }

-- the name, if `rest` may follow its spelling
abbrev pub found_at : Listed → List ℕ → Option FoundName
found_at n rest =
    if begins_with (semicolon ∷ []) rest then Some (record { len = length n.name.spelling + 1; character = n.name.char; is_closed = true })
    else (if n.is_optional then Some (record { len = length n.name.spelling; character = n.name.char; is_closed = false })
    else None)

-- the first of these names that the text begins with
abbrev pub found_in : List Listed → List ℕ → Option FoundName
found_in [] text = None
found_in (n ∷ ns) text = if begins_with n.name.spelling text then found_at n (drop (length n.name.spelling) text) else found_in ns text

-- the reference of the name that was found at the beginning of the text
abbrev pub found_reference : Bool → Option FoundName → List ℕ → Reference
found_reference in_attribute None text = no_reference
found_reference in_attribute (Some n) text =
    if in_attribute && not n.is_closed && continues_name (drop n.len text) then no_reference
    else record { len = n.len; chars = n.character ∷ [] }
