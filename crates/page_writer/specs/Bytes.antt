-- Spelled texts as bytes.
use Rattle.std.specs.Prelude.{◌≡◌, ℕ, ◌==◌, if◌then◌else◌, List, [], ◌∷◌, ◌++◌, codes, encode_utf8_all, IsTrue}
use Rattle.std.specs.List.{flat_map, list_all}
use Rattle.std.proofs.Math.Utf8.{scalars}
use Rattle.html_syntax.specs.Characters.{null}
use Rattle.html_syntax.specs.Token.{Attribute}
use Rattle.page_writer.specs.Page.{spell_char, spell_chars}

-- how a byte of a text in UTF-8 is spelled; U+FFFD is the bytes EF BF BD
abbrev pub spell_byte : ℕ → List ℕ
spell_byte b = if b == null then 0xEF ∷ 0xBF ∷ 0xBD ∷ [] else spell_char b

unfoldable pub spell_bytes : List ℕ → List ℕ
spell_bytes bytes = flat_map spell_byte bytes

-- an attribute with the bytes of its name and the characters of its value
unfoldable pub attribute_bytes : List ℕ → List ℕ → List ℕ
attribute_bytes name value = codes " " ++ name ++ codes "=\"" ++ encode_utf8_all (spell_chars value) ++ codes "\""

-- `old` is a prefix of `new`
pub record Extends (old new : List ℕ) : Type 0 where
  pub more : List ℕ
  pub is : new ≡ old ++ more

-- the values consist of scalar values
unfoldable pub AreTexts : List Attribute → Type 0
AreTexts attributes = IsTrue (list_all (λ a. scalars a.value) attributes)
