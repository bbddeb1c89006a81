-- The tokens of a text (HTML Standard 13.2.5). A text is the list of its characters' numbers.
use Rattle.std.specs.Prelude.{ℕ, List, [], chars, string_bytes, slice_index_or, String}

pub record Attribute : Type 0 where
  pub name : List ℕ
  pub value : List ℕ

-- A start tag with its attributes, an end tag, a character, a comment, a DOCTYPE. The Standard's self-closing flag and what a
-- DOCTYPE says are not kept, an end tag keeps no attributes, and the end of the text is no token.
pub data Token : Type 0 where
  Start : List ℕ → List Attribute → Token
  End : List ℕ → Token
  Char : ℕ → Token
  Comment : List ℕ → Token
  Doctype : Token

-- the attribute of a pair of strings
abbrev pub attribute_of : {Z : Type 0} → String Z × String Z → Attribute
attribute_of p = record { name = chars (string_bytes p.0); value = chars (string_bytes p.1) }

abbrev pub no_attribute : Attribute
no_attribute = record { name = []; value = [] }

abbrev pub name_at : List Attribute → ℕ → List ℕ
name_at attributes i = (slice_index_or attributes i no_attribute).name

abbrev pub value_at : List Attribute → ℕ → List ℕ
value_at attributes i = (slice_index_or attributes i no_attribute).value
