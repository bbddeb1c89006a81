-- Stretches of a text, and the characters that they are read as.
use Rattle.std.specs.Prelude.{ℕ, zero, suc, Bool, true, false, ◌==◌, ◌||◌, not, if◌then◌else◌, List, [], ◌∷◌, ◌++◌, map, chars}
use Rattle.std.specs.List.{list_all}
use Rattle.html_syntax.specs.Characters.{null, line_feed, carriage_return, ampersand, replacement}
use Rattle.html_syntax.specs.References.{reference}
use Rattle.html_syntax.specs.States.{replace_null}
use Rattle.html_syntax.specs.Tokenizer.{normalize_newlines}
use Rattle.html_references.specs.declared.stretch.ReadAs.{ReadAs}
use Rattle.html_references.specs.declared.stretch.ReadAs.TheVariants as reads

-- the input stream that the bytes of a text give (13.2.3.5)
unfoldable pub input : List ℕ → List ℕ
input bytes = normalize_newlines false (chars bytes)

-- A text with its character references decoded. Its first `passing` characters belong to an earlier reference, and `plain` maps
-- each character outside of references.
unfoldable pub decode_references : Bool → (ℕ → ℕ) → ℕ → List ℕ → List ℕ
decode_references in_attribute plain passing [] = []
decode_references in_attribute plain (suc passing) (c ∷ text) = decode_references in_attribute plain passing text
decode_references in_attribute plain zero (c ∷ text) =
    if c == ampersand then (let r = reference in_attribute text in r.chars ++ decode_references in_attribute plain r.len text)
    else plain c ∷ decode_references in_attribute plain zero text

-- The characters of a stretch. References are decoded in text, in RCDATA and in attribute values; U+0000 stays in text alone.
abbrev pub read_as : ReadAs → List ℕ → List ℕ
read_as reads.Text text = decode_references false (λ c. c) 0 text
read_as reads.Rcdata text = decode_references false replace_null 0 text
read_as reads.Value text = decode_references true replace_null 0 text
read_as reads.Raw text = map replace_null text

abbrev pub in_attribute : ReadAs → Bool
in_attribute reads.Text = false
in_attribute reads.Rcdata = false
in_attribute reads.Value = true
in_attribute reads.Raw = false

-- the character that U+0000 is read as
abbrev pub null_read_as : ReadAs → ℕ
null_read_as reads.Text = 0
null_read_as reads.Rcdata = replacement
null_read_as reads.Value = replacement
null_read_as reads.Raw = replacement

-- a byte that may not be read as itself
abbrev pub is_special : ℕ → Bool
is_special b = b == ampersand || b == carriage_return || b == null

abbrev pub no_special : List ℕ → Bool
no_special bytes = list_all (λ b. not (is_special b)) bytes

-- the length in bytes of a line end whose carriage return is right before the text
abbrev pub line_end_len : List ℕ → ℕ
line_end_len [] = 1
line_end_len (b ∷ bytes) = if b == line_feed then 2 else 1
