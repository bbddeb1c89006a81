-- Words for lists of tokens.
use Rattle.std.specs.Prelude.{ℕ, List, [], ◌∷◌, map}
use Rattle.html_syntax.specs.Token.{Attribute, Token}
use Rattle.html_syntax.specs.Token.Token.{Start, Char}
use Rattle.html_syntax.specs.Tokenizer.{replace_null}
use Rattle.html_rules.specs.Tables.{Name}

-- a start tag without attributes
abbrev pub start_tag : Name → Token
start_tag name = Start name []

-- a start tag with one attribute
abbrev pub start_tag_with : Name → Name → List ℕ → Token
start_tag_with name attribute value = Start name (record { name = attribute; value = value } ∷ [])

-- the characters of a text, U+0000 as U+FFFD
abbrev pub text_tokens : List ℕ → List Token
text_tokens [] = []
text_tokens (c ∷ cs) = Char (replace_null c) ∷ text_tokens cs

-- the attributes with U+0000 in their values as U+FFFD
abbrev pub replace_nulls : List Attribute → List Attribute
replace_nulls [] = []
replace_nulls (a ∷ rest) = record { name = a.name; value = map replace_null a.value } ∷ replace_nulls rest
