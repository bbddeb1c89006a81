-- The first attribute of a name.
use Rattle.std.specs.Prelude.{ℕ, if◌then◌else◌, Option, Some, None, List, [], ◌∷◌}
use Rattle.html_syntax.specs.Token.{Attribute}
use Rattle.html_syntax.specs.Tokenizer.{same}
use Rattle.html_rules.specs.Tables.{Name}

-- the value of the first attribute of the name
abbrev pub first_value : Name → List Attribute → Option (List ℕ)
first_value name [] = None
first_value name (a ∷ attributes) = if same name a.name then Some a.value else first_value name attributes

abbrev pub text_or_empty : Option (List ℕ) → List ℕ
text_or_empty None = []
text_or_empty (Some text) = text

-- the same, and the empty text if no attribute has the name
unfoldable pub attribute_text : Name → List Attribute → List ℕ
attribute_text name attributes = text_or_empty (first_value name attributes)
