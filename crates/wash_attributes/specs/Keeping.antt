-- How attributes are kept one after the other.
use Rattle.std.specs.Prelude.{◌≡◌, Bool, not, if◌then◌else◌, Option, None, List, [], ◌∷◌, ◌++◌}
use Rattle.std.specs.List.{filter, filter_map}
use Rattle.html_syntax.specs.Token.{Attribute}
use Rattle.html_syntax.specs.Tokenizer.{is_among}
use Rattle.html_tokens.specs.Attributes.{first_of_each}
use Rattle.html_rules.specs.Tables.{Name, kind_of}
use Rattle.wash_attributes.specs.Given.{Given}
use Rattle.wash_attributes.specs.Attributes.{attribute_with, written_value_of_kind}

-- the attributes that are kept so far, and the listed names that were read
pub record KeptValue : Type 0 where
  pub attributes : List Attribute
  pub names : List Name

-- what is written for an attribute if these names are listed
abbrev pub listed_attribute : Given → List Name → Attribute → Option Attribute
listed_attribute given listed a = if is_among listed a.name then attribute_with a.name (written_value_of_kind given (kind_of a.name) a.value) else None

abbrev pub is_new : List Name → Attribute → Bool
is_new names a = not (is_among names a.name)

-- what is kept in all if these attributes come after those that were read
unfoldable pub kept_with : Given → List Name → KeptValue → List Attribute → List Attribute
kept_with given listed kept rest = kept.attributes ++ filter_map (listed_attribute given listed) (filter (is_new kept.names) (first_of_each rest))

-- the next attribute is read: what is kept in all is the same, whatever comes after it
abbrev pub ReadsNext : Given → List Name → KeptValue → Attribute → KeptValue → Type 0
ReadsNext given listed before a after = (rest : List Attribute) → kept_with given listed after rest ≡ kept_with given listed before (a ∷ rest)

abbrev pub to_list : Option Attribute → List Attribute
to_list None = []
to_list (Option.Some a) = a ∷ []

-- the name is a new one: its attribute is kept if its value is of its kind
abbrev pub with_attribute : Given → KeptValue → Attribute → KeptValue
with_attribute given kept a =
    record { attributes = kept.attributes ++ to_list (attribute_with a.name (written_value_of_kind given (kind_of a.name) a.value)); names = kept.names ++ a.name ∷ [] }
