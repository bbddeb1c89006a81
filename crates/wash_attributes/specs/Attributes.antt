-- The attributes of a washed start tag.
use Rattle.std.specs.Prelude.{ℕ, ◌||◌, if◌then◌else◌, Option, Some, None, List, [], ◌∷◌, ◌++◌, codes}
use Rattle.std.specs.List.{filter_map}
use Rattle.html_syntax.specs.Token.{Attribute}
use Rattle.html_syntax.specs.Tokenizer.{has_name}
use Rattle.html_tokens.specs.Attributes.{first_of_each}
use Rattle.html_rules.specs.Tables.{Name, is_listed_attribute, kind_of}
use Rattle.html_rules.specs.Values.{is_empty}
use Rattle.html_rules.specs.declared.ValueKind.{ValueKind}
use Rattle.wash_attributes.specs.Given.{Given}
use Rattle.wash_attributes.specs.Values.{written_value}

abbrev pub attribute : Name → List ℕ → Attribute
attribute name value = record { name = name; value = value }

abbrev pub attribute_with : Name → Option (List ℕ) → Option Attribute
attribute_with name None = None
attribute_with name (Some value) = Some (attribute name value)

abbrev pub written_value_of_kind : Given → Option ValueKind → List ℕ → Option (List ℕ)
written_value_of_kind given None value = None
written_value_of_kind given (Some kind) value = written_value given kind value

-- the attribute that is written for an attribute of the element: one that is listed for it, with a value of its kind
unfoldable pub kept_attribute : Given → Name → Attribute → Option Attribute
kept_attribute given element a =
    if is_listed_attribute element a.name then attribute_with a.name (written_value_of_kind given (kind_of a.name) a.value)
    else None

-- the attributes that are written for those of a tag, in their order; a later one of a name counts for nothing, even if the first
-- isn't written
unfoldable pub kept_attributes : Given → Name → List Attribute → List Attribute
kept_attributes given element attributes = filter_map (kept_attribute given element) (first_of_each attributes)

-- ---- what rules declare for the element

-- a style after what rules declare
abbrev pub join_styles : List ℕ → List ℕ → List ℕ
join_styles declared own = if is_empty declared then own else (if is_empty own then declared else declared ++ codes "; " ++ own)

-- an element's own style is washed to what rules declare for the element, and the washed style after it
unfoldable pub with_declared : List ℕ → Given → Given
with_declared declared given =
    record { refer = given.refer; stylewash = λ style. join_styles declared (given.stylewash style); images = given.images }

-- attributes, and after them a style that rules declare, unless it is in the place of the element's own
abbrev pub with_style : List ℕ → List Attribute → List Attribute
with_style declared kept = kept ++ (if is_empty declared || has_name (codes "style") kept then [] else attribute (codes "style") declared ∷ [])

-- ---- links

-- the attributes that open a link in a new window, which learns nothing of this one
unfoldable pub link_protection : List Attribute
link_protection = attribute (codes "rel") (codes "noopener noreferrer") ∷ attribute (codes "target") (codes "_blank") ∷ []

-- attributes, and after them the link's protection if there is an `href`
abbrev pub protect_link : List Attribute → List Attribute
protect_link kept = kept ++ (if has_name (codes "href") kept then link_protection else [])

-- The attributes of a washed start tag of an element for which rules declare a style, which may be empty. U+0000 in their values is
-- written as U+FFFD, as `html_rules`' `replace_nulls` says.
unfoldable pub washed_attributes : Given → List ℕ → Name → List Attribute → List Attribute
washed_attributes given declared element attributes =
    protect_link (with_style declared (kept_attributes (with_declared declared given) element attributes))
