-- The fields of a query or of a form's body (URL Standard §5.1).
use Rattle.std.specs.Prelude.{◌≡◌, ℕ, Bool, true, false, List, [], ◌∷◌, ◌++◌, map, filter, drop, if◌then◌else◌}
use Rattle.std.specs.List.{list_any, zip}
use Rattle.std.specs.Str.{bytes_eq}
use Rattle.std.specs.Str.Lossy.{utf8_lossy}
use Rattle.form_urlencoded.specs.Form.{decode, raw_pairs}
use Rattle.http_routes.specs.Routes.{Row}
use Rattle.http_routes.specs.declared.fields.Field.{Field}
use Rattle.http_routes.specs.declared.fields.Found as found
use Rattle.http_routes.specs.declared.fields.Found.TheVariants as variant

-- the text of a raw name or value
unfoldable pub text_of : List ℕ → List ℕ
text_of raw = utf8_lossy (decode raw)

-- a raw pair as a field
abbrev pub field_of : List ℕ × List ℕ → Field
field_of pair = record { name = text_of pair.0; value = text_of pair.1 }

-- the fields of a form in order
abbrev pub fields_of : List ℕ → List Field
fields_of form = map field_of (raw_pairs form)

-- one of the names is this one
abbrev pub has_name : List (List ℕ) → List ℕ → Bool
has_name names name = list_any (λ other. bytes_eq other name) names

-- a field has one of the names
abbrev pub is_named : List (List ℕ) → Field → Bool
is_named names field = has_name names field.name

abbrev pub parameter : List ℕ × List ℕ → Field
parameter pair = record { name = pair.0; value = pair.1 }

-- the fields of a request: the words of its path, which the row names, and the fields of its form that have names of the row
abbrev pub request_fields : Row → List (List ℕ) → List ℕ → List Field
request_fields row words form = map parameter (zip row.parameters (drop 2 words)) ++ filter (is_named row.fields) (fields_of form)

-- how often a field occurs, and its value if it occurs once
pub data Occurs : Type 0 where
  never : Occurs
  once : List ℕ → Occurs
  twice : Occurs

abbrev pub occurs : List (List ℕ) → Occurs
occurs [] = never
occurs (value ∷ []) = once value
occurs (value ∷ another ∷ more) = twice

-- once more than before
abbrev pub occurs_again : List ℕ → Occurs → Occurs
occurs_again value never = once value
occurs_again value (once other) = twice
occurs_again value twice = twice

-- how often a name occurs, if it has occurred before and a field follows
abbrev pub occurs_with : Occurs → List ℕ → Field → Occurs
occurs_with before name field = if bytes_eq field.name name then occurs_again field.value before else before

-- the values of a name in order
abbrev pub values_of : List ℕ → List Field → List (List ℕ)
values_of name fields = map (λ (field : Field). field.value) (filter (λ (field : Field). bytes_eq field.name name) fields)

-- what a request's fields tell of a name
abbrev pub Look : Type 0
Look = List ℕ → Occurs

abbrev pub look_in : List Field → Look
look_in fields name = occurs (values_of name fields)

abbrev pub found_seen : found.Found → Occurs
found_seen variant.Never = never
found_seen (variant.Once value) = once value.now
found_seen variant.Twice = twice

abbrev pub is_twice : Occurs → Bool
is_twice never = false
is_twice (once value) = false
is_twice twice = true

-- fields tell of each name what the others tell, whatever follows
abbrev pub KeepsLook : List Field → List Field → Type 0
KeepsLook fields others = (rest : List Field) (name : List ℕ) → look_in (fields ++ rest) name ≡ look_in (others ++ rest) name
