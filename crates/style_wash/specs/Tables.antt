-- The properties that a declaration may set, and the units of numbers.
use Rattle.std.specs.Prelude.{ℕ, Bool, List, [], ◌∷◌, Option, find, codes}
use Rattle.std.specs.Str.{bytes_eq, str_eq_ignore_ascii_case}
use Rattle.std.specs.List.{list_any}
use Rattle.style_wash.specs.Characters.{trimmed}

-- the forty properties
unfoldable pub properties : List (List ℕ)
properties =
    codes "background"
    ∷ codes "background-color"
    ∷ codes "border"
    ∷ codes "border-bottom"
    ∷ codes "border-collapse"
    ∷ codes "border-color"
    ∷ codes "border-left"
    ∷ codes "border-right"
    ∷ codes "border-spacing"
    ∷ codes "border-style"
    ∷ codes "border-top"
    ∷ codes "border-width"
    ∷ codes "clear"
    ∷ codes "color"
    ∷ codes "float"
    ∷ codes "font"
    ∷ codes "font-family"
    ∷ codes "font-size"
    ∷ codes "font-style"
    ∷ codes "font-variant"
    ∷ codes "font-weight"
    ∷ codes "height"
    ∷ codes "letter-spacing"
    ∷ codes "line-height"
    ∷ codes "list-style-type"
    ∷ codes "margin"
    ∷ codes "margin-bottom"
    ∷ codes "margin-left"
    ∷ codes "margin-right"
    ∷ codes "margin-top"
    ∷ codes "max-width"
    ∷ codes "padding"
    ∷ codes "padding-bottom"
    ∷ codes "padding-left"
    ∷ codes "padding-right"
    ∷ codes "padding-top"
    ∷ codes "text-align"
    ∷ codes "text-decoration"
    ∷ codes "vertical-align"
    ∷ codes "width"
    ∷ []

-- the property that a text names, with its letters in either case and white space around
unfoldable pub property_of : List ℕ → Option (List ℕ)
property_of text = find (str_eq_ignore_ascii_case (trimmed text)) properties

-- the units of numbers
unfoldable pub units : List (List ℕ)
units =
    codes "px"
    ∷ codes "pt"
    ∷ codes "em"
    ∷ codes "rem"
    ∷ codes "ex"
    ∷ codes "%"
    ∷ codes "cm"
    ∷ codes "mm"
    ∷ codes "in"
    ∷ codes "pc"
    ∷ []

-- one of the units, or none
unfoldable pub is_unit : List ℕ → Bool
is_unit text = list_any (bytes_eq text) ([] ∷ units)
