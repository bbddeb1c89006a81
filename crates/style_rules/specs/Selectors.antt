-- Selectors: a name, `.class` or `name.class`.
use Rattle.std.specs.Prelude.{ℕ, ◌==◌, nat_le, Bool, ◌&&◌, ◌||◌, if◌then◌else◌, List, [], ◌∷◌, length, find, Option, Some, None}
use Rattle.std.specs.Option.{option_map}
use Rattle.std.specs.Char.{is_ascii_alphanumeric}
use Rattle.std.specs.List.{list_all, list_any, before_first, after_first}
use Rattle.std.specs.Str.{str_eq_ignore_ascii_case}
use Rattle.html_rules.specs.Tables.{Name, message_elements}
use Rattle.style_wash.specs.Characters.{hyphen, is_point, trimmed}

-- the element of a message that a text names, in either case
unfoldable pub element_named : List ℕ → Option Name
element_named text = find (str_eq_ignore_ascii_case text) message_elements

abbrev pub is_class_char : ℕ → Bool
is_class_char c = is_ascii_alphanumeric c || c == hyphen || c == 95

-- 1 to 64 letters, digits, `-` and `_`
unfoldable pub is_class : List ℕ → Bool
is_class text = nat_le 1 (length text) && nat_le (length text) 64 && list_all is_class_char text

-- which elements a rule is for: those of a name, those of a class, or those of both
pub data Selector : Type 0 where
  ByName : Name → Selector
  ByClass : List ℕ → Selector
  ByBoth : Name → List ℕ → Selector

-- the selector of the texts before and after a point
abbrev pub selector_around : List ℕ → List ℕ → Option Selector
selector_around [] class = Some (ByClass class)
selector_around (c ∷ name) class = option_map (λ element. ByBoth element class) (element_named (c ∷ name))

abbrev pub selector_in : List ℕ → Option Selector
selector_in text =
    if list_any is_point text then (if is_class (after_first is_point text) then selector_around (before_first is_point text) (after_first is_point text) else None)
    else option_map ByName (element_named text)

-- the selector that a text is, without the white space around it
unfoldable pub selector_of : List ℕ → Option Selector
selector_of text = selector_in (trimmed text)
