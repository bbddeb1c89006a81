-- What rules declare for an element.
use Rattle.std.specs.Prelude.{ℕ, nat_lt, Bool, false, ◌&&◌, if◌then◌else◌, List, [], ◌∷◌, ◌++◌, length, codes}
use Rattle.std.specs.Str.{bytes_eq}
use Rattle.std.specs.List.{filter, flat_map, join_by, list_any, slice_split}
use Rattle.html_rules.specs.Tables.{Name}
use Rattle.style_wash.specs.Characters.{is_white}
use Rattle.style_rules.specs.Selectors.{Selector}
use Rattle.style_rules.specs.Selectors.Selector.{ByName, ByClass, ByBoth}
use Rattle.style_rules.specs.Rules.{Entry, Rule}

-- the class is one of those in the text, between white space
unfoldable pub has_class : List ℕ → List ℕ → Bool
has_class classes class = list_any (λ word. bytes_eq word class) (slice_split is_white classes)

-- A rule by name, by class, or by both is for an element of a name. `has` tells which classes the element has.
abbrev pub is_by_name : Name → Selector → Bool
is_by_name name (ByName own) = bytes_eq own name
is_by_name name (ByClass class) = false
is_by_name name (ByBoth own class) = false

abbrev pub is_by_class : (List ℕ → Bool) → Selector → Bool
is_by_class has (ByName own) = false
is_by_class has (ByClass class) = has class
is_by_class has (ByBoth own class) = false

abbrev pub is_by_both : Name → (List ℕ → Bool) → Selector → Bool
is_by_both name has (ByName own) = false
is_by_both name has (ByClass class) = false
is_by_both name has (ByBoth own class) = bytes_eq own name && has class

-- the declarations of the rules whose selectors pass, in order
unfoldable pub entries_of : (Selector → Bool) → List Rule → List Entry
entries_of passes rules = flat_map (λ r. r.entries) (filter (λ r. passes r.selector) rules)

-- the declarations of the rules that are for an element: those by name, then those by class, and then those by both
abbrev pub entries_for : List Rule → Name → (List ℕ → Bool) → List Entry
entries_for rules name has = entries_of (is_by_name name) rules ++ (entries_of (is_by_class has) rules ++ entries_of (is_by_both name has) rules)

-- one of the declarations has the property
abbrev pub has_property : List ℕ → List Entry → Bool
has_property property entries = list_any (λ e. bytes_eq e.property property) entries

-- of the declarations of each property the last one
unfoldable pub last_of_each : List Entry → List Entry
last_of_each [] = []
last_of_each (first ∷ more) = if has_property first.property more then last_of_each more else first ∷ last_of_each more

-- declarations as a style
abbrev pub joined : List Entry → List ℕ
joined entries = join_by (λ e. e.text) (codes "; ") entries

-- the most bytes that rules may declare
abbrev pub declared_limit : ℕ
declared_limit = 1024

abbrev pub within_limit : List ℕ → List ℕ
within_limit style = if nat_lt declared_limit (length style) then [] else style

-- what rules declare for an element of a name, and of the classes in a text
unfoldable pub declared : List Rule → Name → List ℕ → List ℕ
declared rules name classes = within_limit (joined (last_of_each (entries_for rules name (has_class classes))))
