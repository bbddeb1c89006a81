-- What contracts see in the code's values.
use Rattle.std.specs.Prelude.{◌≡◌, Bool, true, false, not, List, [], ◌∷◌, length, map, reverse, get_or, codes}
use Rattle.std.specs.List.{list_all}
use Rattle.html_syntax.specs.Tokenizer.{is_among}
use Rattle.html_rules.specs.Tables.{Name}
use Rattle.html_wash.specs.Closings.{Lookup, lookups_of}
use Rattle.html_wash.specs.Elements.{name_of, number_of}
use Rattle.html_wash.specs.declared.element.Element.{Element}
use Rattle.html_wash.specs.declared.lookup.LookupKind.{LookupKind}
use Rattle.html_wash.specs.declared.lookup.LookupKind.TheVariants as kind

abbrev pub first_lookup : List Lookup → Lookup
first_lookup [] = record { closes = []; stops = [] }
first_lookup (l ∷ ls) = l

-- the first lookup of a start tag of its name
abbrev pub lookup_of : LookupKind → Lookup
lookup_of kind.Paragraph = first_lookup (lookups_of (codes "p"))
lookup_of kind.Item = first_lookup (lookups_of (codes "li"))
lookup_of kind.Definition = first_lookup (lookups_of (codes "dt"))
lookup_of kind.Link = first_lookup (lookups_of (codes "a"))
lookup_of kind.Cell = first_lookup (lookups_of (codes "td"))
lookup_of kind.Row = first_lookup (lookups_of (codes "tr"))
lookup_of kind.RowGroup = first_lookup (lookups_of (codes "tbody"))

-- the names of elements that are kept with the innermost last
abbrev pub stack : List Element → List Name
stack elements = reverse (map name_of elements)

-- a flag is set for each element of a list, and perhaps for others
pub record FlagsOpen (flags : List Bool) (elements : List Element) : Type 0 where
  pub size : length flags ≡ 58
  pub each : (e : Element) → is_among (map name_of elements) (name_of e) ≡ true → get_or flags (number_of e) false ≡ true

-- none of the names is open
abbrev pub are_absent : List Name → List Name → Bool
are_absent opened names = list_all (λ name. not (is_among opened name)) names
