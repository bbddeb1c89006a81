-- Which open elements a tag closes. Open elements are listed with the innermost first.
use Rattle.std.specs.Prelude.{ℕ, suc, ◌-◌, Bool, false, not, ◌&&◌, ◌||◌, if◌then◌else◌, List, [], ◌∷◌, ◌++◌, length, take, drop, map, codes}
use Rattle.std.specs.List.{flat_map, before_first, suffix_len, position_or_len}
use Rattle.html_syntax.specs.Token.{Token}
use Rattle.html_syntax.specs.Token.Token.{End}
use Rattle.html_syntax.specs.Tokenizer.{is_among, same}
use Rattle.html_rules.specs.Tables.{Name, words}

-- tokens, and the elements that are open after them
pub record After : Type 0 where
  pub opened : List Name
  pub tokens : List Token

-- nothing is closed
abbrev pub none_closed : List Name → After
none_closed opened = record { opened = opened; tokens = [] }

-- the `n` innermost elements are closed
abbrev pub close_innermost : ℕ → List Name → After
close_innermost n opened = record { opened = drop n opened; tokens = map (λ name. End name) (take n opened) }

-- ---- start tags

-- Looks through the open elements inside the innermost one of `stops`. If one of `closes` is among them, all from the innermost to
-- the outermost such are closed.
pub record Lookup : Type 0 where
  pub closes : List Name
  pub stops : List Name

-- start tags, and the lookups that they do in order
pub record ClosingRow : Type 0 where
  pub starts : List Name
  pub lookups : List Lookup

abbrev pub lookup : List ℕ → List ℕ → Lookup
lookup closes stops = record { closes = words closes; stops = words stops }

abbrev pub row : List ℕ → List Lookup → ClosingRow
row starts lookups = record { starts = words starts; lookups = lookups }

abbrev pub paragraph_lookup : Lookup
paragraph_lookup = lookup (codes "p") (codes "table caption td th")

-- the start tags that close something
unfoldable pub closing_rows : List ClosingRow
closing_rows =
    row (codes "address blockquote center div dl h1 h2 h3 h4 h5 h6 hr ol p pre table ul") (paragraph_lookup ∷ [])
    ∷ row (codes "li") (lookup (codes "li") (codes "ul ol blockquote table caption td th") ∷ paragraph_lookup ∷ [])
    ∷ row (codes "dt dd") (lookup (codes "dt dd") (codes "dl blockquote table caption td th") ∷ paragraph_lookup ∷ [])
    ∷ row (codes "a") (lookup (codes "a") (codes "table caption td th") ∷ [])
    ∷ row (codes "td th") (lookup (codes "td th caption colgroup") (codes "table tr") ∷ [])
    ∷ row (codes "tr") (lookup (codes "tr caption colgroup") (codes "table") ∷ [])
    ∷ row (codes "tbody thead tfoot") (lookup (codes "tbody thead tfoot tr caption colgroup") (codes "table") ∷ [])
    ∷ []

-- the lookups of a start tag
unfoldable pub lookups_of : Name → List Lookup
lookups_of name = flat_map (λ r. if is_among r.starts name then r.lookups else []) closing_rows

-- the open elements that a lookup looks through
abbrev pub region : Lookup → List Name → List Name
region l opened = before_first (is_among l.stops) opened

-- the number of elements without those outside of the outermost one of `closes`; 0 if none is there
abbrev pub count_to_outermost : List Name → List Name → ℕ
count_to_outermost closes names = length names - suffix_len (λ name. not (is_among closes name)) names

-- the number of open elements that a lookup closes
unfoldable pub looked_up : Lookup → List Name → ℕ
looked_up l opened = count_to_outermost l.closes (region l opened)

-- what lookups close, each of those that the ones before it left open
unfoldable pub closed_by : List Lookup → List Name → After
closed_by [] opened = none_closed opened
closed_by (l ∷ ls) opened =
    let first = close_innermost (looked_up l opened) opened in
    let rest = closed_by ls first.opened in
    record { opened = rest.opened; tokens = first.tokens ++ rest.tokens }

-- ---- end tags

-- elements that no end tag looks past
abbrev pub walls : List Name
walls = words (codes "table")

-- elements that only the end tags of a table's parts look past
abbrev pub cells : List Name
cells = words (codes "caption td th")

abbrev pub table_parts : List Name
table_parts = words (codes "caption colgroup table tbody td tfoot th thead tr")

-- an end tag of the name doesn't look past the element
unfoldable pub blocks : Name → Name → Bool
blocks name element = is_among walls element || (is_among cells element && not (is_among table_parts name))

abbrev pub begins_with_element : Name → List Name → Bool
begins_with_element name [] = false
begins_with_element name (inner ∷ outer) = same inner name

-- The number of open elements that an end tag closes: all up to the innermost one of its name, or none if an element before that
-- one blocks it.
unfoldable pub ended : Name → List Name → ℕ
ended name opened =
    let n = position_or_len (λ element. same element name || blocks name element) opened in
    if begins_with_element name (drop n opened) then suc n else 0
