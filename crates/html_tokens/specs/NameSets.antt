-- The names of a set: short names as numbers, longer names as texts.
use Rattle.std.specs.Prelude.{ℕ, Bool, ◌||◌, ◌==◌, cond, List}
use Rattle.std.specs.List.{list_any}
use Rattle.std.specs.Ordering.{nat_cmp}
use Rattle.std.specs.BTreeSet.{contains, contains_text}
use Rattle.html_tokens.specs.declared.name_set.NameSet.{NameSet}
use Rattle.html_tokens.specs.PackedNames.{pack, is_short}

-- the set has the short name of this number
abbrev pub contains_number : NameSet → ℕ → Bool
contains_number names n = list_any (λ k. k == n) names.rising.items || contains nat_cmp names.short n

-- the set has the name
unfoldable pub contains_name : NameSet → List ℕ → Bool
contains_name names name = cond (is_short name) (contains_number names (pack name)) (contains_text names.long name)
