-- The names of pairs of strings in a set.
use Rattle.std.specs.Prelude.{◌≡◌, ℕ, Bool, List, string_bytes, String}
use Rattle.std.specs.List.{list_any}
use Rattle.std.specs.Str.{bytes_eq}
use Rattle.html_tokens.specs.declared.name_set.NameSet.{NameSet}
use Rattle.html_tokens.specs.NameSets.{contains_name}

-- one of the pairs has the name
abbrev pub has_pair_named : {Z : Type 0} → List ℕ → List (String Z × String Z) → Bool
has_pair_named name pairs = list_any (λ p. bytes_eq name (string_bytes p.0)) pairs

-- The set has exactly the names of the pairs.
abbrev pub HoldsNames : {Z : Type 0} → NameSet → List (String Z × String Z) → Type 0
HoldsNames names pairs = (q : List ℕ) → contains_name names q ≡ has_pair_named q pairs
