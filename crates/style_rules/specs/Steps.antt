-- How what rules declare is found from the last rule back.
use Rattle.std.specs.Prelude.{◌≡◌, ℕ, Bool, true, ◌&&◌, ◌||◌, if◌then◌else◌, List, [], ◌∷◌, map, reverse, is_some}
use Rattle.std.specs.Str.{bytes_eq}
use Rattle.std.specs.Borrow.{Bor}
use Rattle.std.specs.Ordering.{nat_cmp}
use Rattle.std.specs.Cmp.Lexicographic.{slice_cmp}
use Rattle.std.specs.BTreeMap.{BTreeMap, get_by}
use Rattle.html_rules.specs.Tables.{Name}
use Rattle.style_rules.specs.Selectors.{Selector}
use Rattle.std.specs.List.{AllByRecursion}
use Rattle.style_rules.specs.Selectors.Selector.{ByName, ByClass, ByBoth}
use Rattle.style_rules.specs.Rules.{Entry, Rule}
use Rattle.style_rules.specs.Cascade.{has_class, has_property, is_by_name, is_by_class, is_by_both}
use Rattle.style_rules.specs.Seen.{entry_seen}
use Rattle.style_rules.specs.declared.entries.Entry.{Entry as CodeEntry}
use Rattle.style_rules.specs.declared.cascade.Classes.{Classes}
use Rattle.style_rules.specs.declared.cascade.Classes.TheVariants as classes
use Rattle.style_rules.specs.declared.cascade.Group.{Group}
use Rattle.style_rules.specs.declared.cascade.Group.TheVariants as group

-- the words that a map has
abbrev pub has_word : BTreeMap (Bor (List ℕ)) Bool → List ℕ → Bool
has_word words word = is_some (get_by (λ k. slice_cmp nat_cmp word k.now) words)

-- the classes that an element was found to have
abbrev pub has_of : Classes → List ℕ → Bool
has_of (classes.Text text) class = has_class text.now class
has_of (classes.Words words) class = has_word words class

-- the map has the classes of a text
abbrev pub HasClasses : BTreeMap (Bor (List ℕ)) Bool → List ℕ → Type 0
HasClasses words classes = (class : List ℕ) → has_word words class ≡ has_class classes class

-- a word is added
abbrev pub AddsWord : BTreeMap (Bor (List ℕ)) Bool → List ℕ → BTreeMap (Bor (List ℕ)) Bool → Type 0
AddsWord old word new = (class : List ℕ) → has_word new class ≡ (bytes_eq word class || has_word old class)

-- a word is added if it is known
abbrev pub AddsKnown : BTreeMap (Bor (List ℕ)) Bool → BTreeMap (Bor (List ℕ)) Bool → List ℕ → BTreeMap (Bor (List ℕ)) Bool → Type 0
AddsKnown known old word new = (class : List ℕ) → has_word new class ≡ ((has_word known class && bytes_eq word class) || has_word old class)

-- the map has those classes of a text that are known
abbrev pub HasKnownClasses : BTreeMap (Bor (List ℕ)) Bool → BTreeMap (Bor (List ℕ)) Bool → List ℕ → Type 0
HasKnownClasses known words classes = (class : List ℕ) → has_word words class ≡ (has_word known class && has_class classes class)

-- the class of a selector is known
abbrev pub IsKnown : BTreeMap (Bor (List ℕ)) Bool → Selector → Type 0
IsKnown known (ByName own) = Unit {0}
IsKnown known (ByClass class) = has_word known class ≡ true
IsKnown known (ByBoth own class) = has_word known class ≡ true

abbrev pub AreKnown : BTreeMap (Bor (List ℕ)) Bool → List Rule → Type 0
AreKnown known rules = AllByRecursion (λ r. IsKnown known r.selector) rules

-- the class of a selector is added
pub record AddsClass (old : BTreeMap (Bor (List ℕ)) Bool) (selector : Selector) (new : BTreeMap (Bor (List ℕ)) Bool) : Type 0 where
  pub keeps : (class : List ℕ) → has_word old class ≡ true → has_word new class ≡ true
  pub adds : IsKnown new selector

-- the class of a selector was found exactly if the text has it
abbrev pub IsRight : (List ℕ → Bool) → List ℕ → Selector → Type 0
IsRight has classes (ByName own) = Unit {0}
IsRight has classes (ByClass class) = has class ≡ has_class classes class
IsRight has classes (ByBoth own class) = has class ≡ has_class classes class

abbrev pub AreRight : Classes → List ℕ → List Rule → Type 0
AreRight found classes rules = AllByRecursion (λ r. IsRight (has_of found) classes r.selector) rules

abbrev pub is_in_group : Group → Name → (List ℕ → Bool) → Selector → Bool
is_in_group group.Name name has selector = is_by_name name selector
is_in_group group.Class name has selector = is_by_class has selector
is_in_group group.Both name has selector = is_by_both name has selector

-- declarations that were found from the last one back
abbrev pub found : List (Bor CodeEntry) → List Entry
found entries = reverse (map (λ (e : Bor CodeEntry). entry_seen e.now) entries)

-- declarations before later ones: those whose property comes later are left out
unfoldable pub before_later : List Entry → List Entry → List Entry
before_later [] later = later
before_later (first ∷ more) later = if has_property first.property (before_later more later) then before_later more later else first ∷ before_later more later
