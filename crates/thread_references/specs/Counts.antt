-- What the code's structs hold, in the terms of the definitions.
use Rattle.std.specs.Prelude.{◌≡◌, ℕ, ◌<◌, ◌++◌, Option, None, Some, List, [], ◌∷◌, length, position, get_or, set, count_by}
use Rattle.std.specs.BTreeMap.{get_by}
use Rattle.std.specs.Cmp.Lexicographic.{slice_cmp}
use Rattle.std.specs.Ordering.{nat_cmp}
use Rattle.thread_places.specs.declared.places.Place.{Place}
use Rattle.thread_references.specs.declared.pruning.Topmost.{Topmost}
use Rattle.thread_references.specs.declared.subjects.Merger.{Merger}
use Rattle.thread_references.specs.Trees.{is_topmost}
use Rattle.thread_references.specs.Subjects.{Merging, root_for}

pub record CountsTopmost (count : ℕ) (places : List Place) (t : Topmost) : Type 0 where
  pub counts_size : length t.counts.items ≡ count
  pub firsts_size : length t.firsts.items ≡ count
  pub counts : (top : ℕ) → top < count → get_or t.counts.items top 0 ≡ count_by (is_topmost top) places
  pub firsts : (top : ℕ) → top < count → get_or t.firsts.items top None ≡ position (is_topmost top) places

-- a child appended to those of its parent
unfoldable pub with_child : List (List ℕ) → Option ℕ → ℕ → List (List ℕ)
with_child children None child = children
with_child children (Some parent) child = set children parent (get_or children parent [] ++ child ∷ [])

-- the parents are the same, and the table's rows are those that are looked up first
pub record IsMerging (m : Merging) (t : Merger) : Type 0 where
  pub parents : t.parents.items ≡ m.parents
  pub table : (text : List ℕ) → get_by (λ k. slice_cmp nat_cmp text k.items) t.table ≡ root_for m.table text
