-- The list of the messages of some trees.
use Rattle.std.specs.Prelude.{ℕ, Option, zero, suc, ◌+◌, nat_lt, List, [], ◌∷◌, ◌++◌, length, map, get_or, reverse, if◌then◌else◌}
use Rattle.thread_places.specs.declared.facts.Facts.{Facts}
use Rattle.thread_places.specs.Dates.{date_order, in_order}
use Rattle.thread_references.specs.Trees.{all_children, roots_of}
use Rattle.thread_references.specs.Subjects.{parents_of}

-- a node whose messages are still to be listed, and its depth
abbrev pub Waiting : Type 0
Waiting = ℕ × ℕ

abbrev pub at_depth : ℕ → List ℕ → List Waiting
at_depth depth nodes = map (λ x. (x, depth)) nodes

-- the UID of a message and its depth; a dummy has no row
abbrev pub rows_of : List ℕ → Waiting → List (ℕ × ℕ)
rows_of uids w = if nat_lt w.0 (length uids) then (get_or uids w.0 0, w.1) ∷ [] else []

-- a node comes before its children, and these before the next node; each step lists one node
unfoldable pub list_from : List ℕ → List (List ℕ) → ℕ → List Waiting → List (ℕ × ℕ)
list_from uids children steps [] = []
list_from uids children zero (w ∷ more) = []
list_from uids children (suc steps) (w ∷ more) =
    rows_of uids w ++ list_from uids children steps (at_depth (w.1 + 1) (get_or children w.0 []) ++ more)

-- from the last root to the first; there are no more steps than messages and dummies
unfoldable pub flat : List ℕ → List (Option ℕ) → List (ℕ × ℕ)
flat uids parents = list_from uids (all_children (length uids) parents) (length uids + length uids) (at_depth 0 (reverse (roots_of (length uids) parents)))

abbrev pub uids_of : List Facts → List ℕ
uids_of facts = in_order 0 (map (λ f. f.uid) facts) (date_order facts)

-- UIDs and depths, roots from the last to the first
unfoldable pub flat_of : List Facts → List (ℕ × ℕ)
flat_of facts = flat (uids_of facts) (parents_of facts)

unfoldable pub root_count : List Facts → ℕ
root_count facts = length (roots_of (length facts) (parents_of facts))

-- a forest: the facts that it was made of, and how many of these were added
pub record Threaded : Type 0 where
  pub facts : List Facts
  pub added : ℕ
