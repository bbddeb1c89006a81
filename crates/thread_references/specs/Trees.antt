-- Trees of messages (RFC 5256, REFERENCES, steps 2 to 4 and 6). From here on a message is its place in order of date.
use Rattle.std.specs.Prelude.{ℕ, ◌+◌, Bool, false, not, ◌&&◌, ◌==◌, nat_lt, List, [], ◌∷◌, ◌++◌, length, filter, flat_map, map, get_or, replicate, position, Option, Some, None, is_some, option_map, count_by, if◌then◌else◌}
use Rattle.std.specs.List.{range_with_len}
use Rattle.thread_places.specs.declared.places.Place.{Place}

-- ---- pruning: dummies without children go, and others are replaced by their children

-- the messages that are left at the top of a node's tree
abbrev pub is_topmost : ℕ → Place → Bool
is_topmost top place = not (is_some place.above) && (place.top == top)

-- a dummy at the top stays if more than one is left. Its number is that of the messages and of the first of its children together.
unfoldable pub pruned_parent : List Place → ℕ → Option ℕ → Option ℕ
pruned_parent places top (Some above) = Some above
pruned_parent places top None =
    if nat_lt 1 (count_by (is_topmost top) places) then option_map (λ first. length places + first) (position (is_topmost top) places) else None

-- the parent of each message, and then of each dummy
unfoldable pub prune : List Place → List (Option ℕ)
prune places = map (λ p. pruned_parent places p.top p.above) places ++ replicate (length places) None

-- ---- the trees that have these parents; `count` is the number of messages

unfoldable pub replaced_by : ℕ → Option ℕ → ℕ
replaced_by dummy None = dummy
replaced_by dummy (Some parent) = parent

-- a dummy that has a parent is replaced by its children
unfoldable pub parent_through : ℕ → List (Option ℕ) → Option ℕ → Option ℕ
parent_through count parents None = None
parent_through count parents (Some p) = Some (if nat_lt p count then p else replaced_by p (get_or parents p None))

abbrev pub parent_at : ℕ → List (Option ℕ) → ℕ → Option ℕ
parent_at count parents message = parent_through count parents (get_or parents message None)

unfoldable pub is_parent : ℕ → Option ℕ → Bool
is_parent node None = false
is_parent node (Some p) = p == node

-- the children of a node, in order of date
abbrev pub children_of : ℕ → List (Option ℕ) → ℕ → List ℕ
children_of count parents node = filter (λ m. is_parent node (parent_at count parents m)) (range_with_len 0 count)

-- those of each message, and then of each dummy
unfoldable pub all_children : ℕ → List (Option ℕ) → List (List ℕ)
all_children count parents = map (children_of count parents) (range_with_len 0 (count + count))

unfoldable pub is_first : ℕ → List ℕ → Bool
is_first x [] = false
is_first x (y ∷ ys) = y == x

-- the root whose date is that of a message: itself, or the dummy whose first child it is
unfoldable pub roots_at : ℕ → List (List ℕ) → ℕ → Option ℕ → List ℕ
roots_at count children message None = message ∷ []
roots_at count children message (Some p) = if not (nat_lt p count) && is_first message (get_or children p []) then p ∷ [] else []

-- the roots, in order of date; for a dummy the first of its children counts
unfoldable pub roots_of : ℕ → List (Option ℕ) → List ℕ
roots_of count parents = flat_map (λ m. roots_at count (all_children count parents) m (parent_at count parents m)) (range_with_len 0 count)
