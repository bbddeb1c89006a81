-- Pruning by rewriting trees (RFC 5256, REFERENCES, step 3). `is_message` tells messages from dummies.
use Rattle.std.specs.Prelude.{◌≡◌, ℕ, ◌+◌, Bool, nat_lt, List, [], ◌∷◌, ◌++◌, Option, Some, None, if◌then◌else◌}

-- no trees, or a node with the trees below it and the trees beside it
pub data Trees : Type 0 where
  NoTrees : Trees
  Tree : (node : ℕ) → (children : Trees) → (siblings : Trees) → Trees

unfoldable pub join : Trees → Trees → Trees
join NoTrees more = more
join (Tree node children siblings) more = Tree node children (join siblings more)

-- below the top a dummy without children is removed, and one with children is replaced by them
unfoldable pub rewrite : (ℕ → Bool) → Trees → Trees
rewrite is_message NoTrees = NoTrees
rewrite is_message (Tree node children siblings) =
    if is_message node then Tree node (rewrite is_message children) (rewrite is_message siblings) else join (rewrite is_message children) (rewrite is_message siblings)

-- at the top a dummy without children is removed, one with a single child is replaced by it, and one with more stays
unfoldable pub rewrite_dummy : ℕ → Trees → Trees
rewrite_dummy node NoTrees = NoTrees
rewrite_dummy node (Tree child below NoTrees) = Tree child below NoTrees
rewrite_dummy node (Tree child below (Tree other under more)) = Tree node (Tree child below (Tree other under more)) NoTrees

unfoldable pub rewrite_top : (ℕ → Bool) → Trees → Trees
rewrite_top is_message NoTrees = NoTrees
rewrite_top is_message (Tree node children siblings) =
    join (if is_message node then Tree node (rewrite is_message children) NoTrees else rewrite_dummy node (rewrite is_message children)) (rewrite_top is_message siblings)

-- a message and its parent
abbrev pub Placed : Type 0
Placed = ℕ × Option ℕ

-- the messages of trees below a node, each with its parent
unfoldable pub parents_in : (ℕ → Bool) → Option ℕ → Trees → List Placed
parents_in is_message above NoTrees = []
parents_in is_message above (Tree node children siblings) =
    (if is_message node then (node, above) ∷ [] else []) ++ parents_in is_message (Some node) children ++ parents_in is_message above siblings

-- ---- the result, without rewriting

-- the messages of trees below a node, each with the nearest message above it, or if there is none, what is given
unfoldable pub nearest_in : (ℕ → Bool) → Option ℕ → Trees → List Placed
nearest_in is_message above NoTrees = []
nearest_in is_message above (Tree node children siblings) =
    (if is_message node then (node, above) ∷ nearest_in is_message (Some node) children else nearest_in is_message above children) ++ nearest_in is_message above siblings

-- how many messages of trees have no message above them
unfoldable pub topmost_in : (ℕ → Bool) → Trees → ℕ
topmost_in is_message NoTrees = 0
topmost_in is_message (Tree node children siblings) = (if is_message node then 1 else topmost_in is_message children) + topmost_in is_message siblings

-- a dummy at the top is the parent of those that have no message above them, if they are more than one
unfoldable pub pruned_in : (ℕ → Bool) → Trees → List Placed
pruned_in is_message NoTrees = []
pruned_in is_message (Tree node children siblings) =
    (if is_message node then (node, None) ∷ nearest_in is_message (Some node) children
    else nearest_in is_message (if nat_lt 1 (topmost_in is_message children) then Some node else None) children) ++ pruned_in is_message siblings
