-- Trees that are pruned: nodes below 10 are messages.
use Rattle.std.proofs.Common.{◌≡◌, ℕ, Bool, [], ◌∷◌, refl}
use Rattle.std.specs.Prelude.{Some, None, nat_lt}
use Rattle.thread_references.specs.Rewriting.{Trees, NoTrees, Tree, join, rewrite, rewrite_dummy, rewrite_top, parents_in, nearest_in, topmost_in, pruned_in}

abbrev is_small : ℕ → Bool
is_small x = nat_lt x 10

abbrev two : ℕ → ℕ → Trees
two x y = Tree x NoTrees (Tree y NoTrees NoTrees)

-- a dummy with two messages, one with one, two in a row, a message over an empty dummy and over one with a message, an empty dummy
abbrev trees : Trees
trees =
    Tree 10 (two 1 2) (Tree 11 (Tree 3 NoTrees NoTrees) (Tree 12 (Tree 13 (two 4 5) NoTrees) (Tree 6 (Tree 14 NoTrees (Tree 15 (Tree 7 NoTrees NoTrees) NoTrees)) (Tree 16 NoTrees NoTrees))))

pub rewrite_example : rewrite_top is_small trees ≡ Tree 10 (two 1 2) (Tree 3 NoTrees (Tree 12 (two 4 5) (Tree 6 (Tree 7 NoTrees NoTrees) NoTrees)))
unfolding join rewrite rewrite_dummy rewrite_top
rewrite_example = refl

pub pruned_example : pruned_in is_small trees ≡ (1, Some 10) ∷ (2, Some 10) ∷ (3, None) ∷ (4, Some 12) ∷ (5, Some 12) ∷ (6, None) ∷ (7, Some 6) ∷ []
unfolding nearest_in topmost_in pruned_in
pruned_example = refl
