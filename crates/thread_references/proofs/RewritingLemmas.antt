-- Pruning by its result is pruning by rewriting.
use Rattle.std.proofs.Common.{◌≡◌, ℕ, zero, suc, ◌+◌, ◌<◌, inl, inr, Bool, true, false, cond, List, [], ◌∷◌, ◌++◌, refl, sym, ap, ◌∙◌, arith, append_assoc}
use Rattle.std.specs.Prelude.{Option, Some, None, nat_lt, if◌then◌else◌}
use Rattle.std.proofs.lemmas.Bool.{cases_Bool, lt-ltb}
use Rattle.std.proofs.lemmas.List.{append-nil}
use Rattle.thread_references.specs.Rewriting.{Trees, NoTrees, Tree, join, rewrite, rewrite_dummy, rewrite_top, Placed, parents_in, nearest_in, topmost_in, pruned_in}

parents-join : (m : ℕ → Bool) (above : Option ℕ) (a b : Trees) → parents_in m above (join a b) ≡ parents_in m above a ++ parents_in m above b
unfolding join parents_in
parents-join m above NoTrees b = refl
parents-join m above (Tree node children siblings) b =
    let own : List Placed = if m node then (node, above) ∷ [] else [] in
    let below : List Placed = parents_in m (Some node) children in
    ap (λ l. own ++ below ++ l) (parents-join m above siblings b) ∙ sym (append_assoc (own ++ below) (parents_in m above siblings) (parents_in m above b))

nearest-rewrite : (m : ℕ → Bool) (above : Option ℕ) (trees : Trees) → parents_in m above (rewrite m trees) ≡ nearest_in m above trees
unfolding rewrite parents_in nearest_in
nearest-rewrite m above NoTrees = refl
nearest-rewrite m above (Tree node children siblings) =
    elim (cases_Bool (m node)) [
      | inl e ↦
          ap (λ b. parents_in m above (if b then Tree node (rewrite m children) (rewrite m siblings) else join (rewrite m children) (rewrite m siblings))) e
          ∙ ap (λ b. (if b then (node, above) ∷ [] else []) ++ parents_in m (Some node) (rewrite m children) ++ parents_in m above (rewrite m siblings)) e
          ∙ ap (λ l. (node, above) ∷ (l ++ parents_in m above (rewrite m siblings))) (nearest-rewrite m (Some node) children)
          ∙ ap (λ l. (node, above) ∷ (nearest_in m (Some node) children ++ l)) (nearest-rewrite m above siblings)
          ∙ sym (ap (λ b. (if b then (node, above) ∷ nearest_in m (Some node) children else nearest_in m above children) ++ nearest_in m above siblings) e)
      | inr e ↦
          ap (λ b. parents_in m above (if b then Tree node (rewrite m children) (rewrite m siblings) else join (rewrite m children) (rewrite m siblings))) e
          ∙ parents-join m above (rewrite m children) (rewrite m siblings)
          ∙ ap (λ l. l ++ parents_in m above (rewrite m siblings)) (nearest-rewrite m above children)
          ∙ ap (λ l. nearest_in m above children ++ l) (nearest-rewrite m above siblings)
          ∙ sym (ap (λ b. (if b then (node, above) ∷ nearest_in m (Some node) children else nearest_in m above children) ++ nearest_in m above siblings) e)
    ]

-- how many trees are side by side
width : Trees → ℕ
width NoTrees = 0
width (Tree node children siblings) = 1 + width siblings

width-join : (a b : Trees) → width (join a b) ≡ width a + width b
unfolding width join
width-join NoTrees b = let e : width b ≡ 0 + width b = omega arith in e
width-join (Tree node children siblings) b = let rest = width-join siblings b in let e : 1 + width (join siblings b) ≡ 1 + width siblings + width b = omega (arith, rest) in e

width-rewrite : (m : ℕ → Bool) (trees : Trees) → width (rewrite m trees) ≡ topmost_in m trees
unfolding width rewrite topmost_in
width-rewrite m NoTrees = refl
width-rewrite m (Tree node children siblings) =
    elim (cases_Bool (m node)) [
      | inl e ↦
          ap (λ b. width (if b then Tree node (rewrite m children) (rewrite m siblings) else join (rewrite m children) (rewrite m siblings))) e ∙ ap (λ n. 1 + n) (width-rewrite m siblings)
          ∙ sym (ap (λ b. (if b then 1 else topmost_in m children) + topmost_in m siblings) e)
      | inr e ↦
          ap (λ b. width (if b then Tree node (rewrite m children) (rewrite m siblings) else join (rewrite m children) (rewrite m siblings))) e ∙ width-join (rewrite m children) (rewrite m siblings)
          ∙ ap (λ n. n + width (rewrite m siblings)) (width-rewrite m children) ∙ ap (λ n. topmost_in m children + n) (width-rewrite m siblings)
          ∙ sym (ap (λ b. (if b then 1 else topmost_in m children) + topmost_in m siblings) e)
    ]

parents-dummy : (m : ℕ → Bool) (node : ℕ) (trees : Trees) → m node ≡ false → parents_in m None (rewrite_dummy node trees) ≡ parents_in m (if nat_lt 1 (width trees) then Some node else None) trees
unfolding width rewrite_dummy parents_in
parents-dummy m node NoTrees e = refl
parents-dummy m node (Tree child below NoTrees) e = refl
parents-dummy m node (Tree child below (Tree other under more)) e =
    let trees : Trees = Tree child below (Tree other under more) in
    let many : nat_lt 1 (1 + (1 + width more)) ≡ true = lt-ltb 1 (1 + (1 + width more)) (omega arith) in
    ap (λ b. (if b then (node, None) ∷ [] else []) ++ parents_in m (Some node) trees ++ []) e ∙ append-nil (parents_in m (Some node) trees) ∙ sym (ap (λ b. parents_in m (if b then Some node else None) trees) many)

pub pruned-rewrite : (m : ℕ → Bool) (trees : Trees) → parents_in m None (rewrite_top m trees) ≡ pruned_in m trees
unfolding rewrite_top pruned_in parents_in
pruned-rewrite m NoTrees = refl
pruned-rewrite m (Tree node children siblings) =
    parents-join m None (if m node then Tree node (rewrite m children) NoTrees else rewrite_dummy node (rewrite m children)) (rewrite_top m siblings)
    ∙ ap (λ l. parents_in m None (if m node then Tree node (rewrite m children) NoTrees else rewrite_dummy node (rewrite m children)) ++ l) (pruned-rewrite m siblings)
    ∙ ap (λ l. l ++ pruned_in m siblings)
    (elim (cases_Bool (m node)) [
      | inl e ↦
          ap (λ b. parents_in m None (if b then Tree node (rewrite m children) NoTrees else rewrite_dummy node (rewrite m children))) e
          ∙ ap (λ b. (if b then (node, None) ∷ [] else []) ++ parents_in m (Some node) (rewrite m children) ++ []) e
          ∙ ap (λ l. (node, None) ∷ l) (append-nil (parents_in m (Some node) (rewrite m children)) ∙ nearest-rewrite m (Some node) children)
          ∙ sym (ap (λ b. if b then (node, None) ∷ nearest_in m (Some node) children else nearest_in m (if nat_lt 1 (topmost_in m children) then Some node else None) children) e)
      | inr e ↦
          ap (λ b. parents_in m None (if b then Tree node (rewrite m children) NoTrees else rewrite_dummy node (rewrite m children))) e ∙ parents-dummy m node (rewrite m children) e
          ∙ nearest-rewrite m (if nat_lt 1 (width (rewrite m children)) then Some node else None) children
          ∙ ap (λ n. nearest_in m (if nat_lt 1 n then Some node else None) children) (width-rewrite m children)
          ∙ sym (ap (λ b. if b then (node, None) ∷ nearest_in m (Some node) children else nearest_in m (if nat_lt 1 (topmost_in m children) then Some node else None) children) e)
    ])
