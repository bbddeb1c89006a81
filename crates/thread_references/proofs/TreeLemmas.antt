-- Children and roots, as the code's loops find them.
use Rattle.std.proofs.Common.{◌≡◌, ℕ, zero, suc, ◌+◌, Bool, inl, inr, cond, List, [], ◌∷◌, ◌++◌, length, map, filter, get_or, set, refl, sym, ap, ◌∙◌, arith, length-set, get_or-set_same, get_or-set_other}
use Rattle.std.specs.Prelude.{Option, Some, None, flat_map, ◌==◌}
use Rattle.std.specs.List.{range_with_len}
use Rattle.std.proofs.lemmas.Bool.{cases_eq, eq-eqb, ne_eqb}
use Rattle.std.proofs.lemmas.List.{append-nil}
use Rattle.std.proofs.lemmas.List.Elements.{filter-append}
use Rattle.std.proofs.lemmas.List.FromFn.{length-map-range_with_len, get_or-map-range_with_len, fill_by_all}
use Rattle.std.proofs.lemmas.Grind.{flat_map-append}
use Rattle.thread_references.specs.Trees.{is_parent}
use Rattle.thread_references.specs.Counts.{with_child}

range_suc : (a n : ℕ) → range_with_len a (suc n) ≡ range_with_len a n ++ (a + n) ∷ []
range_suc a zero = ap (λ v. v ∷ []) (let e : a ≡ a + 0 = omega arith in e)
range_suc a (suc n) = ap (λ l. a ∷ l) (range_suc (a + 1) n) ∙ ap (λ v. a ∷ range_with_len (a + 1) n ++ v ∷ []) (let e : a + 1 + n ≡ a + suc n = omega arith in e)

range_more : (n : ℕ) → range_with_len 0 (n + 1) ≡ range_with_len 0 n ++ n ∷ []
range_more n = ap (range_with_len 0) (let e : n + 1 ≡ suc n = omega arith in e) ∙ range_suc 0 n ∙ ap (λ v. range_with_len 0 n ++ v ∷ []) (let e : 0 + n ≡ n = omega arith in e)

map_agree : {X Y : Type 0} (f g : X → Y) (xs : List X) → ((x : X) → f x ≡ g x) → map f xs ≡ map g xs
map_agree f g [] same = refl
map_agree f g (x ∷ xs) same = ap (λ v. v ∷ map f xs) (same x) ∙ ap (λ l. g x ∷ l) (map_agree f g xs same)

abbrev pub found : (ℕ → Option ℕ) → ℕ → ℕ → List ℕ
found parent i node = filter (λ m. is_parent node (parent m)) (range_with_len 0 i)

found_more : (parent : ℕ → Option ℕ) (i node : ℕ) → found parent (i + 1) node ≡ found parent i node ++ cond (is_parent node (parent i)) (i ∷ []) []
found_more parent i node = ap (filter (λ m. is_parent node (parent m))) (range_more i) ∙ filter-append (λ m. is_parent node (parent m)) (range_with_len 0 i) (i ∷ []) ∙ ap (λ l. found parent i node ++ l) (one (is_parent node (parent i)))
  where
    one : (b : Bool) → cond b (i ∷ []) [] ≡ cond b (i ∷ []) []
    one b = refl

-- a message is appended to the children of its parent
pub child_turn : (parent : ℕ → Option ℕ) (total i : ℕ) → with_child (map (found parent i) (range_with_len 0 total)) (parent i) i ≡ map (found parent (i + 1)) (range_with_len 0 total)
unfolding with_child is_parent
child_turn parent total i = by_parent (parent i) refl
  where
    by_parent : (o : Option ℕ) → parent i ≡ o → with_child (map (found parent i) (range_with_len 0 total)) o i ≡ map (found parent (i + 1)) (range_with_len 0 total)
    by_parent None e =
        map_agree (found parent i) (found parent (i + 1)) (range_with_len 0 total)
        (λ node. sym (found_more parent i node ∙ ap (λ o. found parent i node ++ cond (is_parent node o) (i ∷ []) []) e ∙ append-nil (found parent i node)))
    by_parent (Some p) e =
        let old : List (List ℕ) = map (found parent i) (range_with_len 0 total) in
        let size : length old ≡ total = length-map-range_with_len (found parent i) 0 total in
        fill_by_all (found parent (i + 1)) (set old p (get_or old p [] ++ i ∷ [])) total [] (length-set old p (get_or old p [] ++ i ∷ []) ∙ size)
        (λ k less.
        let more : found parent (i + 1) k ≡ found parent i k ++ cond (p == k) (i ∷ []) [] = found_more parent i k ∙ ap (λ o. found parent i k ++ cond (is_parent k o) (i ∷ []) []) e in
        let here : get_or old k [] ≡ found parent i k = get_or-map-range_with_len (found parent i) 0 total k k [] less (omega arith) in
        elim (cases_eq k p) [
          | inl same ↦
              ap (λ v. get_or (set old p (get_or old p [] ++ i ∷ [])) v []) same ∙ get_or-set_same old p (get_or old p [] ++ i ∷ []) [] (omega arith)
              ∙ ap (λ v. get_or old v [] ++ i ∷ []) (sym same) ∙ ap (λ l. l ++ i ∷ []) here ∙ sym (more ∙ ap (λ b. found parent i k ++ cond b (i ∷ []) []) (eq-eqb p k (sym same)))
          | inr other ↦
              get_or-set_other old p k (get_or old p [] ++ i ∷ []) [] other ∙ here
              ∙ sym (more ∙ ap (λ b. found parent i k ++ cond b (i ∷ []) []) (ne_eqb p k (λ s. other (sym s))) ∙ append-nil (found parent i k))
        ])

pub root_turn : (f : ℕ → List ℕ) (i : ℕ) → flat_map f (range_with_len 0 (i + 1)) ≡ flat_map f (range_with_len 0 i) ++ f i
root_turn f i = ap (flat_map f) (range_more i) ∙ flat_map-append f (range_with_len 0 i) (i ∷ []) ∙ ap (λ l. flat_map f (range_with_len 0 i) ++ l) (append-nil (f i))
