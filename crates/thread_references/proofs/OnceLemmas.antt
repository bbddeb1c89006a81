-- If no message is above itself, each is listed once.
use Rattle.std.proofs.Common.{◌≡◌, ℕ, zero, suc, ◌+◌, ◌<◌, ◌≤◌, inl, inr, Bool, true, false, cond, List, [], ◌∷◌, ◌++◌, length, map, filter, get_or, refl, sym, ap, ◌∙◌, subst, arith, length-append}
use Rattle.std.specs.Prelude.{Option, Some, None, ◌==◌, not, ◌&&◌, nat_lt, IsPermutation, ◌⊎◌, reverse, flat_map, unwrap_or, if◌then◌else◌}
use Rattle.std.specs.List.{range_with_len}
use Rattle.std.proofs.lemmas.Bool.{cases_Bool, cases_eq, cases_lt, eq-eqb, eqb-true, ne_eqb, lt-ltb, le-ltb, both_ways}
use Rattle.std.proofs.lemmas.List.{map-append, reverse-append, get_or_past}
use Rattle.std.proofs.lemmas.List.FromFn.{get_or-map-range_with_len, fill_by_all}
use Rattle.std.proofs.lemmas.List.Sorted.{IsPermutation-map}
use Rattle.std.proofs.lemmas.List.{length-map}
use Rattle.thread_references.specs.Trees.{is_parent, is_first, parent_at, children_of, all_children, roots_at, roots_of}
use Rattle.thread_references.specs.Listing.{Waiting, at_depth, rows_of, list_from, flat}
use Rattle.thread_references.proofs.VisitLemmas.{times, times_append, times_self, times_other, times_filter, range_inside, range_past, visit, total, total_zero, total_times, AreTrees, visits_each}

clash : false ≡ true → ⊥
clash e = both_ways false refl e

-- ---- the rows are those of the nodes that are visited

nodes_at : (depth : ℕ) (xs : List ℕ) → map (λ w. w.0) (at_depth depth xs) ≡ xs
nodes_at depth [] = refl
nodes_at depth (x ∷ xs) = ap (λ l. x ∷ l) (nodes_at depth xs)

rows_visited : (uids : List ℕ) (children : List (List ℕ)) (steps : ℕ) (ws : List Waiting) → map (λ r. r.0) (list_from uids children steps ws) ≡ map (λ x. get_or uids x 0) (filter (λ x. nat_lt x (length uids)) (visit (λ x. get_or children x []) steps (map (λ w. w.0) ws)))
unfolding list_from
rows_visited uids children steps [] = refl
rows_visited uids children zero (w ∷ more) = refl
rows_visited uids children (suc steps) (w ∷ more) =
    let below : List ℕ = get_or children w.0 [] in
    let rows : List (ℕ × ℕ) = list_from uids children steps (at_depth (w.1 + 1) below ++ more) in
    let rest : List ℕ = filter (λ x. nat_lt x (length uids)) (visit (λ x. get_or children x []) steps (below ++ map (λ v. v.0) more)) in
    let names : map (λ v. v.0) (at_depth (w.1 + 1) below ++ more) ≡ below ++ map (λ v. v.0) more = map-append (λ v. v.0) (at_depth (w.1 + 1) below) more ∙ ap (λ l. l ++ map (λ v. v.0) more) (nodes_at (w.1 + 1) below) in
    let after : map (λ r. r.0) rows ≡ map (λ x. get_or uids x 0) rest =
    rows_visited uids children steps (at_depth (w.1 + 1) below ++ more)
    ∙ ap (λ l. map (λ x. get_or uids x 0) (filter (λ x. nat_lt x (length uids)) (visit (λ x. get_or children x []) steps l))) names in
    elim (cases_Bool (nat_lt w.0 (length uids))) [
      | inl e ↦
          ap (λ b. map (λ r. r.0) ((if b then (get_or uids w.0 0, w.1) ∷ [] else []) ++ rows)) e ∙ ap (λ l. get_or uids w.0 0 ∷ l) after
          ∙ sym (ap (λ b. map (λ x. get_or uids x 0) (cond b (w.0 ∷ rest) rest)) e)
      | inr e ↦ ap (λ b. map (λ r. r.0) ((if b then (get_or uids w.0 0, w.1) ∷ [] else []) ++ rows)) e ∙ after ∙ sym (ap (λ b. map (λ x. get_or uids x 0) (cond b (w.0 ∷ rest) rest)) e)
    ]

-- ---- how often a node is a root

times_reverse : (x : ℕ) (xs : List ℕ) → times x (reverse xs) ≡ times x xs
times_reverse x [] = refl
times_reverse x (y ∷ ys) =
    ap (times x) (reverse-append (y ∷ []) ys) ∙ times_append x (reverse ys) (y ∷ [])
    ∙ (let rest = times_reverse x ys in let e : times x (reverse ys) + (cond (y == x) 1 0 + 0) ≡ cond (y == x) 1 0 + times x ys = omega (arith, rest) in e)

times_flat : (t : ℕ) (f : ℕ → List ℕ) (k : ℕ → ℕ) (a n : ℕ) → ((i : ℕ) → i < a + n → times t (f i) ≡ k i) → times t (flat_map f (range_with_len a n)) ≡ total k (range_with_len a n)
times_flat t f k a zero each = refl
times_flat t f k a (suc n) each =
    times_append t (f a) (flat_map f (range_with_len (a + 1) n))
    ∙ (
    let here = each a (omega arith) in
    let rest = times_flat t f k (a + 1) n (λ i less. each i (omega (arith, less))) in
    let e : times t (f a) + times t (flat_map f (range_with_len (a + 1) n)) ≡ k a + total k (range_with_len (a + 1) n) = omega (arith, here, rest) in
    e
    )

total_same : (a : ℕ) (xs : List ℕ) → total (λ i. cond (i == a) 1 0) xs ≡ times a xs
total_same a [] = refl
total_same a (x ∷ xs) = ap (λ n. cond (x == a) 1 0 + n) (total_same a xs)

one_time : (x y : ℕ) → (y ≡ x → ⊥) → times x (y ∷ []) ≡ 0
one_time x y other = times_other x y [] other

parent_from : (x : ℕ) (o : Option ℕ) → is_parent x o ≡ true → o ≡ Some x
unfolding is_parent
parent_from x None e = absurd (both_ways false refl e)
parent_from x (Some p) e = ap Some (eqb-true p x e)

some_once : (b : Bool) → 0 < cond b 1 0 → b ≡ true
some_once true h = refl
some_once false h = absurd (omega (arith, h))

none_or_some : (o : Option ℕ) → (o ≡ None) ⊎ ((p : ℕ) × (o ≡ Some p))
none_or_some None = inl refl
none_or_some (Some p) = inr (p, refl)

not_none : (p : ℕ) → Some p ≡ None → ⊥
not_none p e = absurd (cc)

same_some : (p q : ℕ) → Some p ≡ Some q → p ≡ q
same_some p q e = ap (λ o. unwrap_or o p) e

module _ (n : ℕ) (parents : List (Option ℕ)) (rank : ℕ → ℕ) (inside : (m p : ℕ) → m < n → parent_at n parents m ≡ Some p → p < n + n) (rises : (m p : ℕ) → m < n → parent_at n parents m ≡ Some p → p < n → rank p < rank m) where
  parent : ℕ → Option ℕ
  parent m = cond (nat_lt m n) (parent_at n parents m) None

  high : ℕ → ℕ
  high x = cond (nat_lt x n) (suc (rank x)) 0

  kids : ℕ → List ℕ
  kids x = get_or (all_children n parents) x []

  parent_below : (m : ℕ) → m < n → parent m ≡ parent_at n parents m
  unfolding parent
  parent_below m less = ap (λ b. cond b (parent_at n parents m) None) (lt-ltb m n less)

  parent_past : (m : ℕ) → n ≤ m → parent m ≡ None
  unfolding parent
  parent_past m past = ap (λ b. cond b (parent_at n parents m) None) (le-ltb m n past)

  has_parent : (m p : ℕ) → parent m ≡ Some p → (m < n) × (parent_at n parents m ≡ Some p)
  has_parent m p e =
      elim (cases_lt m n) [
        | inl less ↦ (less, sym (parent_below m less) ∙ e)
        | inr past ↦ absurd (not_none p (sym e ∙ parent_past m past))
      ]

  kids_inside : (x : ℕ) → x < n + n → kids x ≡ children_of n parents x
  unfolding kids all_children
  kids_inside x less = get_or-map-range_with_len (children_of n parents) 0 (n + n) x x [] less (omega arith)

  kids_past : (x : ℕ) → n + n ≤ x → kids x ≡ []
  unfolding kids all_children
  kids_past x past = get_or_past (map (children_of n parents) (range_with_len 0 (n + n))) x [] (let e = length-map (range_with_len 0 (n + n)) (children_of n parents) in let s = length_range 0 (n + n) in omega (arith, e, s, past))
    where
      length_range : (a k : ℕ) → length (range_with_len a k) ≡ k
      length_range a zero = refl
      length_range a (suc k) = ap suc (length_range (a + 1) k)

  children : (m x : ℕ) → times m (kids x) ≡ cond (is_parent x (parent m)) 1 0
  unfolding is_parent
  children m x =
      elim (cases_lt x (n + n)) [
        | inl less ↦
            ap (times m) (kids_inside x less) ∙ times_filter (λ v. is_parent x (parent_at n parents v)) m (range_with_len 0 n)
            ∙ elim (cases_lt m n) [
              | inl message ↦ ap (λ k. cond (is_parent x (parent_at n parents m)) k 0) (range_inside m 0 n (omega arith) (omega (arith, message))) ∙ sym (ap (λ o. cond (is_parent x o) 1 0) (parent_below m message))
              | inr past ↦
                  ap (λ k. cond (is_parent x (parent_at n parents m)) k 0) (range_past m 0 n (omega (arith, past))) ∙ zero_or_zero (is_parent x (parent_at n parents m)) ∙ sym (ap (λ o. cond (is_parent x o) 1 0) (parent_past m past))
            ]
        | inr past ↦
            ap (times m) (kids_past x past)
            ∙ elim (none_or_some (parent m)) [
              | inl none ↦ sym (ap (λ o. cond (is_parent x o) 1 0) none)
              | inr some ↦
                  let h = has_parent m some.0 some.1 in
                  let less = inside m some.0 h.0 h.1 in
                  sym (ap (λ o. cond (is_parent x o) 1 0) some.1 ∙ ap (λ b. cond b 1 0) (ne_eqb some.0 x (λ e. absurd (omega (arith, e, less, past)))))
            ]
      ]
    where
      zero_or_zero : (b : Bool) → ◌≡◌ {A = ℕ} (cond b 0 0) 0
      zero_or_zero true = refl
      zero_or_zero false = refl

  roots : List ℕ
  roots = reverse (roots_of n parents)

  times_roots : (t : ℕ) (k : ℕ → ℕ) → ((i : ℕ) → i < n → times t (roots_at n (all_children n parents) i (parent_at n parents i)) ≡ k i) → times t roots ≡ total k (range_with_len 0 n)
  unfolding roots roots_of
  times_roots t k each = times_reverse t (roots_of n parents) ∙ times_flat t (λ i. roots_at n (all_children n parents) i (parent_at n parents i)) k 0 n (λ i less. each i (omega (arith, less)))

  -- what a message brings to the roots, seen from another number
  brings_none : (t i : ℕ) → i < n → (o : Option ℕ) → parent_at n parents i ≡ o → (o ≡ None → i ≡ t → ⊥) → ((p : ℕ) → o ≡ Some p → n ≤ p → is_first i (kids p) ≡ true → p ≡ t → ⊥) → times t (roots_at n (all_children n parents) i o) ≡ 0
  unfolding roots_at kids
  brings_none t i less None e top dummy = one_time t i (top refl)
  brings_none t i less (Some p) e top dummy =
      elim (cases_Bool (not (nat_lt p n) && is_first i (get_or (all_children n parents) p []))) [
        | inl here ↦
            let past : n ≤ p = elim (cases_lt p n) [ inl below ↦ absurd (clash (sym (sym here ∙ ap (λ b. not b && is_first i (get_or (all_children n parents) p [])) (lt-ltb p n below)))) | inr l ↦ l ] in
            let first : is_first i (get_or (all_children n parents) p []) ≡ true = sym (ap (λ b. not b && is_first i (get_or (all_children n parents) p [])) (le-ltb p n past)) ∙ here in
            ap (λ b. times t (if b then p ∷ [] else [])) here ∙ one_time t p (dummy p refl past first)
        | inr off ↦ ap (λ b. times t (if b then p ∷ [] else [])) off
      ]

  message_is_root : (t : ℕ) → t < n → parent_at n parents t ≡ None → times t roots ≡ 1
  unfolding roots_at
  message_is_root t less none =
      times_roots t (λ i. cond (i == t) 1 0)
      (λ i below.
      elim (cases_eq i t) [
        | inl same ↦
            ap (λ o. times t (roots_at n (all_children n parents) i o)) (ap (parent_at n parents) same ∙ none) ∙ ap (λ v. times t (v ∷ [])) same ∙ times_self t [] ∙ sym (ap (λ b. cond b 1 0) (eq-eqb i t same))
        | inr other ↦
            brings_none t i below (parent_at n parents i) refl (λ e. other) (λ p is past first same. absurd (omega (arith, same, past, less))) ∙ sym (ap (λ b. cond b 1 0) (ne_eqb i t other))
      ])
      ∙ total_same t (range_with_len 0 n) ∙ range_inside t 0 n (omega arith) (omega (arith, less))

  child_is_none : (t p : ℕ) → t < n → parent_at n parents t ≡ Some p → times t roots ≡ 0
  child_is_none t p less some =
      times_roots t (λ _. 0)
      (λ i below. brings_none t i below (parent_at n parents i) refl (λ e same. not_none p (sym some ∙ ap (parent_at n parents) (sym same) ∙ e)) (λ q is past first same. absurd (omega (arith, same, past, less))))
      ∙ total_zero (range_with_len 0 n)

  child_of : (t y : ℕ) (ys : List ℕ) → kids t ≡ y ∷ ys → (y < n) × (parent_at n parents y ≡ Some t)
  child_of t y ys is =
      let c = children y t in
      let one : times y (kids t) ≡ 1 + times y ys = ap (times y) is ∙ times_self y ys in
      has_parent y t (parent_from t (parent y) (some_once (is_parent t (parent y)) (omega (arith, c, one))))

  dummy_with_none : (t : ℕ) → n ≤ t → kids t ≡ [] → times t roots ≡ 0
  unfolding is_first
  dummy_with_none t past none =
      times_roots t (λ _. 0)
      (λ i below.
      brings_none t i below (parent_at n parents i) refl (λ e same. absurd (omega (arith, same, past, below))) (λ q is far first same. clash (sym (sym first ∙ ap (λ x. is_first i (kids x)) same ∙ ap (is_first i) none))))
      ∙ total_zero (range_with_len 0 n)

  dummy_with_some : (t y : ℕ) (ys : List ℕ) → n ≤ t → kids t ≡ y ∷ ys → times t roots ≡ 1
  unfolding is_first roots_at kids
  dummy_with_some t y ys past is =
      let own = child_of t y ys is in
      times_roots t (λ i. cond (y == i) 1 0)
      (λ i below.
      elim (cases_eq y i) [
        | inl same ↦
            let first : is_first i (get_or (all_children n parents) t []) ≡ true = ap (is_first i) is ∙ eq-eqb y i same in
            ap (λ o. times t (roots_at n (all_children n parents) i o)) (ap (parent_at n parents) (sym same) ∙ own.1)
            ∙ ap (λ b. times t (if not b && is_first i (get_or (all_children n parents) t []) then t ∷ [] else [])) (le-ltb t n past) ∙ ap (λ b. times t (if b then t ∷ [] else [])) first ∙ times_self t [] ∙ sym (ap (λ b. cond b 1 0) (eq-eqb y i same))
        | inr other ↦
            brings_none t i below (parent_at n parents i) refl (λ e same. absurd (omega (arith, same, past, below)))
            (λ q at far first same. other (eqb-true y i (sym (ap (λ x. is_first i (get_or (all_children n parents) x [])) same ∙ ap (is_first i) is) ∙ first)))
            ∙ sym (ap (λ b. cond b 1 0) (ne_eqb y i other))
      ])
      ∙ total_times y (range_with_len 0 n) ∙ range_inside y 0 n (omega arith) (let less = own.0 in omega (arith, less))

  Kids : ℕ → Type 0
  Kids t = (kids t ≡ []) ⊎ ((y : ℕ) × (ys : List ℕ) × (kids t ≡ y ∷ ys))

  kids_cases : (t : ℕ) → Kids t
  unfolding Kids
  kids_cases t = by_list (kids t) refl
    where
      by_list : (l : List ℕ) → kids t ≡ l → (kids t ≡ []) ⊎ ((y : ℕ) × (ys : List ℕ) × (kids t ≡ y ∷ ys))
      by_list [] e = inl e
      by_list (y ∷ ys) e = inr (y, ys, e)

  root_once : (t : ℕ) → times t roots ≤ 1
  unfolding Kids
  root_once t =
      elim (cases_lt t n) [
        | inl less ↦
            elim (none_or_some (parent_at n parents t)) [
              | inl none ↦ let e = message_is_root t less none in omega (arith, e)
              | inr some ↦ let e = child_is_none t some.0 less some.1 in omega (arith, e)
            ]
        | inr past ↦
            elim (kids_cases t) [
              | inl none ↦ let e = dummy_with_none t past none in omega (arith, e)
              | inr some ↦ let e = dummy_with_some t some.0 some.1 past some.2 in omega (arith, e)
            ]
      ]

  root_inside : (t : ℕ) → 0 < times t roots → t < n + n
  root_inside t some =
      elim (cases_lt t (n + n)) [
        | inl less ↦ less
        | inr past ↦ let e = dummy_with_none t (omega (arith, past)) (kids_past t past) in absurd (omega (arith, e, some))
      ]

  top_dummy : (m p : ℕ) → parent m ≡ Some p → n ≤ p → times p roots ≡ 1
  unfolding Kids is_parent
  top_dummy m p e past =
      elim (kids_cases p) [
        | inl none ↦
            let c = children m p in
            let zero-times : times m (kids p) ≡ 0 = ap (times m) none in
            let one : ◌≡◌ {A = ℕ} (cond (is_parent p (parent m)) 1 0) 1 = ap (λ o. cond (is_parent p o) 1 0) e ∙ ap (λ b. cond b 1 0) (eq-eqb p p refl) in
            absurd (omega (arith, c, zero-times, one))
        | inr some ↦ dummy_with_some p some.0 some.1 past some.2
      ]

  high_below : (x : ℕ) → x < n → high x ≡ suc (rank x)
  unfolding high
  high_below x less = ap (λ b. cond b (suc (rank x)) 0) (lt-ltb x n less)

  high_past : (x : ℕ) → n ≤ x → high x ≡ 0
  unfolding high
  high_past x past = ap (λ b. cond b (suc (rank x)) 0) (le-ltb x n past)

  are_trees : AreTrees parent high kids roots n (n + n)
  are_trees =
      record {
        children = children;
        root = root_once;
        child = λ m p e. let h = has_parent m p e in child_is_none m p h.0 h.1;
        rises =
            λ m p e.
            let h = has_parent m p e in
            let own = high_below m h.0 in
            elim (cases_lt p n) [
              | inl less ↦ let up = high_below p less in let r = rises m p h.0 h.1 less in omega (arith, own, up, r)
              | inr past ↦ let up = high_past p past in omega (arith, own, up)
            ];
        roots_inside = root_inside;
        children_inside = λ m p e. let less = (has_parent m p e).0 in omega (arith, less);
        message_root = λ m less e. message_is_root m less (sym (parent_below m less) ∙ e);
        above =
            λ m p e.
            elim (cases_lt p n) [
              | inl less ↦ inl less
              | inr past ↦ inr (parent_past p past, top_dummy m p e past)
            ];
      }

  once : (uids : List ℕ) → length uids ≡ n → IsPermutation uids (map (λ r. r.0) (list_from uids (all_children n parents) (n + n) (at_depth 0 (reverse (roots_of n parents)))))
  unfolding kids roots
  once uids size =
      let visited : List ℕ = filter (λ x. nat_lt x n) (visit (λ x. get_or (all_children n parents) x []) (n + n) (reverse (roots_of n parents))) in
      let rows : map (λ r. r.0) (list_from uids (all_children n parents) (n + n) (at_depth 0 (reverse (roots_of n parents)))) ≡ map (λ x. get_or uids x 0) visited =
      rows_visited uids (all_children n parents) (n + n) (at_depth 0 (reverse (roots_of n parents)))
      ∙ ap (λ l. map (λ x. get_or uids x 0) (filter (λ x. nat_lt x (length uids)) (visit (λ x. get_or (all_children n parents) x []) (n + n) l))) (nodes_at 0 (reverse (roots_of n parents)))
      ∙ ap (λ k. map (λ x. get_or uids x 0) (filter (λ x. nat_lt x k) (visit (λ x. get_or (all_children n parents) x []) (n + n) (reverse (roots_of n parents))))) size in
      let own : uids ≡ map (λ x. get_or uids x 0) (range_with_len 0 n) = fill_by_all (λ x. get_or uids x 0) uids n 0 size (λ k less. refl) in
      subst (IsPermutation uids) (sym rows)
      (subst (λ l. IsPermutation l (map (λ x. get_or uids x 0) visited)) (sym own) (IsPermutation-map (λ x. get_or uids x 0) (range_with_len 0 n) visited (visits_each parent high kids roots n (n + n) are_trees)))

-- if each message's parent is a message of a lower rank or a dummy, each message is listed once
pub listed_once : (uids : List ℕ) (parents : List (Option ℕ)) (rank : ℕ → ℕ) → ((m p : ℕ) → m < length uids → parent_at (length uids) parents m ≡ Some p → p < length uids + length uids)
    → ((m p : ℕ) → m < length uids → parent_at (length uids) parents m ≡ Some p → p < length uids → rank p < rank m) → IsPermutation uids (map (λ r. r.0) (flat uids parents))
unfolding flat
listed_once uids parents rank inside rises = once (length uids) parents rank inside rises uids refl
