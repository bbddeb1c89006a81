-- How often numbers occur in lists, and which nodes a listing visits.
use Rattle.std.proofs.Common.{◌≡◌, ℕ, zero, suc, ◌+◌, ◌<◌, ◌≤◌, inl, inr, Bool, true, false, cond, List, [], ◌∷◌, ◌++◌, length, map, filter, get_or, refl, sym, ap, ◌∙◌, subst, arith, length-append}
use Rattle.std.specs.Prelude.{Option, Some, None, ◌==◌, nat_lt, IsPermutation, ◌⊎◌}
use Rattle.std.specs.List.{range_with_len}
use Rattle.std.proofs.lemmas.Bool.{cases_Bool, cases_eq, cases_lt, eq-eqb, ne_eqb, lt-ltb, le-ltb}
use Rattle.std.proofs.lemmas.List.Sorted.{IsPermutation-refl, IsPermutation-trans, IsPermutation-cons, IsPermutation-sym, IsPermutation-middle}
use Rattle.thread_references.specs.Trees.{is_parent}

-- ---- how often a number occurs

abbrev pub times : ℕ → List ℕ → ℕ
times x [] = 0
times x (y ∷ ys) = cond (y == x) 1 0 + times x ys

pub times_append : (x : ℕ) (a b : List ℕ) → times x (a ++ b) ≡ times x a + times x b
times_append x [] b = let e : times x b ≡ 0 + times x b = omega arith in e
times_append x (y ∷ ys) b = let rest = times_append x ys b in let e : cond (y == x) 1 0 + times x (ys ++ b) ≡ cond (y == x) 1 0 + times x ys + times x b = omega (arith, rest) in e

pub times_self : (x : ℕ) (xs : List ℕ) → times x (x ∷ xs) ≡ 1 + times x xs
times_self x xs = ap (λ b. cond b 1 0 + times x xs) (eq-eqb x x refl)

pub times_other : (x y : ℕ) (xs : List ℕ) → (y ≡ x → ⊥) → times x (y ∷ xs) ≡ times x xs
times_other x y xs other = ap (λ b. cond b 1 0 + times x xs) (ne_eqb y x other) ∙ (let e : 0 + times x xs ≡ times x xs = omega arith in e)

abbrev Split : ℕ → List ℕ → Type 0
Split x ys = (a : List ℕ) × (b : List ℕ) × (ys ≡ a ++ x ∷ b)

split : (x : ℕ) (ys : List ℕ) → 0 < times x ys → Split x ys
split x [] h = absurd (omega (arith, h))
split x (y ∷ ys) h =
    elim (cases_eq y x) [
      | inl same ↦ ([], ys, ap (λ v. v ∷ ys) same)
      | inr other ↦
          let less : 0 < times x ys = subst (λ n. 0 < n) (times_other x y ys other) h in
          let s = split x ys less in
          (y ∷ s.0, s.1, ap (λ l. y ∷ l) s.2)
    ]

pub same_times : (xs ys : List ℕ) → ((x : ℕ) → times x xs ≡ times x ys) → IsPermutation xs ys
same_times [] [] same = IsPermutation-refl []
same_times [] (y ∷ ys) same = let none : 0 ≡ times y (y ∷ ys) = same y in let one = times_self y ys in absurd (omega (arith, none, one))
same_times (x ∷ xs) ys same =
    let one = times_self x xs in
    let e = same x in
    let s = split x ys (omega (arith, one, e)) in
    let rest : (z : ℕ) → times z xs ≡ times z (s.0 ++ s.1) =
    λ z.
    let whole : cond (x == z) 1 0 + times z xs ≡ times z s.0 + (cond (x == z) 1 0 + times z s.1) = same z ∙ ap (times z) s.2 ∙ times_append z s.0 (x ∷ s.1) in
    let parts = times_append z s.0 s.1 in
    omega (arith, whole, parts) in
    IsPermutation-trans (x ∷ xs) (x ∷ (s.0 ++ s.1)) ys (IsPermutation-cons x xs (s.0 ++ s.1) (same_times xs (s.0 ++ s.1) rest))
    (subst (IsPermutation (x ∷ (s.0 ++ s.1))) (sym s.2) (IsPermutation-sym (s.0 ++ x ∷ s.1) (x ∷ (s.0 ++ s.1)) (IsPermutation-middle s.0 x s.1)))

-- numbers below a bound, each once, are no more than the bound
pub few : (n : ℕ) (xs : List ℕ) → ((x : ℕ) → times x xs ≤ 1) → ((x : ℕ) → 0 < times x xs → x < n) → length xs ≤ n
few zero [] once below = omega arith
few zero (x ∷ xs) once below = let one = times_self x xs in let less = below x (omega (arith, one)) in absurd (omega (arith, less))
few (suc n) xs once below =
    elim (cases_lt 0 (times n xs)) [
      | inl there ↦
          let s = split n xs there in
          let whole : (x : ℕ) → times x xs ≡ times x s.0 + (cond (n == x) 1 0 + times x s.1) = λ x. ap (times x) s.2 ∙ times_append x s.0 (n ∷ s.1) in
          let rest =
          few n (s.0 ++ s.1) (λ x. let w = whole x in let p = times_append x s.0 s.1 in let o = once x in omega (arith, w, p, o))
          (λ x more.
          let p = times_append x s.0 s.1 in
          let w = whole x in
          let less = below x (omega (arith, w, p, more)) in
          elim (cases_eq n x) [
            | inl same ↦ let self : ◌≡◌ {A = ℕ} (cond (n == x) 1 0) 1 = ap (λ b. cond b 1 0) (eq-eqb n x same) in let o = once x in absurd (omega (arith, w, p, o, more, self))
            | inr other ↦ omega (arith, less, other)
          ]) in
          let size : length xs ≡ length s.0 + length (n ∷ s.1) = ap length s.2 ∙ length-append s.0 (n ∷ s.1) in
          let parts = length-append s.0 s.1 in
          omega (arith, size, parts, rest)
      | inr none ↦
          let rest =
          few n xs once
          (λ x more.
          let less = below x more in
          elim (cases_eq n x) [
            | inl same ↦ let here : times x xs ≤ 0 = subst (λ v. times v xs ≤ 0) same none in absurd (omega (arith, here, more))
            | inr other ↦ omega (arith, less, other)
          ]) in
          omega (arith, rest)
    ]

pub times_filter : (f : ℕ → Bool) (x : ℕ) (xs : List ℕ) → times x (filter f xs) ≡ cond (f x) (times x xs) 0
times_filter f x [] = none (f x)
  where
    none : (b : Bool) → ◌≡◌ {A = ℕ} 0 (cond b 0 0)
    none true = refl
    none false = refl
times_filter f x (y ∷ ys) =
    elim (cases_eq y x) [
      | inl same ↦
          elim (cases_Bool (f x)) [
            | inl e ↦
                ap (λ b. times x (cond b (y ∷ filter f ys) (filter f ys))) (ap f same ∙ e) ∙ ap (λ n. cond (y == x) 1 0 + n) (times_filter f x ys ∙ ap (λ b. cond b (times x ys) 0) e)
                ∙ sym (ap (λ b. cond b (times x (y ∷ ys)) 0) e)
            | inr e ↦ ap (λ b. times x (cond b (y ∷ filter f ys) (filter f ys))) (ap f same ∙ e) ∙ times_filter f x ys ∙ ap (λ b. cond b (times x ys) 0) e ∙ sym (ap (λ b. cond b (times x (y ∷ ys)) 0) e)
          ]
      | inr other ↦
          let off = times_other x y ys other in
          let kept : times x (filter f (y ∷ ys)) ≡ times x (filter f ys) =
          elim (cases_Bool (f y)) [
            | inl e ↦ ap (λ b. times x (cond b (y ∷ filter f ys) (filter f ys))) e ∙ times_other x y (filter f ys) other
            | inr e ↦ ap (λ b. times x (cond b (y ∷ filter f ys) (filter f ys))) e
          ] in
          kept ∙ times_filter f x ys ∙ ap (λ n. cond (f x) n 0) (sym off)
    ]

pub range_below : (x a n : ℕ) → x < a → times x (range_with_len a n) ≡ 0
range_below x a zero less = refl
range_below x a (suc n) less = times_other x a (range_with_len (a + 1) n) (λ e. absurd (omega (arith, e, less))) ∙ range_below x (a + 1) n (omega (arith, less))

pub range_past : (x a n : ℕ) → a + n ≤ x → times x (range_with_len a n) ≡ 0
range_past x a zero past = refl
range_past x a (suc n) past = times_other x a (range_with_len (a + 1) n) (λ e. absurd (omega (arith, e, past))) ∙ range_past x (a + 1) n (omega (arith, past))

pub range_inside : (x a n : ℕ) → a ≤ x → x < a + n → times x (range_with_len a n) ≡ 1
range_inside x a zero least less = absurd (omega (arith, least, less))
range_inside x a (suc n) least less =
    elim (cases_eq a x) [
      | inl same ↦
          ap (λ v. times v (a ∷ range_with_len (a + 1) n)) (sym same) ∙ times_self a (range_with_len (a + 1) n)
          ∙ (let none = range_below a (a + 1) n (omega arith) in let e : 1 + times a (range_with_len (a + 1) n) ≡ 1 = omega (arith, none) in e)
      | inr other ↦ times_other x a (range_with_len (a + 1) n) other ∙ range_inside x (a + 1) n (omega (arith, least, other)) (omega (arith, less))
    ]

-- ---- which nodes a listing visits

abbrev pub visit : (ℕ → List ℕ) → ℕ → List ℕ → List ℕ
visit kids steps [] = []
visit kids zero (w ∷ more) = []
visit kids (suc steps) (w ∷ more) = w ∷ visit kids steps (kids w ++ more)

abbrev pub left : (ℕ → List ℕ) → ℕ → List ℕ → List ℕ
left kids steps [] = []
left kids zero (w ∷ more) = w ∷ more
left kids (suc steps) (w ∷ more) = left kids steps (kids w ++ more)

abbrev pub total : (ℕ → ℕ) → List ℕ → ℕ
total k [] = 0
total k (x ∷ xs) = k x + total k xs

pub total_zero : (xs : List ℕ) → total (λ _. 0) xs ≡ 0
total_zero [] = refl
total_zero (x ∷ xs) = let rest = total_zero xs in let e : 0 + total (λ _. 0) xs ≡ 0 = omega (arith, rest) in e

flip : (a b : ℕ) → (a == b) ≡ (b == a)
flip a b = elim (cases_eq a b) [ inl same ↦ eq-eqb a b same ∙ sym (eq-eqb b a (sym same)) | inr other ↦ ne_eqb a b other ∙ sym (ne_eqb b a (λ e. other (sym e))) ]

pub total_times : (p : ℕ) (xs : List ℕ) → total (λ x. cond (p == x) 1 0) xs ≡ times p xs
total_times p [] = refl
total_times p (x ∷ xs) = ap (λ b. cond b 1 0 + total (λ v. cond (p == v) 1 0) xs) (flip p x) ∙ ap (λ n. cond (x == p) 1 0 + n) (total_times p xs)

-- a node is visited or waits as often as it waited first, and once for each visit of a node whose child it is
balance : (kids : ℕ → List ℕ) (m : ℕ) (k : ℕ → ℕ) → ((x : ℕ) → times m (kids x) ≡ k x) → (steps : ℕ) (ws : List ℕ) → times m (visit kids steps ws) + times m (left kids steps ws) ≡ times m ws + total k (visit kids steps ws)
balance kids m k each steps [] = refl
balance kids m k each zero (w ∷ more) = let e : 0 + times m (w ∷ more) ≡ times m (w ∷ more) + 0 = omega arith in e
balance kids m k each (suc steps) (w ∷ more) =
    let rest = balance kids m k each steps (kids w ++ more) in
    let both = times_append m (kids w) more in
    let here = each w in
    let e : cond (w == m) 1 0 + times m (visit kids steps (kids w ++ more)) + times m (left kids steps (kids w ++ more)) ≡ cond (w == m) 1 0 + times m more + (k w + total k (visit kids steps (kids w ++ more))) = omega (arith, rest, both, here) in e

steps_taken : (kids : ℕ → List ℕ) (steps : ℕ) (ws : List ℕ) → (left kids steps ws ≡ []) ⊎ (length (visit kids steps ws) ≡ steps)
steps_taken kids steps [] = inl refl
steps_taken kids zero (w ∷ more) = inr refl
steps_taken kids (suc steps) (w ∷ more) = elim (steps_taken kids steps (kids w ++ more)) [ inl e ↦ inl e | inr e ↦ inr (ap suc e) ]

-- trees of some nodes below a size, of which those below a count are messages; a node's rank is above its parent's
pub record AreTrees (parent : ℕ → Option ℕ) (rank : ℕ → ℕ) (kids : ℕ → List ℕ) (roots : List ℕ) (count size : ℕ) : Type 0 where
  pub children : (m x : ℕ) → times m (kids x) ≡ cond (is_parent x (parent m)) 1 0
  pub root : (m : ℕ) → times m roots ≤ 1
  pub child : (m p : ℕ) → parent m ≡ Some p → times m roots ≡ 0
  pub rises : (m p : ℕ) → parent m ≡ Some p → rank p < rank m
  pub roots_inside : (m : ℕ) → 0 < times m roots → m < size
  pub children_inside : (m p : ℕ) → parent m ≡ Some p → m < size
  pub message_root : (m : ℕ) → m < count → parent m ≡ None → times m roots ≡ 1
  pub above : (m p : ℕ) → parent m ≡ Some p → (p < count) ⊎ ((parent p ≡ None) × (times p roots ≡ 1))

module _ (parent : ℕ → Option ℕ) (rank : ℕ → ℕ) (kids : ℕ → List ℕ) (roots : List ℕ) (count size : ℕ) (t : AreTrees parent rank kids roots count size) where
  at_root : (steps m : ℕ) → parent m ≡ None → times m (visit kids steps roots) + times m (left kids steps roots) ≡ times m roots
  unfolding is_parent
  at_root steps m e =
      let b = balance kids m (λ _. 0) (λ x. t.children m x ∙ ap (λ o. cond (is_parent x o) 1 0) e) steps roots in
      let z = total_zero (visit kids steps roots) in
      omega (arith, b, z)

  at_child : (steps m p : ℕ) → parent m ≡ Some p → times m (visit kids steps roots) + times m (left kids steps roots) ≡ times p (visit kids steps roots)
  unfolding is_parent
  at_child steps m p e =
      let b = balance kids m (λ x. cond (p == x) 1 0) (λ x. t.children m x ∙ ap (λ o. cond (is_parent x o) 1 0) e) steps roots in
      let z = total_times p (visit kids steps roots) in
      let none = t.child m p e in
      omega (arith, b, z, none)

  most : (steps bound m : ℕ) → rank m < bound → times m (visit kids steps roots) + times m (left kids steps roots) ≤ 1
  most steps zero m less = absurd (omega (arith, less))
  most steps (suc bound) m less = by_parent (λ p lower. most steps bound p lower) (parent m) refl
    where
      by_parent : ((p : ℕ) → rank p < bound → times p (visit kids steps roots) + times p (left kids steps roots) ≤ 1) → (o : Option ℕ) → parent m ≡ o → times m (visit kids steps roots) + times m (left kids steps roots) ≤ 1
      by_parent higher None e = let b = at_root steps m e in let one = t.root m in omega (arith, b, one)
      by_parent higher (Some p) e = let b = at_child steps m p e in let lower = t.rises m p e in let one = higher p (omega (arith, lower, less)) in omega (arith, b, one)

  inside : (steps m : ℕ) → 0 < times m (visit kids steps roots) + times m (left kids steps roots) → m < size
  inside steps m some = by_parent (parent m) refl
    where
      by_parent : (o : Option ℕ) → parent m ≡ o → m < size
      by_parent None e = let b = at_root steps m e in t.roots_inside m (omega (arith, b, some))
      by_parent (Some p) e = t.children_inside m p e

  nothing_left : left kids size roots ≡ []
  nothing_left =
      elim (steps_taken kids size roots) [
        | inl e ↦ e
        | inr full ↦
            let v : List ℕ = visit kids size roots in
            let l : List ℕ = left kids size roots in
            let all = few size (v ++ l) (λ x. let p = times_append x v l in let o = most size (suc (rank x)) x (omega arith) in omega (arith, p, o)) (λ x some. let p = times_append x v l in inside size x (omega (arith, p, some))) in
            let long = length-append v l in
            none l (omega (arith, all, long, full))
      ]
    where
      none : (xs : List ℕ) → length xs ≡ 0 → xs ≡ []
      none [] e = refl
      none (x ∷ xs) e = absurd (omega (arith, e))

  each : (bound m : ℕ) → rank m < bound → m < count → times m (visit kids size roots) ≡ 1
  each zero m less message = absurd (omega (arith, less))
  each (suc bound) m less message = by_parent (λ p lower below. each bound p lower below) (parent m) refl
    where
      gone : (x : ℕ) → times x (left kids size roots) ≡ 0
      gone x = ap (times x) nothing_left

      by_parent : ((p : ℕ) → rank p < bound → p < count → times p (visit kids size roots) ≡ 1) → (o : Option ℕ) → parent m ≡ o → times m (visit kids size roots) ≡ 1
      by_parent higher None e = let b = at_root size m e in let g = gone m in let one = t.message_root m message e in omega (arith, b, g, one)
      by_parent higher (Some p) e =
          let b = at_child size m p e in
          let g = gone m in
          let lower = t.rises m p e in
          let up : times p (visit kids size roots) ≡ 1 =
          elim (t.above m p e) [
            | inl below ↦ higher p (omega (arith, lower, less)) below
            | inr top ↦ let c = at_root size p top.0 in let h = gone p in let one = top.1 in omega (arith, c, h, one)
          ] in
          omega (arith, b, g, up)

  -- each message is visited once
  pub visits_each : IsPermutation (range_with_len 0 count) (filter (λ x. nat_lt x count) (visit kids size roots))
  visits_each =
      same_times (range_with_len 0 count) (filter (λ x. nat_lt x count) (visit kids size roots))
      (λ x.
      elim (cases_lt x count) [
        | inl less ↦
            range_inside x 0 count (omega arith) (omega (arith, less)) ∙ sym (each (suc (rank x)) x (omega arith) less) ∙ sym (times_filter (λ v. nat_lt v count) x (visit kids size roots) ∙ ap (λ b. cond b (times x (visit kids size roots)) 0) (lt-ltb x count less))
        | inr past ↦ range_past x 0 count (omega (arith, past)) ∙ sym (times_filter (λ v. nat_lt v count) x (visit kids size roots) ∙ ap (λ b. cond b (times x (visit kids size roots)) 0) (le-ltb x count past))
      ])
