-- Each message's parent is a message of a lower rank or a dummy: pruning and merging make no loop.
use Rattle.std.proofs.Common.{◌≡◌, ℕ, zero, suc, ◌+◌, ◌-◌, ◌<◌, ◌≤◌, inl, inr, Bool, true, false, cond, List, [], ◌∷◌, ◌++◌, length, map, get_or, set, refl, sym, ap, ◌∙◌, subst, arith, length-append}
use Rattle.std.specs.Prelude.{Option, Some, None, is_some, ◌==◌, not, ◌&&◌, ◌||◌, nat_lt, ◌⊎◌, fold, flat_map, unwrap_or, option_map, position, replicate, count_by, if◌then◌else◌, IsPermutation}
use Rattle.std.specs.List.{range_with_len}
use Rattle.std.specs.Str.{bytes_eq}
use Rattle.std.proofs.lemmas.Bool.{cases_Bool, cases_eq, cases_lt, eq-eqb, ne_eqb, lt-ltb, le-ltb, both_ways}
use Rattle.std.proofs.lemmas.List.{get_or-map, get_or_append_left, get_or_past, get_or-set_same, get_or-set_other, set_past, length-map, length-replicate}
use Rattle.std.proofs.lemmas.List.Quantifiers.{position-Some}
use Rattle.thread_places.specs.declared.places.Place.{Place}
use Rattle.thread_places.specs.declared.facts.Facts.{Facts}
use Rattle.thread_places.specs.Dates.{date_order, in_order}
use Rattle.thread_places.specs.Places.{message_places}
use Rattle.thread_places.proofs.DateLemmas.{length_order}
use Rattle.thread_places.proofs.PlaceLemmas.{length_places}
use Rattle.thread_places.proofs.ForestLemmas.{height, above_lower}
use Rattle.thread_references.specs.Trees.{is_topmost, pruned_parent, prune, replaced_by, parent_through, parent_at, all_children, roots_at, roots_of, is_first}
use Rattle.thread_references.specs.Subjects.{Headings, Merging, is_dummy, is_reply, subject_of, root_for, replaces, enter_as, enter, put_under, join_under_new, goes_under, merge_with, merge_as, merge, merge_roots, folded_subject, headings_of, pruned_parents, parents_of}

-- whether a parent is a message
abbrev under_message : ℕ → Option ℕ → Bool
under_message n None = false
under_message n (Some p) = nat_lt p n

-- parents once some trees are merged
record Fits (n : ℕ) (h : Headings) (old new : List (Option ℕ)) : Type 0 where
  kept : (m : ℕ) → m < n → under_message n (get_or old m None) ≡ true → get_or new m None ≡ get_or old m None
  joined : (m p : ℕ) → m < n → under_message n (get_or old m None) ≡ false → get_or new m None ≡ Some p → p < n → (is_reply h m ≡ true) × (is_reply h p ≡ false) × (under_message n (get_or old p None) ≡ false)
  inside : (x p : ℕ) → get_or new x None ≡ Some p → p < n + n
  dummies : (x p : ℕ) → n ≤ x → get_or new x None ≡ Some p → n ≤ p

-- what is left at the top once dummies are pruned
record IsTop (n : ℕ) (old : List (Option ℕ)) (x : ℕ) : Type 0 where
  inside : x < n + n
  top : under_message n (get_or old x None) ≡ false

clash : false ≡ true → ⊥
clash e = both_ways false refl e

none_some : (p : ℕ) → None ≡ Some p → ⊥
none_some p e = clash (ap is_some e)

same_some : (p q : ℕ) → Some p ≡ Some q → p ≡ q
same_some p q e = ap (λ o. unwrap_or o p) e

set_at : (xs : List (Option ℕ)) (r x : ℕ) (v : Option ℕ) → (get_or (set xs r v) x None ≡ get_or xs x None) ⊎ ((x ≡ r) × (get_or (set xs r v) x None ≡ v))
set_at xs r x v =
    elim (cases_eq x r) [
      | inl same ↦
          elim (cases_lt r (length xs)) [
            | inl less ↦ inr (same, ap (λ i. get_or (set xs r v) i None) same ∙ get_or-set_same xs r v None less)
            | inr past ↦ inl (ap (λ l. get_or l x None) (set_past xs r v past))
          ]
      | inr other ↦ inl (get_or-set_other xs r x v None other)
    ]

fits_set : (n : ℕ) (h : Headings) (old new : List (Option ℕ)) (r q : ℕ) → Fits n h old new → IsTop n old r → q < n + n → (n ≤ r → n ≤ q) → (r < n → q < n → (is_reply h r ≡ true) × (is_reply h q ≡ false) × (under_message n (get_or old q None) ≡ false)) → Fits n h old (set new r (Some q))
fits_set n h old new r q fits t less far near =
    record {
      kept =
          λ m below under.
          elim (set_at new r m (Some q)) [
            | inl e ↦ e ∙ fits.kept m below under
            | inr e ↦ absurd (both_ways _ (ap (λ v. under_message n (get_or old v None)) e.0 ∙ t.top) under)
          ];
      joined =
          λ m p below under e less-p.
          elim (set_at new r m (Some q)) [
            | inl same ↦ fits.joined m p below under (sym same ∙ e) less-p
            | inr set ↦
                let is : q ≡ p = same_some q p (sym set.1 ∙ e) in
                let own = near (subst (λ v. v < n) set.0 below) (subst (λ v. v < n) (sym is) less-p) in
                (ap (is_reply h) set.0 ∙ own.0, ap (is_reply h) (sym is) ∙ own.1, ap (λ v. under_message n (get_or old v None)) (sym is) ∙ own.2)
          ];
      inside =
          λ x p e.
          elim (set_at new r x (Some q)) [
            | inl same ↦ fits.inside x p (sym same ∙ e)
            | inr set ↦ subst (λ v. v < n + n) (same_some q p (sym set.1 ∙ e)) less
          ];
      dummies =
          λ x p past e.
          elim (set_at new r x (Some q)) [
            | inl same ↦ fits.dummies x p past (sym same ∙ e)
            | inr set ↦ subst (λ v. n ≤ v) (same_some q p (sym set.1 ∙ e)) (far (subst (λ v. n ≤ v) set.0 past))
          ];
    }

-- the merging of roots keeps parents that fit, and a table of what is left at the top
record IsKept (n : ℕ) (h : Headings) (old : List (Option ℕ)) (m : Merging) : Type 0 where
  fits : Fits n h old m.parents
  table : (text : List ℕ) (root : ℕ) → root_for m.table text ≡ Some root → IsTop n old root

row_top : (n : ℕ) (old : List (Option ℕ)) (text : List ℕ) (new : ℕ) (rows : List (List ℕ × ℕ)) → IsTop n old new → ((t : List ℕ) (root : ℕ) → root_for rows t ≡ Some root → IsTop n old root)
    → (t : List ℕ) (root : ℕ) → root_for ((text, new) ∷ rows) t ≡ Some root → IsTop n old root
unfolding root_for
row_top n old text new rows top before t root e =
    elim (cases_Bool (bytes_eq text t)) [
      | inl same ↦ subst (IsTop n old) (same_some new root (sym (ap (λ b. if b then Some new else root_for rows t) same) ∙ e)) top
      | inr off ↦ before t root (sym (ap (λ b. if b then Some new else root_for rows t) off) ∙ e)
    ]

kept_enter : (n : ℕ) (h : Headings) (old : List (Option ℕ)) (m : Merging) (root : ℕ) → IsTop n old root → IsKept n h old m → IsKept n h old (enter h m root)
unfolding enter_as
kept_enter n h old m root top kept = by_subject (subject_of h root)
  where
    by_subject : (text : List ℕ) → IsKept n h old (enter_as h root m text)
    by_subject [] = kept
    by_subject (c ∷ text) =
        elim (cases_Bool (replaces h root (root_for m.table (c ∷ text)))) [
          | inl e ↦
              subst (IsKept n h old) (sym (ap (λ b. if b then record m { table = (c ∷ text, root) ∷ m.table } else m) e))
              (record { fits = kept.fits; table = row_top n old (c ∷ text) root m.table top kept.table })
          | inr e ↦ subst (IsKept n h old) (sym (ap (λ b. if b then record m { table = (c ∷ text, root) ∷ m.table } else m) e)) kept
        ]

dummy_past : (h : Headings) (x : ℕ) → is_dummy h x ≡ true → length h.subjects ≤ x
dummy_past h x e = elim (cases_lt x (length h.subjects)) [ inl less ↦ absurd (clash (sym (sym e ∙ ap not (lt-ltb x (length h.subjects) less)))) | inr past ↦ past ]

message_below : (h : Headings) (x : ℕ) → is_dummy h x ≡ false → x < length h.subjects
message_below h x e = elim (cases_lt x (length h.subjects)) [ inl less ↦ less | inr past ↦ absurd (both_ways _ e (ap not (le-ltb x (length h.subjects) past))) ]

both : (a b : Bool) → (a && b) ≡ true → (a ≡ true) × (b ≡ true)
both true b e = (refl, e)
both false b e = absurd (clash e)

either_way : (a b : Bool) → (a || b) ≡ true → (a ≡ true) ⊎ (b ≡ true)
either_way true b e = inl refl
either_way false b e = inr e

flipped : (b : Bool) → not b ≡ true → b ≡ false
flipped true e = absurd (clash e)
flipped false e = refl

neither : (a b : Bool) → (a || b) ≡ false → a ≡ false
neither true b e = absurd (clash (sym e))
neither false b e = refl

kept_under : (n : ℕ) (h : Headings) (old : List (Option ℕ)) (m : Merging) (root other : ℕ) → length h.subjects ≡ n → IsTop n old root → IsTop n old other → goes_under h root other ≡ true → IsKept n h old m → IsKept n h old (put_under other root m)
kept_under n h old m root other size top up under kept =
    record {
      fits = fits_set n h old m.parents root other kept.fits top up.inside far near;
      table = kept.table;
    }
  where
    reply : is_dummy h other ≡ false → (is_reply h root ≡ true) × (not (is_reply h other) ≡ true)
    reply e =
        elim (either_way (is_dummy h other) (is_reply h root && not (is_reply h other)) under) [
          | inl d ↦ absurd (both_ways _ e d)
          | inr r ↦ both (is_reply h root) (not (is_reply h other)) r
        ]

    far : n ≤ root → n ≤ other
    far past =
        elim (cases_Bool (is_dummy h other)) [
          | inl d ↦ subst (λ k. k ≤ other) size (dummy_past h other d)
          | inr e ↦
              let r = (both (not (is_dummy h root)) _ (reply e).0).0 in
              let below = message_below h root (flipped (is_dummy h root) r) in
              absurd (omega (arith, below, past, size))
        ]

    near : root < n → other < n → (is_reply h root ≡ true) × (is_reply h other ≡ false) × (under_message n (get_or old other None) ≡ false)
    near less below =
        let e : is_dummy h other ≡ false = ap not (lt-ltb other (length h.subjects) (omega (arith, below, size))) in
        let r = reply e in
        (r.0, flipped (is_reply h other) r.1, up.top)

past_top : (n : ℕ) (old : List (Option ℕ)) (x : ℕ) → ((y : ℕ) → n ≤ y → get_or old y None ≡ None) → n ≤ x → x < n + n → IsTop n old x
past_top n old x none past less = record { inside = less; top = ap (under_message n) (none x past) }

kept_new : (n : ℕ) (h : Headings) (old : List (Option ℕ)) (m : Merging) (text : List ℕ) (root other : ℕ) → ((y : ℕ) → n ≤ y → get_or old y None ≡ None) → length h.subjects ≡ n → IsTop n old root → IsTop n old other → goes_under h root other ≡ false → IsKept n h old m
    → IsKept n h old (join_under_new (length h.subjects + other) text other root m)
kept_new n h old m text root other none size top up under kept =
    let message = message_below h other (neither (is_dummy h other) _ under) in
    let new : ℕ = length h.subjects + other in
    let past : n ≤ new = omega (arith, size) in
    let less : new < n + n = omega (arith, size, message) in
    record {
      fits =
          fits_set n h old (set m.parents other (Some new)) root new (fits_set n h old m.parents other new kept.fits up less (λ _. past) (λ _ below. absurd (omega (arith, below, past)))) top less (λ _. past) (λ _ below. absurd (omega (arith, below, past)));
      table = row_top n old text new m.table (past_top n old new none past less) kept.table;
    }

kept_merge : (n : ℕ) (h : Headings) (old : List (Option ℕ)) (m : Merging) (root : ℕ) → ((y : ℕ) → n ≤ y → get_or old y None ≡ None) → length h.subjects ≡ n → IsTop n old root → IsKept n h old m → IsKept n h old (merge h m root)
unfolding merge_with merge_as
kept_merge n h old m root none size top kept = by_subject (subject_of h root)
  where
    by_root : (text : List ℕ) (o : Option ℕ) → root_for m.table text ≡ o → IsKept n h old (merge_with h text root m o)
    by_root text None e = kept
    by_root text (Some other) e =
        let up = kept.table text other e in
        elim (cases_Bool (other == root)) [
          | inl same ↦ subst (IsKept n h old) (sym (ap (λ b. if b then m else (if goes_under h root other then put_under other root m else join_under_new (length h.subjects + other) text other root m)) same)) kept
          | inr apart ↦
              subst (IsKept n h old) (sym (ap (λ b. if b then m else (if goes_under h root other then put_under other root m else join_under_new (length h.subjects + other) text other root m)) apart))
              (elim (cases_Bool (goes_under h root other)) [
                | inl under ↦ subst (IsKept n h old) (sym (ap (λ b. if b then put_under other root m else join_under_new (length h.subjects + other) text other root m) under)) (kept_under n h old m root other size top up under kept)
                | inr off ↦ subst (IsKept n h old) (sym (ap (λ b. if b then put_under other root m else join_under_new (length h.subjects + other) text other root m) off)) (kept_new n h old m text root other none size top up off kept)
              ])
        ]

    by_subject : (text : List ℕ) → IsKept n h old (merge_as h root m text)
    by_subject [] = kept
    by_subject (c ∷ text) = by_root (c ∷ text) (root_for m.table (c ∷ text)) refl

abbrev AreTop : ℕ → List (Option ℕ) → List ℕ → Type 0
AreTop n old [] = Unit
AreTop n old (x ∷ xs) = IsTop n old x × AreTop n old xs

kept_entered : (n : ℕ) (h : Headings) (old : List (Option ℕ)) (m : Merging) (roots : List ℕ) → AreTop n old roots → IsKept n h old m → IsKept n h old (fold (enter h) m roots)
kept_entered n h old m [] tops kept = kept
kept_entered n h old m (x ∷ xs) tops kept = kept_entered n h old (enter h m x) xs tops.1 (kept_enter n h old m x tops.0 kept)

kept_merged : (n : ℕ) (h : Headings) (old : List (Option ℕ)) (m : Merging) (roots : List ℕ) → ((y : ℕ) → n ≤ y → get_or old y None ≡ None) → length h.subjects ≡ n → AreTop n old roots → IsKept n h old m → IsKept n h old (fold (merge h) m roots)
kept_merged n h old m [] none size tops kept = kept
kept_merged n h old m (x ∷ xs) none size tops kept = kept_merged n h old (merge h m x) xs none size tops.1 (kept_merge n h old m x none size tops.0 kept)

-- ---- pruning

module _ (facts : List Facts) where
  places : List Place
  places = message_places facts

  old : List (Option ℕ)
  old = pruned_parents facts

  count : ℕ
  count = length facts

  no_place : Place
  no_place = record { above = None; top = 0 }

  place : ℕ → Place
  place m = get_or places m no_place

  old_past : (x : ℕ) → count ≤ x → get_or old x None ≡ None
  unfolding old count pruned_parents prune
  old_past x past = tail_none (message_places facts) x (let long = length_places facts in omega (arith, long, past))
    where
      none_at : (k x : ℕ) → ◌≡◌ {A = Option ℕ} (get_or (replicate k None) x None) None
      none_at zero x = refl
      none_at (suc k) zero = refl
      none_at (suc k) (suc x) = none_at k x

      after : (xs : List (Option ℕ)) (k x : ℕ) → length xs ≤ x → ◌≡◌ {A = Option ℕ} (get_or (xs ++ replicate k None) x None) None
      after [] k x past = none_at k x
      after (v ∷ xs) k zero past = absurd (omega (arith, past))
      after (v ∷ xs) k (suc x) past = after xs k x (omega (arith, past))

      tail_none : (ps : List Place) (x : ℕ) → length ps ≤ x → get_or (map (λ p. pruned_parent ps p.top p.above) ps ++ replicate (length ps) None) x None ≡ None
      tail_none ps x past = after (map (λ p. pruned_parent ps p.top p.above) ps) (length ps) x (let e = length-map ps (λ p. pruned_parent ps p.top p.above) in omega (arith, e, past))

  old_at : (m : ℕ) → m < count → get_or old m None ≡ pruned_parent places (place m).top (place m).above
  unfolding old count places place pruned_parents prune
  old_at m less =
      let long = length_places facts in
      let size = length-map (message_places facts) (λ p. pruned_parent (message_places facts) p.top p.above) in
      get_or_append_left (map (λ p. pruned_parent (message_places facts) p.top p.above) (message_places facts)) (replicate (length (message_places facts)) None) None m (omega (arith, size, long, less))
      ∙ get_or-map (λ p. pruned_parent (message_places facts) p.top p.above) (message_places facts) m no_place None (omega (arith, long, less))

  above_is : (m k : ℕ) → m < count → (place m).above ≡ Some k → (k < count) × (height facts k < height facts m)
  unfolding count places place
  above_is m k less e = above_lower facts m k no_place less e

  -- a message's parent after pruning is the message above it, or a dummy
  pruned_is : (m p : ℕ) → m < count → get_or old m None ≡ Some p → ((place m).above ≡ Some p) ⊎ ((count ≤ p) × (p < count + count))
  unfolding pruned_parent count places
  pruned_is m p less e = by_above (place m).above refl (sym (old_at m less) ∙ e)
    where
      topmost : (n top : ℕ) (o : Option ℕ) (b : Bool) → ((k : ℕ) → o ≡ Some k → k < n) → (if b then option_map (λ first. n + first) o else None) ≡ Some p → (n ≤ p) × (p < n + n)
      topmost n top o false inside e = absurd (none_some p e)
      topmost n top None true inside e = absurd (none_some p e)
      topmost n top (Some k) true inside e = let is : n + k ≡ p = same_some (n + k) p e in let below = inside k refl in (omega (arith, is), omega (arith, is, below))

      by_above : (o : Option ℕ) → (place m).above ≡ o → pruned_parent places (place m).top (place m).above ≡ Some p → ((place m).above ≡ Some p) ⊎ ((count ≤ p) × (p < count + count))
      by_above (Some a) is e = inl (is ∙ sym (ap (pruned_parent (message_places facts) (place m).top) is) ∙ e)
      by_above None is e =
          let long = length_places facts in
          let found = topmost (length (message_places facts)) (place m).top (position (is_topmost (place m).top) (message_places facts)) (nat_lt 1 (count_by (is_topmost (place m).top) (message_places facts)))
          (λ k at. (position-Some (is_topmost (place m).top) (message_places facts) k no_place at).0) (sym (ap (pruned_parent (message_places facts) (place m).top) is) ∙ e) in
          let least = found.0 in
          let most = found.1 in
          inr (omega (arith, long, least), omega (arith, long, most))

  old_inside : (x p : ℕ) → get_or old x None ≡ Some p → p < count + count
  old_inside x p e =
      elim (cases_lt x count) [
        | inl less ↦
            elim (pruned_is x p less e) [
              | inl above ↦ let below = (above_is x p less above).0 in omega (arith, below)
              | inr dummy ↦ dummy.1
            ]
        | inr past ↦ absurd (none_some p (sym (old_past x past) ∙ e))
      ]

  fits_old : (h : Headings) → Fits count h old old
  fits_old h =
      record {
        kept = λ m less under. refl;
        joined = λ m p less under e below. absurd (both_ways _ (sym (ap (under_message count) e) ∙ under) (lt-ltb p count below));
        inside = old_inside;
        dummies = λ x p past e. absurd (none_some p (sym (old_past x past) ∙ e));
      }

  root_top : (m : ℕ) → m < count → AreTop count old (roots_at count (all_children count old) m (parent_at count old m))
  unfolding replaced_by roots_at parent_through
  root_top m less = by_parent (get_or old m None) refl
    where
      alone : (p : ℕ) (b : Bool) → (not (nat_lt p count) && b) ≡ true → p < count + count → AreTop count old (if not (nat_lt p count) && b then p ∷ [] else [])
      alone p b e inside = subst (λ c. AreTop count old (if c then p ∷ [] else [])) (sym e) (past_top count old p old_past (dummy_at p e) inside, tt)
        where
          dummy_at : (p : ℕ) → (not (nat_lt p count) && b) ≡ true → count ≤ p
          dummy_at p e = elim (cases_lt p count) [ inl below ↦ absurd (clash (sym (sym e ∙ ap (λ c. not c && b) (lt-ltb p count below)))) | inr past ↦ past ]

      maybe : (p : ℕ) (b : Bool) → p < count + count → AreTop count old (if not (nat_lt p count) && b then p ∷ [] else [])
      maybe p b inside = elim (cases_Bool (not (nat_lt p count) && b)) [ inl e ↦ alone p b e inside | inr e ↦ subst (λ c. AreTop count old (if c then p ∷ [] else [])) (sym e) tt ]

      through : (q : ℕ) → get_or old m None ≡ Some q → (if nat_lt q count then q else replaced_by q (get_or old q None)) < count + count
      through q e =
          elim (cases_lt q count) [
            | inl below ↦ subst (λ b. (if b then q else replaced_by q (get_or old q None)) < count + count) (sym (lt-ltb q count below)) (omega (arith, below))
            | inr past ↦
                subst (λ b. (if b then q else replaced_by q (get_or old q None)) < count + count) (sym (le-ltb q count past)) (subst (λ o. replaced_by q o < count + count) (sym (old_past q past)) (old_inside m q e))
          ]

      by_parent : (o : Option ℕ) → get_or old m None ≡ o → AreTop count old (roots_at count (all_children count old) m (parent_through count old o))
      by_parent None e = (record { inside = omega (arith, less); top = ap (under_message count) e }, tt)
      by_parent (Some q) e = maybe (if nat_lt q count then q else replaced_by q (get_or old q None)) _ (through q e)

  tops_append : (xs ys : List ℕ) → AreTop count old xs → AreTop count old ys → AreTop count old (xs ++ ys)
  tops_append [] ys one other = other
  tops_append (x ∷ xs) ys one other = (one.0, tops_append xs ys one.1 other)

  tops_flat : (a k : ℕ) → a + k ≤ count → AreTop count old (flat_map (λ m. roots_at count (all_children count old) m (parent_at count old m)) (range_with_len a k))
  tops_flat a zero within = tt
  tops_flat a (suc k) within =
      tops_append (roots_at count (all_children count old) a (parent_at count old a)) (flat_map (λ m. roots_at count (all_children count old) m (parent_at count old m)) (range_with_len (a + 1) k)) (root_top a (omega (arith, within))) (tops_flat (a + 1) k (omega (arith, within)))

  heads : Headings
  heads = headings_of facts

  heads_long : length heads.subjects ≡ count
  unfolding heads count headings_of
  heads_long = length-map (date_order facts) (λ p. get_or (map folded_subject facts) p []) ∙ length_order facts

  fits_merged : Fits count heads old (parents_of facts)
  unfolding heads old count parents_of merge_roots roots_of root_for
  fits_merged =
      let roots : List ℕ = roots_of (length facts) (pruned_parents facts) in
      let tops : AreTop (length facts) (pruned_parents facts) roots = tops_flat 0 (length facts) (omega arith) in
      let start : IsKept (length facts) (headings_of facts) (pruned_parents facts) (record { parents = pruned_parents facts; table = [] }) = record { fits = fits_old (headings_of facts); table = λ text root e. absurd (no_row text root e) } in
      (kept_merged (length facts) (headings_of facts) (pruned_parents facts) (fold (enter (headings_of facts)) (record { parents = pruned_parents facts; table = [] }) roots) roots old_past heads_long tops
      (kept_entered (length facts) (headings_of facts) (pruned_parents facts) (record { parents = pruned_parents facts; table = [] }) roots tops start)).fits
    where
      no_row : (text : List ℕ) (root : ℕ) → root_for [] text ≡ Some root → ⊥
      no_row text root e = none_some root e

  -- ---- ranks

  rank : ℕ → ℕ
  rank m = cond (under_message count (get_or old m None)) (3 + height facts m) (cond (is_reply heads m) 2 1)

  parent_is : (m p : ℕ) → parent_at count (parents_of facts) m ≡ Some p → (p < count + count) × (p < count → get_or (parents_of facts) m None ≡ Some p)
  unfolding replaced_by parent_through
  parent_is m p e = by_parent (get_or (parents_of facts) m None) refl e
    where
      by_dummy : (q : ℕ) (o : Option ℕ) → count ≤ q → get_or (parents_of facts) m None ≡ Some q → get_or (parents_of facts) q None ≡ o → replaced_by q o ≡ p → (p < count + count) × (p < count → get_or (parents_of facts) m None ≡ Some p)
      by_dummy q None past at is e = let less = fits_merged.inside m q at in (subst (λ v. v < count + count) e less, λ below. absurd (omega (arith, below, e, past)))
      by_dummy q (Some v) past at is e =
          let less = fits_merged.inside q v is in
          let far = fits_merged.dummies q v past is in
          (subst (λ w. w < count + count) e less, λ below. absurd (omega (arith, below, e, far)))

      by_parent : (o : Option ℕ) → get_or (parents_of facts) m None ≡ o → parent_through count (parents_of facts) o ≡ Some p → (p < count + count) × (p < count → get_or (parents_of facts) m None ≡ Some p)
      by_parent None at e = absurd (none_some p e)
      by_parent (Some q) at e =
          let is : (if nat_lt q count then q else replaced_by q (get_or (parents_of facts) q None)) ≡ p = same_some _ p e in
          elim (cases_lt q count) [
            | inl below ↦
                let same : q ≡ p = sym (ap (λ b. if b then q else replaced_by q (get_or (parents_of facts) q None)) (lt-ltb q count below)) ∙ is in
                (omega (arith, below, same), λ less. at ∙ ap Some same)
            | inr past ↦ by_dummy q (get_or (parents_of facts) q None) past at refl (sym (ap (λ b. if b then q else replaced_by q (get_or (parents_of facts) q None)) (le-ltb q count past)) ∙ is)
          ]

  rank_most : (m : ℕ) → rank m ≤ 3 + height facts m
  unfolding rank
  rank_most m = bound (under_message count (get_or old m None)) (is_reply heads m)
    where
      bound : (a b : Bool) → cond a (3 + height facts m) (cond b 2 1) ≤ 3 + height facts m
      bound true b = omega arith
      bound false true = omega arith
      bound false false = omega arith

  rises : (m p : ℕ) → m < count → parent_at count (parents_of facts) m ≡ Some p → p < count → rank p < rank m
  unfolding rank
  rises m p less e below =
      let at = (parent_is m p e).1 below in
      elim (cases_Bool (under_message count (get_or old m None))) [
        | inl under ↦
            let own : rank m ≡ 3 + height facts m = ap (λ b. cond b (3 + height facts m) (cond (is_reply heads m) 2 1)) under in
            let up = rank_most p in
            elim (pruned_is m p less (sym (fits_merged.kept m less under) ∙ at)) [
              | inl above ↦ let lower = (above_is m p less above).1 in omega (arith, own, up, lower)
              | inr dummy ↦ let far = dummy.0 in absurd (omega (arith, far, below))
            ]
        | inr top ↦
            let j = fits_merged.joined m p less top at below in
            let own : rank m ≡ 2 = ap (λ b. cond b (3 + height facts m) (cond (is_reply heads m) 2 1)) top ∙ ap (λ b. cond b 2 1) j.0 in
            let up : rank p ≡ 1 = ap (λ b. cond b (3 + height facts p) (cond (is_reply heads p) 2 1)) j.2 ∙ ap (λ b. cond b 2 1) j.1 in
            omega (arith, own, up)
      ]

pub message_rank : List Facts → ℕ → ℕ
message_rank facts m = rank facts m

pub parents_inside : (facts : List Facts) (m p : ℕ) → m < length facts → parent_at (length facts) (parents_of facts) m ≡ Some p → p < length facts + length facts
unfolding count
parents_inside facts m p less e = (parent_is facts m p e).0

pub parents_rise : (facts : List Facts) (m p : ℕ) → m < length facts → parent_at (length facts) (parents_of facts) m ≡ Some p → p < length facts → message_rank facts p < message_rank facts m
unfolding count message_rank
parents_rise facts m p less e below = rises facts m p less e below
