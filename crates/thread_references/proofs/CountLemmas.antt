-- The messages at the top of each tree, counted; and the table of subjects.
use Rattle.std.proofs.Common.{◌≡◌, ℕ, ◌+◌, ◌<◌, ◌≤◌, Bool, true, false, not, ◌&&◌, inl, inr, cond, List, [], ◌∷◌, ◌++◌, length, take, get_or, set, refl, sym, ap, ◌∙◌, arith, length-set, get_or-set_same, get_or-set_other}
use Rattle.std.specs.Prelude.{Option, Some, None, is_some, position, count_by, nat_lt, option_map, ◌==◌, if◌then◌else◌, bytes_eq}
use Rattle.std.specs.List.{position_or_len}
use Rattle.std.specs.BTreeMap as tree
use Rattle.std.specs.Ordering.{nat_cmp}
use Rattle.std.specs.Cmp.Lexicographic.{slice_cmp}
use Rattle.std.proofs.lemmas.Bool.{both_ways, cases_eq, cases_lt, eq-eqb, ne_eqb, lt-ltb, le-ltb}
use Rattle.std.proofs.lemmas.List.{take_more, length-take}
use Rattle.std.proofs.lemmas.List.Sums.{count_by_more_yes, count_by_more_no}
use Rattle.std.proofs.lemmas.List.Quantifiers.{position-Some}
use Rattle.thread_places.specs.declared.places.Place.{Place}
use Rattle.thread_places.proofs.NumberLemmas.{place_push, updates_bytes}
use Rattle.thread_references.specs.declared.pruning.Topmost.{Topmost}
use Rattle.thread_references.specs.declared.subjects.Merger.{Merger}
use Rattle.thread_references.specs.Trees.{is_topmost, pruned_parent}
use Rattle.thread_references.specs.Subjects.{Headings, Merging, root_for, replaces, enter_as, merge_as, merge_with, goes_under, put_under, join_under_new}
use Rattle.thread_references.specs.Counts.{CountsTopmost, IsMerging}

-- ---- a message that has a message above it counts nowhere
pub not_counted : (count i : ℕ) (places : List Place) (none p : Place) (t : Topmost) → i < length places → p ≡ get_or places i none → is_some p.above ≡ true → CountsTopmost count (take i places) t → CountsTopmost count (take (i + 1) places) t
not_counted count i places none p t less is some counted =
    let test : (top : ℕ) → is_topmost top (get_or places i none) ≡ false = λ top. ap (is_topmost top) (sym is) ∙ ap (λ b. not b && (p.top == top)) some in
    record {
      counts_size = counted.counts_size;
      firsts_size = counted.firsts_size;
      counts = λ top less'. counted.counts top less' ∙ sym (count_by_more_no (is_topmost top) places i none less (test top));
      firsts =
          λ top less'.
          counted.firsts top less'
          ∙ sym (ap (position (is_topmost top)) (take_more places i none less) ∙ off (is_topmost top) (take i places) (get_or places i none) (test top));
    }
  where
    off : (q : Place → Bool) (xs : List Place) (y : Place) → q y ≡ false → position q (xs ++ y ∷ []) ≡ position q xs
    off q xs y fails = place_push q xs y ∙ rw fails refl

-- one that has none counts at its top
pub counted : (count i : ℕ) (places : List Place) (none p : Place) (t u : Topmost) → i < length places → p ≡ get_or places i none → is_some p.above ≡ false → p.top < count → CountsTopmost count (take i places) t
    → u.counts.items ≡ set t.counts.items p.top (get_or t.counts.items p.top 0 + 1)
    → u.firsts.items ≡ (if is_some (get_or t.firsts.items p.top None) then t.firsts.items else set t.firsts.items p.top (Some i))
    → CountsTopmost count (take (i + 1) places) u
counted count i places none p t u less is free inside before counts firsts =
    let size : length (take i places) ≡ i = omega (arith, length-take i places) in
    let test : (top : ℕ) → is_topmost top (get_or places i none) ≡ (p.top == top) = λ top. ap (is_topmost top) (sym is) ∙ ap (λ b. not b && (p.top == top)) free in
    let c = before.counts_size in
    let f = before.firsts_size in
    record {
      counts_size = ap length counts ∙ length-set t.counts.items p.top (get_or t.counts.items p.top 0 + 1) ∙ before.counts_size;
      firsts_size = ap length firsts ∙ kept_size (get_or t.firsts.items p.top None) ∙ before.firsts_size;
      counts =
          λ top less'.
          ap (λ l. get_or l top 0) counts
          ∙ elim (cases_eq top p.top) [
            | inl same ↦
                ap (λ k. get_or (set t.counts.items p.top (get_or t.counts.items p.top 0 + 1)) k 0) same ∙ get_or-set_same t.counts.items p.top (get_or t.counts.items p.top 0 + 1) 0 (omega arith)
                ∙ ap (λ k. get_or t.counts.items k 0 + 1) (sym same) ∙ ap (λ n. n + 1) (before.counts top less')
                ∙ sym (count_by_more_yes (is_topmost top) places i none less (test top ∙ eq-eqb p.top top (sym same)))
            | inr other ↦
                get_or-set_other t.counts.items p.top top (get_or t.counts.items p.top 0 + 1) 0 other ∙ before.counts top less'
                ∙ sym (count_by_more_no (is_topmost top) places i none less (test top ∙ ne_eqb p.top top (λ e. other (sym e))))
          ];
      firsts =
          λ top less'.
          ap (λ l. get_or l top None) firsts
          ∙ first (is_topmost top) (is_topmost p.top) (take i places) (get_or places i none) top (before.firsts top less') (before.firsts p.top inside) size (test top) (test p.top ∙ eq-eqb p.top p.top refl) (λ same. ap is_topmost same) (omega arith)
          ∙ sym (ap (position (is_topmost top)) (take_more places i none less));
    }
  where
    kept_size : (o : Option ℕ) → length (if is_some o then t.firsts.items else set t.firsts.items p.top (Some i)) ≡ length t.firsts.items
    kept_size None = length-set t.firsts.items p.top (Some i)
    kept_size (Some k) = refl

    chosen : Option ℕ → List (Option ℕ)
    chosen o = if is_some o then t.firsts.items else set t.firsts.items p.top (Some i)

    untouched : (o : Option ℕ) (top : ℕ) → (top ≡ p.top → ⊥) → get_or (chosen o) top None ≡ get_or t.firsts.items top None
    untouched None top other = get_or-set_other t.firsts.items p.top top (Some i) None other
    untouched (Some k) top other = refl

    own : (r : Place → Bool) (done : List Place) (y : Place) → get_or t.firsts.items p.top None ≡ position r done → length done ≡ i → r y ≡ true → p.top < length t.firsts.items → get_or (chosen (get_or t.firsts.items p.top None)) p.top None ≡ position r (done ++ y ∷ [])
    own r done y there size passes within =
        elim (cases_lt (position_or_len r done) (length done)) [
          | inl before ↦
              let at : position r done ≡ Some (position_or_len r done) = rw (lt-ltb (position_or_len r done) (length done) before) refl in
              let some : get_or t.firsts.items p.top None ≡ Some (position_or_len r done) = there ∙ at in
              let more : position r (done ++ y ∷ []) ≡ Some (position_or_len r done) = place_push r done y ∙ rw (lt-ltb (position_or_len r done) (length done) before) refl in
              ap (λ o. get_or (chosen o) p.top None) some ∙ some ∙ sym more
          | inr past ↦
              let at : position r done ≡ None = rw (le-ltb (position_or_len r done) (length done) past) refl in
              let none : get_or t.firsts.items p.top None ≡ None = there ∙ at in
              let more : position r (done ++ y ∷ []) ≡ Some (length done) = place_push r done y ∙ rw (le-ltb (position_or_len r done) (length done) past, passes) refl in
              ap (λ o. get_or (chosen o) p.top None) none ∙ get_or-set_same t.firsts.items p.top (Some i) None within ∙ sym (more ∙ ap Some size)
        ]

    first : (q r : Place → Bool) (done : List Place) (y : Place) (top : ℕ) → get_or t.firsts.items top None ≡ position q done → get_or t.firsts.items p.top None ≡ position r done → length done ≡ i → q y ≡ (p.top == top) → r y ≡ true → (top ≡ p.top → q ≡ r) → p.top < length t.firsts.items
        → get_or (if is_some (get_or t.firsts.items p.top None) then t.firsts.items else set t.firsts.items p.top (Some i)) top None ≡ position q (done ++ y ∷ [])
    first q r done y top here there size at passes alike within =
        elim (cases_eq top p.top) [
          | inl same ↦
              let mine : get_or (chosen (get_or t.firsts.items p.top None)) p.top None ≡ position r (done ++ y ∷ []) = own r done y there size passes within in
              ap (λ k. get_or (chosen (get_or t.firsts.items p.top None)) k None) same ∙ mine ∙ ap (λ v. position v (done ++ y ∷ [])) (sym (alike same))
          | inr other ↦
              let off : q y ≡ false = at ∙ ne_eqb p.top top (λ e. other (sym e)) in
              let kept : get_or (chosen (get_or t.firsts.items p.top None)) top None ≡ get_or t.firsts.items top None = untouched (get_or t.firsts.items p.top None) top other in
              let more : position q (done ++ y ∷ []) ≡ position q done = place_push q done y ∙ rw off refl in
              kept ∙ here ∙ sym more
        ]

pub none_counted : (count : ℕ) (t : Topmost) → length t.counts.items ≡ count → length t.firsts.items ≡ count → ((k : ℕ) → k < count → get_or t.counts.items k 0 ≡ 0) → ((k : ℕ) → k < count → get_or t.firsts.items k None ≡ None) → CountsTopmost count [] t
none_counted count t a b c d = record { counts_size = a; firsts_size = b; counts = c; firsts = d }

-- ---- the table

pub row_entered : (merging : Merging) (text key : List ℕ) (root : ℕ) (t u : Merger) → IsMerging merging t → key ≡ text → u.parents.items ≡ t.parents.items
    → tree.UpdatesBy (λ x y. slice_cmp nat_cmp x.items y.items) (λ k. slice_cmp nat_cmp key k.items) t.table u.table (Some root)
    → IsMerging (record merging { table = (text, root) ∷ merging.table }) u
unfolding root_for
row_entered merging text key root t u holds same parents updates =
    record {
      parents = parents ∙ holds.parents;
      table =
          λ q.
          updates_bytes (λ k. k.items) key t.table u.table (Some root) updates q
          ∙ ap (λ k. cond (bytes_eq k q) (Some root) (tree.get_by (λ j. slice_cmp nat_cmp q j.items) t.table)) same
          ∙ ap (cond (bytes_eq text q) (Some root)) (holds.table q);
    }

-- ---- the parent of a message

pub pruned_some : (places : List Place) (top : ℕ) (above : Option ℕ) → is_some above ≡ true → above ≡ pruned_parent places top above
unfolding pruned_parent
pruned_some places top None some = absurd (both_ways false refl some)
pruned_some places top (Some a) some = refl

pruned_free : (places : List Place) (top : ℕ) (above : Option ℕ) → is_some above ≡ false → pruned_parent places top above ≡ (if nat_lt 1 (count_by (is_topmost top) places) then option_map (λ first. length places + first) (position (is_topmost top) places) else None)
unfolding pruned_parent
pruned_free places top None free = refl
pruned_free places top (Some a) free = absurd (both_ways true free refl)

pub pruned_alone : (places : List Place) (top count : ℕ) (above : Option ℕ) → is_some above ≡ false → count ≡ count_by (is_topmost top) places → count ≤ 1 → None ≡ pruned_parent places top above
pruned_alone places top count above free is few =
    sym (pruned_free places top above free ∙ ap (λ b. if b then option_map (λ first. length places + first) (position (is_topmost top) places) else None) (le-ltb 1 (count_by (is_topmost top) places) (omega (arith, is, few))))

pub pruned_kept : (places : List Place) (top count : ℕ) (above first : Option ℕ) → is_some above ≡ false → count ≡ count_by (is_topmost top) places → 1 < count → first ≡ position (is_topmost top) places → option_map (λ f. length places + f) first ≡ pruned_parent places top above
pruned_kept places top count above first free is many at =
    ap (option_map (λ f. length places + f)) at
    ∙ sym (pruned_free places top above free ∙ ap (λ b. if b then option_map (λ f. length places + f) (position (is_topmost top) places) else None) (lt-ltb 1 (count_by (is_topmost top) places) (omega (arith, is, many))))

pub first_inside : (places : List Place) (top first : ℕ) (none : Place) → Some first ≡ position (is_topmost top) places → first < length places
first_inside places top first none at = (position-Some (is_topmost top) places first none (sym at)).0

-- ---- a root is entered

nonempty : (c : ℕ) (text : List ℕ) → (length (c ∷ text) == 0) ≡ false
nonempty c text = ne_eqb (length (c ∷ text)) 0 (λ e. absurd (omega arith))

pub entered_nothing : (h : Headings) (root : ℕ) (m : Merging) (text : List ℕ) → (length text == 0) ≡ true → enter_as h root m text ≡ m
unfolding enter_as
entered_nothing h root m [] empty = refl
entered_nothing h root m (c ∷ text) empty = absurd (both_ways _ (nonempty c text) empty)

pub entered_not : (h : Headings) (root : ℕ) (m : Merging) (text : List ℕ) → replaces h root (root_for m.table text) ≡ false → enter_as h root m text ≡ m
unfolding enter_as
entered_not h root m [] stays = refl
entered_not h root m (c ∷ text) stays = ap (λ b. if b then record m { table = (c ∷ text, root) ∷ m.table } else m) stays

pub entered : (h : Headings) (root : ℕ) (m : Merging) (text : List ℕ) → (length text == 0) ≡ false → replaces h root (root_for m.table text) ≡ true → enter_as h root m text ≡ record m { table = (text, root) ∷ m.table }
unfolding enter_as
entered h root m [] some goes = absurd (both_ways true some refl)
entered h root m (c ∷ text) some goes = ap (λ b. if b then record m { table = (c ∷ text, root) ∷ m.table } else m) goes

-- ---- a root is merged

pub merged_nothing : (h : Headings) (root : ℕ) (m : Merging) (text : List ℕ) → (length text == 0) ≡ true → merge_as h root m text ≡ m
unfolding merge_as
merged_nothing h root m [] empty = refl
merged_nothing h root m (c ∷ text) empty = absurd (both_ways _ (nonempty c text) empty)

pub merged_alone : (h : Headings) (root : ℕ) (m : Merging) (text : List ℕ) → root_for m.table text ≡ None → merge_as h root m text ≡ m
unfolding merge_as merge_with
merged_alone h root m [] none = refl
merged_alone h root m (c ∷ text) none = ap (merge_with h (c ∷ text) root m) none

pub merged_own : (h : Headings) (root other : ℕ) (m : Merging) (text : List ℕ) → root_for m.table text ≡ Some other → other ≡ root → merge_as h root m text ≡ m
unfolding merge_as merge_with
merged_own h root other m [] there own = refl
merged_own h root other m (c ∷ text) there own =
    ap (merge_with h (c ∷ text) root m) there
    ∙ ap (λ b. if b then m else (if goes_under h root other then put_under other root m else join_under_new (length h.subjects + other) (c ∷ text) other root m)) (eq-eqb other root own)

pub merged : (h : Headings) (root other : ℕ) (m : Merging) (text : List ℕ) → (length text == 0) ≡ false → root_for m.table text ≡ Some other → merge_with h text root m (Some other) ≡ merge_as h root m text
unfolding merge_as
merged h root other m [] some there = absurd (both_ways true some refl)
merged h root other m (c ∷ text) some there = sym (ap (merge_with h (c ∷ text) root m) there)

pub goes : (h : Headings) (text : List ℕ) (root other : ℕ) (m : Merging) → (other ≡ root → ⊥) → goes_under h root other ≡ true → put_under other root m ≡ merge_with h text root m (Some other)
unfolding merge_with
goes h text root other m apart under =
    sym (ap (λ b. if b then m else (if goes_under h root other then put_under other root m else join_under_new (length h.subjects + other) text other root m)) (ne_eqb other root apart)
    ∙ ap (λ b. if b then put_under other root m else join_under_new (length h.subjects + other) text other root m) under)

pub joins : (h : Headings) (text : List ℕ) (root other : ℕ) (m : Merging) → (other ≡ root → ⊥) → goes_under h root other ≡ false → join_under_new (length h.subjects + other) text other root m ≡ merge_with h text root m (Some other)
unfolding merge_with
joins h text root other m apart beside =
    sym (ap (λ b. if b then m else (if goes_under h root other then put_under other root m else join_under_new (length h.subjects + other) text other root m)) (ne_eqb other root apart)
    ∙ ap (λ b. if b then put_under other root m else join_under_new (length h.subjects + other) text other root m) beside)

pub under_holds : (m : Merging) (parent root : ℕ) (t u : Merger) → IsMerging m t → u.parents.items ≡ set t.parents.items root (Some parent) → u.table ≡ t.table → IsMerging (put_under parent root m) u
under_holds m parent root t u holds parents table =
    record {
      parents = parents ∙ ap (λ l. set l root (Some parent)) holds.parents;
      table = λ text. ap (λ b. tree.get_by (λ k. slice_cmp nat_cmp text k.items) b) table ∙ holds.table text;
    }
