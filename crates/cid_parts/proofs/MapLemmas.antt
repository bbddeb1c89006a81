-- Maps of parts, over plain functions from a key to a section.
use Rattle.std.proofs.Common.{◌≡◌, ℕ, ◌+◌, ◌<◌, Bool, true, false, cond, List, [], ◌∷◌, ◌++◌, length, take, get_or, Some, None, refl, sym, ap, subst, ◌∙◌, add-one}
use Rattle.std.specs.Prelude.{Option, map, find, option_map, is_some, bytes_eq, string_bytes, if◌then◌else◌}
use Rattle.std.specs.declared.cmp.Ordering.{Ordering}
use Rattle.std.specs.declared.cmp.Ordering.TheVariants.{Less, Equal, Greater}
use Rattle.std.specs.declared.string.String.{String}
use Rattle.std.specs.BTreeMap.{BTreeMap, UpdatesBy, get_by, is_at}
use Rattle.std.specs.Cmp.{IsTotalOrder, then_total, on_total, nat_cmp_total, eq_by_cmp_equiv}
use Rattle.std.specs.Cmp.Lexicographic.{slice_cmp, nat_list_cmp_total, nat_list_eq_equiv, texts_ties}
use Rattle.std.specs.Ordering.{is_eq, nat_cmp, ordering_then}
use Rattle.std.specs.String.{string_cmp}
use Rattle.std.specs.Option.{option_or}
use Rattle.std.specs.Map.{update, AreApart, KeepsOthers}
use Rattle.std.proofs.Math.Seq.{take-suc}
use Rattle.std.proofs.lemmas.List.{map-append}
use Rattle.std.proofs.lemmas.List.Elements.{filter-append}
use Rattle.std.proofs.lemmas.List.Folds.{find-append}
use Rattle.std.proofs.lemmas.Slice.Eq.{bytes_eq-Decides}
use Rattle.mime_tree.specs.Tree.{PartValue}
use Rattle.cid_parts.specs.Located.{LocatedPart, located, is_own, located_parts}
use Rattle.cid_parts.specs.Maps.{compare_key, digest, section_of_address}
use Rattle.cid_parts.specs.Refer.{first_part}

section_or : (x y : Option LocatedPart) → option_map (λ (p : LocatedPart). p.section) (option_or x y) ≡ option_or (option_map (λ (p : LocatedPart). p.section) x) (option_map (λ (p : LocatedPart). p.section) y)
section_or None y = refl
section_or (Some p) y = refl

located-append : (xs ys : List PartValue) → located_parts (xs ++ ys) ≡ located_parts xs ++ located_parts ys
located-append xs ys = ap (map located) (filter-append is_own xs ys) ∙ map-append located _ _

first_part-append : (passes : LocatedPart → Bool) (xs ys : List PartValue) → first_part passes (located_parts (xs ++ ys)) ≡ option_or (first_part passes (located_parts xs)) (first_part passes (located_parts ys))
first_part-append passes xs ys =
    ap (first_part passes) (located-append xs ys) ∙ ap (option_map (λ (p : LocatedPart). p.section)) (find-append passes (located_parts xs) (located_parts ys)) ∙ section_or (find passes (located_parts xs)) (find passes (located_parts ys))

-- the parts up to the next
pub first_part-next : (passes : LocatedPart → Bool) (parts : List PartValue) (i : ℕ) (d : PartValue) → i < length parts → first_part passes (located_parts (take (i + 1) parts)) ≡ option_or (first_part passes (located_parts (take i parts))) (first_part passes (located_parts (get_or parts i d ∷ [])))
first_part-next passes parts i d within =
    let more : take (i + 1) parts ≡ take i parts ++ get_or parts i d ∷ [] = rw (add-one i) (take-suc parts i d within) in
    ap (λ xs. first_part passes (located_parts xs)) more ∙ first_part-append passes (take i parts) (get_or parts i d ∷ [])

first_of_own : (passes : LocatedPart → Bool) (p : PartValue) → p.enclosed ≡ false → first_part passes (located_parts (p ∷ [])) ≡ (if passes (located p) then Some p.section else None)
first_of_own passes p own = rw own (by_case (passes (located p)))
  where
    by_case : (b : Bool) → option_map (λ (q : LocatedPart). q.section) (if b then Some (located p) else None) ≡ (if b then Some p.section else None)
    by_case true = refl
    by_case false = refl

none_from_absent : (x : Option (List ℕ)) → is_some x ≡ false → x ≡ None
none_from_absent None absent = refl
none_from_absent (Some s) absent = cc

-- a new key, which a map hasn't yet, has the section of its part
pub adds_key : (old new : List ℕ → Option (List ℕ)) (passes : List ℕ → LocatedPart → Bool) (p : PartValue) (key section : List ℕ) → p.enclosed ≡ false → p.section ≡ section → ((q : List ℕ) → passes q (located p) ≡ bytes_eq key q) → is_some (old key) ≡ false → ((q : List ℕ) → new q ≡ update bytes_eq old key (Some section) q) → (q : List ℕ) → new q ≡ option_or (old q) (first_part (passes q) (located_parts (p ∷ [])))
adds_key old new passes p key section own is_section tests absent updates q =
    updates q ∙ by_case (bytes_eq key q) (λ same. ap old (sym ((bytes_eq-Decides key q).0 same)) ∙ none_from_absent (old key) absent) ∙ ap (option_or (old q)) (sym (first_of_own (passes q) p own ∙ rw (tests q, is_section) refl))
  where
    by_case : (b : Bool) → (b ≡ true → old q ≡ None) → cond b (Some section) (old q) ≡ option_or (old q) (if b then Some section else None)
    by_case true here = rw (here refl) refl
    by_case false here = absent_or (old q)
      where
        absent_or : (x : Option (List ℕ)) → x ≡ option_or x None
        absent_or None = refl
        absent_or (Some y) = refl

-- one more part is in a map
pub maps_next : (old new : List ℕ → Option (List ℕ)) (passes : List ℕ → LocatedPart → Bool) (parts : List PartValue) (i : ℕ) (p : PartValue) → i < length parts → p ≡ get_or parts i p → ((q : List ℕ) → old q ≡ first_part (passes q) (located_parts (take i parts))) → ((q : List ℕ) → new q ≡ option_or (old q) (first_part (passes q) (located_parts (p ∷ [])))) → (q : List ℕ) → new q ≡ first_part (passes q) (located_parts (take (i + 1) parts))
maps_next old new passes parts i p within item maps adds q =
    let here : first_part (passes q) (located_parts (p ∷ [])) ≡ first_part (passes q) (located_parts (get_or parts i p ∷ [])) = ap (λ r. first_part (passes q) (located_parts (r ∷ []))) item in
    adds q ∙ ap (λ x. option_or x (first_part (passes q) (located_parts (p ∷ [])))) (maps q) ∙ ap (option_or (first_part (passes q) (located_parts (take i parts)))) here ∙ sym (first_part-next (passes q) parts i p within)

-- ---- keys of addresses

key_total : IsTotalOrder (λ (x y : ℕ × List ℕ). ordering_then (nat_cmp x.0 y.0) (slice_cmp nat_cmp x.1 y.1))
key_total = then_total (on_total (λ (k : ℕ × List ℕ). k.0) nat_cmp_total) (on_total (λ (k : ℕ × List ℕ). k.1) nat_list_cmp_total)

second_differs : (o p : Ordering) → is_eq p ≡ false → is_eq (ordering_then o p) ≡ false
second_differs Less p other = refl
second_differs Equal p other = other
second_differs Greater p other = refl

second_ties : (o p : Ordering) → is_eq (ordering_then o p) ≡ true → is_eq p ≡ true
second_ties Less p ties = cc
second_ties Equal p ties = ties
second_ties Greater p ties = cc

-- the texts of two addresses differ, so no key is that of both
apart : (text other : List ℕ) → bytes_eq text other ≡ false → {Y : Type 0} → AreApart (is_at (compare_key {Y = Y} text)) (is_at (compare_key {Y = Y} other))
apart text other differs key here =
    let ties : bytes_eq text (string_bytes key.1) ≡ true = texts_ties text (string_bytes key.1) ∙ second_ties (nat_cmp (digest text) key.0) _ here in
    let not_other : bytes_eq other (string_bytes key.1) ≡ false = nat_list_eq_equiv.symm other (string_bytes key.1) ∙ sym (nat_list_eq_equiv.congr text (string_bytes key.1) other ties) ∙ differs in
    second_differs (nat_cmp (digest other) key.0) _ (sym (texts_ties other (string_bytes key.1)) ∙ not_other)

-- the order of keys
abbrev compare_keys : {Y : Type 0} → ℕ × String Y → ℕ × String Y → Ordering
compare_keys x y = ordering_then (nat_cmp x.0 y.0) (string_cmp x.1 y.1)

updates_text : {Y : Type 0} (text : List ℕ) (m n : BTreeMap (ℕ × String Y) (List ℕ)) (w : Option (List ℕ)) → UpdatesBy compare_keys (compare_key text) m n w → (q : List ℕ) → section_of_address n q ≡ update bytes_eq (section_of_address m) text w q
unfolding KeepsOthers
updates_text {Y} text m n w updates q = by_case (bytes_eq text q) refl
  where
    by_case : (b : Bool) → bytes_eq text q ≡ b → section_of_address n q ≡ cond b w (section_of_address m q)
    by_case true same = subst (λ l. section_of_address n l ≡ w) ((bytes_eq-Decides text q).0 same) updates.1
    by_case false differs = updates.3 (is_at (compare_key q)) (λ x y. (eq_by_cmp_equiv key_total).congr (digest q, q) (x.0, string_bytes x.1) (y.0, string_bytes y.1)) (apart text q differs)

abbrev is_key : {Y : Type 0} → ℕ × String Y → Type 0
is_key key = key.0 ≡ digest (string_bytes key.1)

-- what is at a key is at its address
pub get_address : {Y : Type 0} (key : ℕ × String Y) (m : BTreeMap (ℕ × String Y) (List ℕ)) → is_key key → get_by (compare_keys key) m ≡ section_of_address m (string_bytes key.1)
get_address key m is = ap (λ d. get_by (λ k. ordering_then (nat_cmp d k.0) (string_cmp key.1 k.1)) m) is

-- a section that is put at a key is that of its address, and other addresses have those that they had
pub updates_address : {Y : Type 0} (key : ℕ × String Y) (m n : BTreeMap (ℕ × String Y) (List ℕ)) (w : Option (List ℕ)) → is_key key → UpdatesBy compare_keys (compare_keys key) m n w
    → (q : List ℕ) → section_of_address n q ≡ update bytes_eq (section_of_address m) (string_bytes key.1) w q
updates_address key m n w is updates = updates_text (string_bytes key.1) m n w (subst (λ d. UpdatesBy compare_keys (λ k. ordering_then (nat_cmp d k.0) (string_cmp key.1 k.1)) m n w) is updates)
