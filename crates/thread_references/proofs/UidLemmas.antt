-- The list of a mailbox has each message's UID once.
use Rattle.std.proofs.Common.{◌≡◌, ℕ, zero, suc, ◌+◌, ◌<◌, inl, inr, Bool, true, false, cond, List, [], ◌∷◌, ◌++◌, length, map, get_or, refl, sym, ap, ◌∙◌, subst, arith}
use Rattle.std.specs.Prelude.{Option, Some, None, IsPermutation, if◌then◌else◌}
use Rattle.std.specs.Ordering.{is_lt}
use Rattle.std.specs.List.{range_with_len}
use Rattle.std.proofs.lemmas.Bool.{cases_Bool}
use Rattle.std.proofs.lemmas.List.{get_or-map, length-map}
use Rattle.std.proofs.lemmas.List.FromFn.{fill_by_all}
use Rattle.std.proofs.lemmas.List.Sorted.{IsPermutation-refl, IsPermutation-trans, IsPermutation-cons, IsPermutation-sym, IsPermutation-middle, IsPermutation-map}
use Rattle.thread_places.specs.declared.facts.Facts.{Facts}
use Rattle.thread_places.specs.Numbers.{no_facts}
use Rattle.thread_places.specs.Dates.{Dated, compare_dates, insert_by_date, by_date, dates_from, date_order}
use Rattle.thread_places.proofs.DateLemmas.{length_order}
use Rattle.thread_references.specs.Trees.{parent_at}
use Rattle.thread_references.specs.Subjects.{parents_of}
use Rattle.thread_references.specs.Listing.{uids_of, flat, flat_of}
use Rattle.thread_references.proofs.OnceLemmas.{listed_once}
use Rattle.thread_references.proofs.RankLemmas.{message_rank, parents_inside, parents_rise}

inserted : (a : Dated) (xs : List Dated) → IsPermutation (a ∷ xs) (insert_by_date a xs)
unfolding insert_by_date
inserted a [] = IsPermutation-refl (a ∷ [])
inserted a (b ∷ more) =
    elim (cases_Bool (is_lt (compare_dates b a))) [
      | inl e ↦
          subst (IsPermutation (a ∷ b ∷ more)) (sym (ap (λ c. if c then b ∷ insert_by_date a more else a ∷ b ∷ more) e))
          (IsPermutation-trans (a ∷ b ∷ more) (b ∷ a ∷ more) (b ∷ insert_by_date a more) (IsPermutation-sym (b ∷ a ∷ more) (a ∷ b ∷ more) (IsPermutation-middle (b ∷ []) a more)) (IsPermutation-cons b (a ∷ more) (insert_by_date a more) (inserted a more)))
      | inr e ↦ subst (IsPermutation (a ∷ b ∷ more)) (sym (ap (λ c. if c then b ∷ insert_by_date a more else a ∷ b ∷ more) e)) (IsPermutation-refl (a ∷ b ∷ more))
    ]

sorted : (xs : List Dated) → IsPermutation xs (by_date xs)
unfolding by_date
sorted [] = IsPermutation-refl []
sorted (a ∷ more) = IsPermutation-trans (a ∷ more) (a ∷ by_date more) (insert_by_date a (by_date more)) (IsPermutation-cons a more (by_date more) (sorted more)) (inserted a (by_date more))

places_from : (k : ℕ) (facts : List Facts) → map (λ d. d.1) (dates_from k facts) ≡ range_with_len k (length facts)
unfolding dates_from
places_from k [] = refl
places_from k (f ∷ more) = ap (λ l. k ∷ l) (places_from (suc k) more) ∙ ap (λ j. k ∷ range_with_len j (length more)) (let e : suc k ≡ k + 1 = omega arith in e)

in_some_order : (facts : List Facts) → IsPermutation (range_with_len 0 (length facts)) (date_order facts)
unfolding date_order
in_some_order facts =
    subst (λ l. IsPermutation l (map (λ d. d.1) (by_date (dates_from 0 facts)))) (places_from 0 facts)
    (IsPermutation-map (λ d. d.1) (dates_from 0 facts) (by_date (dates_from 0 facts)) (sorted (dates_from 0 facts)))

uids_each : (facts : List Facts) → IsPermutation (map (λ f. f.uid) facts) (uids_of facts)
uids_each facts =
    let uids : List ℕ = map (λ f. f.uid) facts in
    let own : uids ≡ map (λ x. get_or uids x 0) (range_with_len 0 (length facts)) = fill_by_all (λ x. get_or uids x 0) uids (length facts) 0 (length-map facts (λ f. f.uid)) (λ k less. refl) in
    subst (λ l. IsPermutation l (uids_of facts)) (sym own) (IsPermutation-map (λ x. get_or uids x 0) (range_with_len 0 (length facts)) (date_order facts) (in_some_order facts))

-- the rows have each message's UID once
pub flat_once : (facts : List Facts) → IsPermutation (map (λ f. f.uid) facts) (map (λ r. r.0) (flat_of facts))
unfolding flat_of
flat_once facts =
    let long : length (uids_of facts) ≡ length facts = length-map (date_order facts) (λ place. get_or (map (λ f. f.uid) facts) place 0) ∙ length_order facts in
    IsPermutation-trans (map (λ f. f.uid) facts) (uids_of facts) (map (λ r. r.0) (flat (uids_of facts) (parents_of facts))) (uids_each facts)
    (listed_once (uids_of facts) (parents_of facts) (message_rank facts)
    (subst (λ n. (m p : ℕ) → m < n → parent_at n (parents_of facts) m ≡ Some p → p < n + n) (sym long) (parents_inside facts))
    (subst (λ n. (m p : ℕ) → m < n → parent_at n (parents_of facts) m ≡ Some p → p < n → message_rank facts p < message_rank facts m) (sym long) (parents_rise facts)))
