-- Numbers that rise, beside a set of others: what a search of them tells, and after one number more.
use Rattle.std.proofs.Common.{◌≡◌, ℕ, ◌+◌, ◌-◌, ◌<◌, ◌≤◌, Bool, true, false, ◌||◌, ◌==◌, cond, List, [], ◌∷◌, ◌++◌, length, get_or, sym, ap, ◌∙◌, arith, length-append, Result, Ok, Err, inl, inr, eq-eqb, subst}
use Rattle.std.proofs.lemmas.Bool.{cases_Bool, cases_lt, false_from_ne_true, eqb-true}
use Rattle.std.proofs.lemmas.Bool.Decides.{nat_tests}
use Rattle.std.proofs.lemmas.List.{get_or_default, get_or_push}
use Rattle.std.proofs.lemmas.List.Elements.{All-from_get_or}
use Rattle.std.proofs.lemmas.List.Folds.{list_any_none, list_any_at}
use Rattle.std.proofs.lemmas.List.Sorted.{IsNonDecreasingBy-push, searched}
use Rattle.std.specs.List.{list_any}
use Rattle.std.specs.List.Sorted.{IsNonDecreasing, IsBinarySearchResult}
use Rattle.std.specs.Ordering.{nat_cmp}
use Rattle.std.specs.Result.{is_ok}
use Rattle.std.specs.BTreeSet.{BTreeSet, contains}
use Rattle.html_tokens.specs.PackedNames.{ceiling}

-- Each of the others is below the numbers' ceiling.
abbrev pub AreBelow : List ℕ → BTreeSet ℕ → Type 0
AreBelow rising others = (n : ℕ) → contains nat_cmp others n ≡ true → n < ceiling rising

ceiling_full : (xs : List ℕ) → 0 < length xs → ceiling xs ≡ get_or xs (length xs - 1) 0 + 1
ceiling_full xs full = grind (arith, nat_tests)

below_ceiling : (xs : List ℕ) → IsNonDecreasing xs → (k : ℕ) → k < length xs → get_or xs k 0 < ceiling xs
below_ceiling xs rises k lt =
    let full = ceiling_full xs (omega arith) in
    let le = rises k (length xs - 1) 0 (omega arith) (omega arith) in
    omega (arith, full, le)

none_rising : (xs : List ℕ) (n : ℕ) → IsNonDecreasing xs → ceiling xs ≤ n → list_any (λ k. k == n) xs ≡ false
none_rising xs n rises high =
    list_any_none (λ k. k == n) xs
    (All-from_get_or (λ k. (k == n) ≡ false) xs 0 (λ k lt. let below = below_ceiling xs rises k lt in grind (arith, nat_tests)))

ceiling_push : (xs : List ℕ) (n : ℕ) → ceiling (xs ++ n ∷ []) ≡ n + 1
ceiling_push xs n =
    let len = length-append xs (n ∷ []) in
    let last = get_or_push xs n 0 (length (xs ++ n ∷ []) - 1) (omega (arith, len)) in
    let full = ceiling_full (xs ++ n ∷ []) (omega (arith, len)) in
    omega (arith, full, last)

-- a number that is no less than the ceiling
pub new_number : (rising : List ℕ) (others : BTreeSet ℕ) (n : ℕ) → IsNonDecreasing rising → AreBelow rising others → ceiling rising ≤ n
    → (list_any (λ k. k == n) rising || contains nat_cmp others n) ≡ false
new_number rising others n rises below high =
    let away : contains nat_cmp others n ≡ false = false_from_ne_true (contains nat_cmp others n) (λ e. let lt = below n e in omega (arith, lt, high)) in
    rw (none_rising rising n rises high) away

-- and once it is pushed, or there was no memory for it
pub rises_push : (pushed : Bool) (old new : List ℕ) (n : ℕ) → IsNonDecreasing old → ceiling old ≤ n → new ≡ cond pushed (old ++ n ∷ []) old → IsNonDecreasing new
rises_push true old new n rises high is = rw is (IsNonDecreasingBy-push (λ k. k) old n rises
    (λ d lt.
    let full = ceiling_full old lt in
    let same = get_or_default old (length old - 1) d 0 (omega arith) in
    omega (arith, full, same, high)))
rises_push false old new n rises high is = rw is rises

pub below_push : (pushed : Bool) (old new : List ℕ) (others : BTreeSet ℕ) (n : ℕ) → AreBelow old others → ceiling old ≤ n → new ≡ cond pushed (old ++ n ∷ []) old → AreBelow new others
below_push true old new others n below high is = rw is (λ k e. let lt = below k e in omega (arith, lt, high, ceiling_push old n))
below_push false old new others n below high is = rw is below

-- what a search tells
pub search_tells : (rising : List ℕ) (n : ℕ) (found : Result ℕ ℕ) → IsNonDecreasing rising → IsBinarySearchResult (λ k. nat_cmp k n) rising found → list_any (λ k. k == n) rising ≡ is_ok found
search_tells rising n (Ok i) rises told =
    let at = searched rising n (Ok i) told (λ i j le lt. rises i j 0 le lt) in
    let equal : get_or rising i 0 ≡ n = at.1 in
    list_any_at (λ k. k == n) rising i 0 at.0 (eq-eqb (get_or rising i 0) n equal)
search_tells rising n (Err i) rises told =
    let at = searched rising n (Err i) told (λ i j le lt. rises i j 0 le lt) in
    list_any_none (λ k. k == n) rising (All-from_get_or (λ k. (k == n) ≡ false) rising 0 (λ k lt. elim (cases_lt k i) [
      | inl before ↦ let less = at.1 k before in grind (arith, nat_tests)
      | inr after ↦ let more = at.2 k after lt in grind (arith, nat_tests)
    ]))

-- a number that is there already
pub found_again : (rising : List ℕ) (others : BTreeSet ℕ) (n q : ℕ) → list_any (λ k. k == n) rising ≡ true
    → (list_any (λ k. k == q) rising || contains nat_cmp others q) ≡ (n == q || (list_any (λ k. k == q) rising || contains nat_cmp others q))
found_again rising others n q there = elim (cases_Bool (n == q)) [
  | inl equal ↦
      let same = eqb-true n q equal in
      let found : list_any (λ k. k == q) rising ≡ true = subst (λ (m : ℕ). list_any (λ k. k == m) rising ≡ true) same there in
      ap (λ (b : Bool). b || contains nat_cmp others q) found ∙ ap (λ (b : Bool). b || (list_any (λ k. k == q) rising || contains nat_cmp others q)) (sym equal)
  | inr differs ↦ ap (λ (b : Bool). b || (list_any (λ k. k == q) rising || contains nat_cmp others q)) (sym differs)
]
