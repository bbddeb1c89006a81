-- The UIDs of rows that are put in, changed and removed.
use Rattle.std.proofs.Common.{◌≡◌, ℕ, ◌<◌, ◌≤◌, Bool, true, not, List, [], ◌∷◌, length, get_or, refl, sym, ap, ◌∙◌, arith, inl, inr, Option, Some, None, Ok, Err}
use Rattle.std.specs.Prelude.{IsSome, zero, suc}
use Rattle.std.specs.Ordering.{nat_cmp}
use Rattle.std.specs.declared.cmp.Ordering.TheVariants.{Less, Equal, Greater}
use Rattle.std.specs.Cmp.{nat_cmp_is}
use Rattle.std.specs.List.{filter, insert}
use Rattle.std.specs.List.Sorted.{IsStrictlySortedBy, IsBinarySearchResult}
use Rattle.std.specs.Map.{keys_of, values_of, lookup}
use Rattle.std.proofs.lemmas.Bool.{cases_Bool, cases_lt, cases_eq}
use Rattle.std.proofs.lemmas.List.Sorted.{searched}
use Rattle.std.proofs.lemmas.List.Sums.{sum_by-cons}
use Rattle.std.proofs.lemmas.Map.{keys-set_value}
use Rattle.std.proofs.lemmas.Map.Keys.{Less-from_sorted}
use Rattle.mailbox_rows.specs.declared.row.Row.{Row}
use Rattle.mailbox_rows.specs.declared.row.Fields.{Fields}
use Rattle.mailbox_rows.specs.Rows.{Rows, has_uid, header_len, header_total, with_value, with_row, changed, without}

-- ---- changes

pub with_value_keys : (uid : ℕ) (fields : Fields) (found : Option Row) (rows : Rows) → keys_of (with_value uid fields found rows) ≡ keys_of rows
with_value_keys uid fields None rows = refl
with_value_keys uid fields (Some row) rows = keys-set_value (has_uid uid) rows (changed fields row)

-- ---- removals

pub keys_without : (gone : ℕ → Bool) (rows : Rows) → keys_of (without gone rows) ≡ filter (λ uid. not (gone uid)) (keys_of rows)
keys_without gone [] = refl
keys_without gone (e ∷ rows) = elim (cases_Bool (gone e.0)) [
  | inl here ↦ rw here (keys_without gone rows)
  | inr later ↦ rw later (ap (λ (uids : List ℕ). e.0 ∷ uids) (keys_without gone rows))
]

pub without_shorter : (gone : ℕ → Bool) (rows : Rows) → length (without gone rows) ≤ length rows
without_shorter gone [] = omega arith
without_shorter gone (e ∷ rows) = elim (cases_Bool (gone e.0)) [
  | inl here ↦ rw here (omega (without_shorter gone rows, arith))
  | inr later ↦ rw later (omega (without_shorter gone rows, arith))
]

pub without_total : (gone : ℕ → Bool) (rows : Rows) → header_total (without gone rows) ≤ header_total rows
without_total gone [] = omega arith
without_total gone (e ∷ rows) = elim (cases_Bool (gone e.0)) [
  | inl here ↦ rw here (omega (without_total gone rows, sum_by-cons header_len e.1 (values_of rows), arith))
  | inr later ↦ rw later (omega (without_total gone rows, sum_by-cons header_len e.1 (values_of rows), sum_by-cons header_len e.1 (values_of (without gone rows)), arith))
]

-- if as many rows are left, none is gone
pub without_none : (gone : ℕ → Bool) (rows : Rows) → length rows ≤ length (without gone rows) → without gone rows ≡ rows
without_none gone [] h = refl
without_none gone (e ∷ rows) h = elim (cases_Bool (gone e.0)) [
  | inl here ↦ absurd (omega (rw here at h, without_shorter gone rows, arith))
  | inr later ↦ rw later (ap (λ (rest : Rows). e ∷ rest) (without_none gone rows (omega (rw later at h, arith))))
]

-- ---- places

pub below_from_less : (a b : ℕ) → nat_cmp a b ≡ Less → a < b
below_from_less a b h = elim (cases_lt a b) [
  | inl less ↦ less
  | inr least ↦ elim (cases_eq a b) [
    | inl same ↦ (let bad = sym (nat_cmp_is a b Equal same) in let no : Equal ≡ Less = sym bad ∙ h in absurd cc)
    | inr other ↦ (let no : Greater ≡ Less = nat_cmp_is a b Greater (omega (least, other, arith)) ∙ h in absurd cc)
  ]
]

pub rising : (uids : List ℕ) → IsStrictlySortedBy nat_cmp uids → (i j : ℕ) → i ≤ j → j < length uids → get_or uids i 0 ≤ get_or uids j 0
rising uids sorted i j le less = elim (cases_lt i j) [
  | inl before ↦ (let below = below_from_less (get_or uids i 0) (get_or uids j 0) (Less-from_sorted nat_cmp uids i j 0 sorted before less) in omega (below, arith))
  | inr least ↦ (let same : i ≡ j = omega (le, least, arith) in rw same (omega arith))
]

-- a UID that is among those of the rows has a row
pub has_row : (uid : ℕ) (rows : Rows) (i : ℕ) → i < length (keys_of rows) → get_or (keys_of rows) i 0 ≡ uid → IsSome (lookup (has_uid uid) rows)
has_row uid [] i less is = absurd (omega (less, arith))
has_row uid (e ∷ rows) zero less is = (let here : has_uid uid e.0 ≡ true = rw (← nat_cmp_is uid e.0 Equal (sym is)) refl in rw here refl)
has_row uid (e ∷ rows) (suc i) less is = elim (cases_Bool (has_uid uid e.0)) [
  | inl here ↦ rw here refl
  | inr later ↦ rw later (has_row uid rows i (omega (less, arith)) is)
]

-- a row whose UID comes after the first `i`, and before the others
pub keys_put : (uid : ℕ) (row : Row) (rows : Rows) (i : ℕ) → i ≤ length (keys_of rows) → ((k : ℕ) → k < i → get_or (keys_of rows) k 0 < uid) → ((k : ℕ) → i ≤ k → k < length (keys_of rows) → uid < get_or (keys_of rows) k 0) → keys_of (with_row uid row rows) ≡ insert (keys_of rows) i uid
keys_put uid row [] zero le before after = refl
keys_put uid row [] (suc i) le before after = absurd (omega (le, arith))
keys_put uid row (e ∷ rows) zero le before after =
    rw (← nat_cmp_is uid e.0 Less (after zero (omega arith) (omega arith))) refl
keys_put uid row (e ∷ rows) (suc i) le before after =
    rw (← nat_cmp_is uid e.0 Greater (before zero (omega arith)))
    (ap (λ (uids : List ℕ). e.0 ∷ uids) (keys_put uid row rows i (omega (le, arith)) (λ k less. before (suc k) (omega (less, arith))) (λ k least less. after (suc k) (omega (least, arith)) (omega (less, arith)))))

-- ---- what a search in the UIDs says

pub search_row : (uid : ℕ) (rows : Rows) (uids : List ℕ) (i : ℕ) → uids ≡ keys_of rows → IsStrictlySortedBy nat_cmp uids → IsBinarySearchResult (λ y. nat_cmp y uid) uids (Ok i) → IsSome (lookup (has_uid uid) rows)
search_row uid rows uids i are sorted h =
    let found = searched uids uid (Ok i) h (rising uids sorted) in
    has_row uid rows i (rw are at found.0) (rw are at found.1)

pub search_place : (uid : ℕ) (row : Row) (rows : Rows) (uids : List ℕ) (i : ℕ) → uids ≡ keys_of rows → IsStrictlySortedBy nat_cmp uids → IsBinarySearchResult (λ y. nat_cmp y uid) uids (Err i) → keys_of (with_row uid row rows) ≡ insert uids i uid
search_place uid row rows uids i are sorted h =
    let found = searched uids uid (Err i) h (rising uids sorted) in
    keys_put uid row rows i (rw are at found.0) (rw are at found.1) (rw are at found.2) ∙ ap (λ (keys : List ℕ). insert keys i uid) (sym are)
