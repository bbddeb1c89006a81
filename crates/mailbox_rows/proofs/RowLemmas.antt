-- Rows that are put in, changed and removed.
use Rattle.std.proofs.Common.{◌≡◌, ℕ, ◌<◌, ◌≤◌, Bool, true, false, not, ◌||◌, List, [], ◌∷◌, length, take, drop, get_or, ◌-◌, refl, sym, ap, ◌∙◌, arith, inl, inr, Option, Some, None}
use Rattle.std.specs.Prelude.{nat_lt, nat_le, IsSome, ◌==◌, if◌then◌else◌}
use Rattle.std.specs.Ordering.{nat_cmp, is_le, is_lt}
use Rattle.std.specs.List.{filter}
use Rattle.std.specs.declared.ops.Bound.TheVariants.{Included}
use Rattle.std.specs.BTreeMap.Range.{range_contains, entries_between}
use Rattle.std.proofs.lemmas.List.{nil_from_length}
use Rattle.std.proofs.Math.Seq.{take-length}
use Rattle.std.specs.Map.{lookup, remove_entry, set_value}
use Rattle.std.proofs.lemmas.Bool.{cases_Bool, cases_lt, eqb-true, ltb-false, lt-ltb, le-ltb, le-leb, lt-leb, ne_eqb, eq-eqb}
use Rattle.std.proofs.lemmas.Map.Entries.{sum_by-set_value}
use Rattle.imap_commands.specs.declared.uid_set.UidRange.{UidRange}
use Rattle.imap_commands.specs.UidSets.{in_range, contains_uid}
use Rattle.mailbox_rows.specs.declared.row.Row.{Row}
use Rattle.mailbox_rows.specs.declared.row.Fields.{Fields}
use Rattle.mailbox_rows.specs.Rows.{Rows, has_uid, header_len, header_total, with_value, changed, without}
use Rattle.mailbox_rows.specs.Mailboxes.{MailboxState, row_limit, header_limit, is_past, with_rows}

pub within : (count bytes : ℕ) → is_past count bytes ≡ false → (count ≤ row_limit) × (bytes ≤ header_limit)
within count bytes h = elim (cases_Bool (nat_lt row_limit count)) [
  | inl many ↦ (let bad : true ≡ false = rw many at h in absurd cc)
  | inr few ↦ (ltb-false row_limit count few, ltb-false header_limit bytes (rw few at h))
]

-- ---- changes

pub length-set_value : (test : ℕ → Bool) (rows : Rows) (row : Row) → length (set_value test rows row) ≡ length rows
length-set_value test [] row = refl
length-set_value test (e ∷ rows) row = elim (cases_Bool (test e.0)) [
  | inl here ↦ rw here refl
  | inr later ↦ rw later (omega (length-set_value test rows row, arith))
]

pub with_value_total : (uid : ℕ) (fields : Fields) (found : Option Row) (rows : Rows) → lookup (has_uid uid) rows ≡ found → header_total (with_value uid fields found rows) ≡ header_total rows
with_value_total uid fields None rows h = refl
with_value_total uid fields (Some row) rows h = omega (sum_by-set_value header_len (has_uid uid) rows row (changed fields row) h, arith)

pub with_value_length : (uid : ℕ) (fields : Fields) (found : Option Row) (rows : Rows) → length (with_value uid fields found rows) ≡ length rows
with_value_length uid fields None rows = refl
with_value_length uid fields (Some row) rows = length-set_value (has_uid uid) rows (changed fields row)

-- ---- removals

pub same_uid : (uid key : ℕ) → has_uid uid key ≡ true → uid ≡ key
same_uid uid key h = elim (cases_Bool (nat_lt uid key)) [
  | inl less ↦ (let bad = rw less at h in absurd cc)
  | inr least ↦ elim (cases_Bool (uid == key)) [
    | inl equal ↦ eqb-true uid key equal
    | inr other ↦ (let bad = rw (least, other) at h in absurd cc)
  ]
]

pub removed_shorter : (test : ℕ → Bool) (rows : Rows) → IsSome (lookup test rows) → length (remove_entry test rows) < length rows
removed_shorter test [] h = absurd cc
removed_shorter test (e ∷ rows) h = elim (cases_Bool (test e.0)) [
  | inl here ↦ rw here (omega arith)
  | inr later ↦ rw later (omega (removed_shorter test rows (rw later at h), arith))
]

pub removed_gone : (gone : ℕ → Bool) (uid : ℕ) (rows : Rows) → gone uid ≡ true → without gone (remove_entry (has_uid uid) rows) ≡ without gone rows
removed_gone gone uid [] h = refl
removed_gone gone uid (e ∷ rows) h = elim (cases_Bool (has_uid uid e.0)) [
  | inl here ↦ (let told : gone e.0 ≡ true = ap gone (sym (same_uid uid e.0 here)) ∙ h in rw (here, told) refl)
  | inr later ↦ rw later (ap (λ (rest : Rows). if not (gone e.0) then e ∷ rest else rest) (removed_gone gone uid rows h))
]

-- ---- ranges

pub without_two : (one other both : ℕ → Bool) (rows : Rows) → ((uid : ℕ) → both uid ≡ (one uid || other uid)) → without other (without one rows) ≡ without both rows
without_two one other both [] h = refl
without_two one other both (e ∷ rows) h = elim (cases_Bool (one e.0)) [
  | inl first ↦ (let told : both e.0 ≡ true = h e.0 ∙ ap (λ test. test || other e.0) first in rw (first, told) (without_two one other both rows h))
  | inr second ↦ (let told : both e.0 ≡ other e.0 = h e.0 ∙ ap (λ test. test || other e.0) second in rw (second, told) (ap (λ (rest : Rows). if not (other e.0) then e ∷ rest else rest) (without_two one other both rows h)))
]

pub none_without : (gone : ℕ → Bool) (rows : Rows) → filter (λ (entry : ℕ × Row). gone entry.0) rows ≡ [] → without gone rows ≡ rows
none_without gone [] h = refl
none_without gone (e ∷ rows) h = elim (cases_Bool (gone e.0)) [
  | inl here ↦ (let bad = rw here at h in absurd cc)
  | inr later ↦ rw later (ap (λ rest. e ∷ rest) (none_without gone rows (rw later at h)))
]

pub never_without : (gone : ℕ → Bool) (rows : Rows) → ((uid : ℕ) → gone uid ≡ false) → without gone rows ≡ rows
never_without gone [] h = refl
never_without gone (e ∷ rows) h = rw (h e.0) (ap (λ rest. e ∷ rest) (never_without gone rows h))

-- a range that runs backwards has no UID
pub backwards : (range : UidRange) (uid : ℕ) → range.last < range.first → in_range uid range ≡ false
backwards range uid h = elim (cases_lt uid range.first) [
  | inl below ↦ rw (lt-leb range.first uid below) refl
  | inr from ↦ rw (le-leb range.first uid from, lt-leb uid range.last (omega (h, from, arith))) refl
]

pub le_is : (a q : ℕ) → is_le (nat_cmp a q) ≡ nat_le a q
le_is a q = elim (cases_lt q a) [
  | inl below ↦ rw (le-ltb a q (omega (below, arith)), ne_eqb a q (λ e. absurd (omega (e, below, arith))), lt-leb a q below) refl
  | inr from ↦ elim (cases_lt a q) [
    | inl less ↦ rw (lt-ltb a q less, le-leb a q from) refl
    | inr least ↦ rw (le-ltb a q least, eq-eqb a q (omega (from, least, arith)), le-leb a q from) refl
  ]
]

pub lt_is : (b q : ℕ) → not (is_lt (nat_cmp b q)) ≡ nat_le q b
lt_is b q = elim (cases_lt b q) [
  | inl less ↦ rw (lt-ltb b q less, lt-leb q b less) refl
  | inr least ↦ elim (cases_Bool (b == q)) [
    | inl same ↦ rw (le-ltb b q least, same, le-leb q b least) refl
    | inr other ↦ rw (le-ltb b q least, other, le-leb q b least) refl
  ]
]

pub same_range : (range : UidRange) (uid : ℕ) → range_contains nat_cmp (Included range.first) (Included range.last) uid ≡ in_range uid range
same_range range uid = rw (le_is range.first uid, lt_is range.last uid) refl

-- no row has a UID of a range
pub none_between : (range : UidRange) (rows : Rows) → entries_between nat_cmp (Included range.first) (Included range.last) rows ≡ [] → without (λ uid. in_range uid range) rows ≡ rows
none_between range [] h = refl
none_between range (e ∷ rows) h = elim (cases_Bool (in_range e.0 range)) [
  | inl here ↦ (let bad = rw (same_range range e.0, here) at h in absurd cc)
  | inr later ↦ rw later (ap (λ (rest : Rows). e ∷ rest) (none_between range rows (rw (same_range range e.0, later) at h)))
]

pub none_between_ends : (first last : ℕ) (range : UidRange) (rows : Rows) → first ≡ range.first → last ≡ range.last → entries_between nat_cmp (Included first) (Included last) rows ≡ [] → without (λ uid. in_range uid range) rows ≡ rows
none_between_ends first last range rows start end none = none_between range rows (rw (start, end) at none)

-- ---- sets

-- a slice pattern takes the first range from the others
pub split_first : (ranges : List UidRange) (d : UidRange) → 1 ≤ length ranges → ranges ≡ record { first = (get_or ranges 0 d).first; last = (get_or ranges 0 d).last } ∷ take (length ranges - 1) (drop 1 ranges)
split_first [] d h = absurd (omega (h, arith))
split_first (range ∷ ranges) d h =
    let count : length (range ∷ ranges) - 1 ≡ length ranges = omega arith in
    ap (λ (more : List UidRange). range ∷ more) (sym (ap (λ n. take n ranges) count ∙ take-length ranges))

pub vanish_step : (ranges : List UidRange) (first : UidRange) (more : List UidRange) (rows : Rows) → ranges ≡ first ∷ more → without (λ uid. contains_uid uid more) (without (λ uid. in_range uid first) rows) ≡ without (λ uid. contains_uid uid ranges) rows
vanish_step ranges first more rows split = rw split (without_two (λ uid. in_range uid first) (λ uid. contains_uid uid more) (λ uid. contains_uid uid (first ∷ more)) rows (λ uid. refl))

pub vanish_more : (ranges : List UidRange) (first : UidRange) (more : List UidRange) (old new target : Rows) → new ≡ without (λ uid. in_range uid first) old → ranges ≡ first ∷ more → without (λ uid. contains_uid uid ranges) old ≡ target → without (λ uid. contains_uid uid more) new ≡ target
vanish_more ranges first more old new target is split gone = ap (λ rows. without (λ uid. contains_uid uid more) rows) is ∙ vanish_step ranges first more old split ∙ gone

pub vanish_end : (ranges : List UidRange) (rows : Rows) → length ranges < 1 → without (λ uid. contains_uid uid ranges) rows ≡ rows
vanish_end ranges rows h = rw (nil_from_length ranges (omega (h, arith))) (never_without (λ uid. contains_uid uid []) rows (λ uid. refl))

pub from_same : (new old : MailboxState) (rows : Rows) → with_rows new old.rows ≡ old → new.rows ≡ rows → new ≡ with_rows old rows
from_same new old rows same is = ap (λ (box : MailboxState). with_rows box new.rows) same ∙ ap (λ rest. with_rows old rest) is
