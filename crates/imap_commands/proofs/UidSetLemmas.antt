-- Ascending ranges and their UIDs.
use Rattle.std.proofs.Common.{◌≡◌, ℕ, zero, suc, ◌+◌, ◌<◌, ◌≤◌, ◌⊎◌, inl, inr, Bool, true, false, ◌||◌, nat_le, nat_lt, List, [], ◌∷◌, ◌++◌, length, get_or, refl, sym, ap, ◌∙◌, arith, le_of_suc-le-suc, le_trans, le_refl, subst, not-suc-le-zero}
use Rattle.std.proofs.lemmas.Bool.Decides.{nat_tests}
use Rattle.std.proofs.lemmas.Bool.{cases_Bool}
use Rattle.std.proofs.lemmas.List.Folds.{list_any-append}
use Rattle.std.specs.List.Sorted.{IsNonDecreasingBy, IsPartitionPoint}
use Rattle.imap_commands.specs.declared.uid_set.UidRange.{UidRange}
use Rattle.imap_commands.specs.UidSets.{in_range, contains_uid, AscendFrom, AreApart, BeginBy, joined}

-- the membership test of a range
pub in_range_tells : (uid : ℕ) (range : UidRange) → ((in_range uid range ≡ true) × (range.first ≤ uid) × (uid ≤ range.last)) ⊎ ((in_range uid range ≡ false) × ((uid < range.first) ⊎ (range.last < uid)))
in_range_tells uid range = grind (arith, nat_tests)

cases_le : (a b : ℕ) → (nat_le a b ≡ true) ⊎ ((nat_le a b ≡ false) × (b + 1 ≤ a))
cases_le a b = grind (arith, nat_tests)

or-false : (b : Bool) → (b || false) ≡ b
or-false true = refl
or-false false = refl

pub contains_uid-push : (uid : ℕ) (ranges : List UidRange) (range : UidRange) → contains_uid uid (ranges ++ range ∷ []) ≡ (contains_uid uid ranges || in_range uid range)
contains_uid-push uid ranges range = list_any-append (in_range uid) ranges (range ∷ []) ∙ ap (λ b. contains_uid uid ranges || b) (or-false (in_range uid range))

-- a range that has no UID
pub contains_uid-none : (uid : ℕ) (ranges : List UidRange) (range : UidRange) → range.last < range.first → contains_uid uid ranges ≡ (contains_uid uid ranges || in_range uid range)
contains_uid-none uid ranges range less =
    let empty : in_range uid range ≡ false = grind (arith, in_range_tells uid range) in
    sym (or-false (contains_uid uid ranges)) ∙ ap (λ b. contains_uid uid ranges || b) (sym empty)

-- no UID below the first
pub none_below : (uid least : ℕ) (ranges : List UidRange) → AscendFrom least ranges → uid < least → contains_uid uid ranges ≡ false
none_below uid least [] ascend below = refl
none_below uid least (range ∷ more) ascend below =
    let here : in_range uid range ≡ false = let a = ascend.0 in grind (arith, in_range_tells uid range) in
    rw here (none_below uid (range.last + 2) more ascend.2 (let a = ascend.0 in let b = ascend.1 in omega arith))

-- no UID above the last
pub none_after : (uid : ℕ) (ranges : List UidRange) → ((k : ℕ) (d : UidRange) → k < length ranges → (get_or ranges k d).last < uid) → contains_uid uid ranges ≡ false
none_after uid [] before = refl
none_after uid (range ∷ more) before =
    let over : range.last < uid = before 0 range (omega arith) in
    let here : in_range uid range ≡ false = grind (arith, in_range_tells uid range) in
    rw here (none_after uid more (λ k d l. before (suc k) d (omega arith)))

-- the first range that doesn't end before a UID decides
pub decided_at : (uid least i : ℕ) (ranges : List UidRange) (d : UidRange) → AscendFrom least ranges → i < length ranges → ((k : ℕ) → k < i → (get_or ranges k d).last < uid) → uid ≤ (get_or ranges i d).last → contains_uid uid ranges ≡ nat_le (get_or ranges i d).first uid
decided_at uid least i [] d ascend within before at = absurd (not-suc-le-zero within)
decided_at uid least zero (range ∷ more) d ascend within before at =
    rw (none_below uid (range.last + 2) more ascend.2 (omega arith)) (or-false _ ∙ grind (arith, nat_tests))
decided_at uid least (suc i) (range ∷ more) d ascend within before at =
    let over : range.last < uid = before 0 (omega arith) in
    let here : in_range uid range ≡ false = grind (arith, in_range_tells uid range) in
    rw here (decided_at uid (range.last + 2) i more d ascend.2 (le_of_suc-le-suc within) (λ k l. before (suc k) (omega arith)) at)

ends_from : (least k : ℕ) (ranges : List UidRange) (d : UidRange) → AscendFrom least ranges → k < length ranges → least ≤ (get_or ranges k d).last
ends_from least k [] d ascend within = absurd (not-suc-le-zero within)
ends_from least zero (range ∷ more) d ascend within = le_trans ascend.0 ascend.1
ends_from least (suc k) (range ∷ more) d ascend within =
    let a = ascend.0 in
    let b = ascend.1 in
    let rest = ends_from (range.last + 2) k more d ascend.2 (le_of_suc-le-suc within) in
    omega arith

pub ends_ascend : (least : ℕ) (ranges : List UidRange) → AscendFrom least ranges → IsNonDecreasingBy (λ range. range.last) ranges
ends_ascend least [] ascend i j d le within = absurd (not-suc-le-zero within)
ends_ascend least (range ∷ more) ascend zero zero d le within = le_refl _
ends_ascend least (range ∷ more) ascend (suc i) zero d le within = absurd (not-suc-le-zero le)
ends_ascend least (range ∷ more) ascend zero (suc j) d le within =
    let rest = ends_from (range.last + 2) j more d ascend.2 (le_of_suc-le-suc within) in
    omega arith
ends_ascend least (range ∷ more) ascend (suc i) (suc j) d le within =
    ends_ascend (range.last + 2) more ascend.2 i j d (le_of_suc-le-suc le) (le_of_suc-le-suc within)

-- the last of ascending ranges
last_holds : (least : ℕ) (front : List UidRange) (before : UidRange) → AscendFrom least (front ++ before ∷ []) → before.first ≤ before.last
last_holds least [] before ascend = ascend.1
last_holds least (range ∷ more) before ascend = last_holds (range.last + 2) more before ascend.2

last_begins : (latest : ℕ) (front : List UidRange) (before : UidRange) → BeginBy latest (front ++ before ∷ []) → before.first ≤ latest
last_begins latest [] before begin = begin.0
last_begins latest (range ∷ more) before begin = last_begins latest more before begin.1

apart : (least : ℕ) (front : List UidRange) (before after : UidRange) → AscendFrom least (front ++ before ∷ []) → before.first ≤ after.first → after.first ≤ after.last → AscendFrom least (front ++ joined before after)
apart least [] before after ascend order holds =
    let a = ascend.0 in
    let b = ascend.1 in
    elim (cases_le after.first (before.last + 1)) [
      | inl near ↦ rw near (a, omega arith, tt)
      | inr far ↦ rw far.0 (a, b, (omega arith, holds, tt))
    ]
apart least (range ∷ more) before after ascend order holds = (ascend.0, ascend.1, apart (range.last + 2) more before after ascend.2 order holds)

begin_by : (latest : ℕ) (front : List UidRange) (before after : UidRange) → BeginBy latest (front ++ before ∷ []) → after.first ≤ latest → BeginBy latest (front ++ joined before after)
begin_by latest [] before after begin order =
    elim (cases_Bool (nat_le after.first (before.last + 1))) [ inl near ↦ rw near (begin.0, tt) | inr far ↦ rw far (begin.0, (order, tt)) ]
begin_by latest (range ∷ more) before after begin order = (begin.0, begin_by latest more before after begin.1 order)

contains_uid-joined : (uid : ℕ) (before after : UidRange) → before.first ≤ before.last → before.first ≤ after.first → after.first ≤ after.last → contains_uid uid (joined before after) ≡ (in_range uid before || in_range uid after)
contains_uid-joined uid before after one order other = grind (arith, nat_tests)

or_assoc : (a b c : Bool) → (a || (b || c)) ≡ ((a || b) || c)
or_assoc true b c = refl
or_assoc false b c = refl

members : (uid : ℕ) (front : List UidRange) (before after : UidRange) → before.first ≤ before.last → before.first ≤ after.first → after.first ≤ after.last → contains_uid uid (front ++ joined before after) ≡ (contains_uid uid (front ++ before ∷ []) || in_range uid after)
members uid front before after one order other =
    list_any-append (in_range uid) front (joined before after)
    ∙ ap (λ b. contains_uid uid front || b) (contains_uid-joined uid before after one order other)
    ∙ or_assoc (contains_uid uid front) (in_range uid before) (in_range uid after)
    ∙ ap (λ b. b || in_range uid after) (sym (contains_uid-push uid front before))

-- the last range and one that begins no earlier are joined
pub joined_apart : (old front new : List UidRange) (before after : UidRange) → old ≡ front ++ before ∷ [] → AreApart old → BeginBy after.first old → after.first ≤ after.last → new ≡ front ++ joined before after → AreApart new
joined_apart old front new before after was ascend begin holds is =
    subst AreApart (sym is) (apart 0 front before after (subst AreApart was ascend) (last_begins after.first front before (subst (BeginBy after.first) was begin)) holds)

pub joined_begin : (old front new : List UidRange) (before after : UidRange) → old ≡ front ++ before ∷ [] → BeginBy after.first old → new ≡ front ++ joined before after → BeginBy after.first new
joined_begin old front new before after was begin is =
    subst (BeginBy after.first) (sym is) (begin_by after.first front before after (subst (BeginBy after.first) was begin) (le_refl _))

pub joined_has : (uid : ℕ) (old front new : List UidRange) (before after : UidRange) → old ≡ front ++ before ∷ [] → AreApart old → BeginBy after.first old → after.first ≤ after.last → new ≡ front ++ joined before after → contains_uid uid new ≡ (contains_uid uid old || in_range uid after)
joined_has uid old front new before after was ascend begin holds is =
    ap (contains_uid uid) is
    ∙ members uid front before after (last_holds 0 front before (subst AreApart was ascend)) (last_begins after.first front before (subst (BeginBy after.first) was begin)) holds
    ∙ ap (λ ranges. contains_uid uid ranges || in_range uid after) (sym was)

pub begin_later : (one other : ℕ) (ranges : List UidRange) → one ≤ other → BeginBy one ranges → BeginBy other ranges
begin_later one other [] le begin = tt
begin_later one other (range ∷ more) le begin = (le_trans begin.0 le, begin_later one other more le begin.1)

-- the first place where a range doesn't end before a UID
abbrev Parts : ℕ → ℕ → List UidRange → Type 0
Parts uid place ranges =
    IsPartitionPoint (λ (range : UidRange). nat_lt range.last uid ≡ true) (λ (range : UidRange). nat_lt range.last uid ≡ false) ranges place

pub found_at : (uid place : ℕ) (ranges : List UidRange) (range : UidRange) → AreApart ranges → Parts uid place ranges → place < length ranges → range ≡ get_or ranges place range → nat_le range.first uid ≡ contains_uid uid ranges
found_at uid place ranges range ascend parts within is =
    let at : uid ≤ (get_or ranges place range).last = let t = parts.1 place range (le_refl _) within in grind (arith, nat_tests) in
    ap (λ (r : UidRange). nat_le r.first uid) is
    ∙ sym (decided_at uid 0 place ranges range ascend within (λ k less. let t = parts.0 k range (omega arith) less in grind (arith, nat_tests)) at)

pub found_nowhere : (uid place : ℕ) (ranges : List UidRange) → Parts uid place ranges → length ranges ≤ place → false ≡ contains_uid uid ranges
found_nowhere uid place ranges parts over =
    sym (none_after uid ranges (λ k d within. let t = parts.0 k d (omega arith) (omega arith) in grind (arith, nat_tests)))
