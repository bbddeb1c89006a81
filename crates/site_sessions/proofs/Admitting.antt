-- A user who enters, over plain variables.
use Rattle.std.proofs.Common.{◌≡◌, ℕ, ◌+◌, ◌<◌, ◌≤◌, Bool, true, false, cond, List, [], ◌∷◌, length, get_or, set, zero, suc, Option, Some, None, refl, sym, ap, subst, ◌∙◌, arith, is_none}
use Rattle.std.specs.Prelude.{IfSome, slice_get, bytes_eq, nat_le, ◌==◌, not, if◌then◌else◌}
use Rattle.std.specs.Option.{option_map_or, option_or}
use Rattle.std.specs.List.{All, count_by, position, range_with_len}
use Rattle.std.proofs.lemmas.List.Folds.{list_any-from_Any}
use Rattle.std.proofs.lemmas.List.FromFn.{get_or-range_with_len, length-range_with_len}
use Rattle.std.proofs.lemmas.Option.{get_or_from_slice_get}
use Rattle.std.proofs.lemmas.Bool.Decides.{Decides-eqb}
use Rattle.std.proofs.lemmas.List.{get_or_default, length-set}
use Rattle.std.proofs.lemmas.List.Elements.{All-set}
use Rattle.std.proofs.lemmas.List.Quantifiers.{position-Some}
use Rattle.std.proofs.lemmas.List.Sums.{sum_by-set}
use Rattle.std.proofs.lemmas.Slice.Eq.{bytes_eq-Decides}
use Rattle.site_sessions.specs.Sessions.{IsOfSlot, IsRoster, RosterValue, SessionValue, SlotValue, is_of}
use Rattle.site_sessions.specs.declared.fault.EnterFault.TheVariants as faults
use Rattle.site_sessions.specs.Entering.{fault_of, given_to, has_no_session, is_in, is_unused, live, live_of, no_slot, slot_of, was_given_to}
use Rattle.site_sessions.proofs.Positions.{free_place, no_free_place}

-- ---- a list after one element was set

pub get_set_same : {A : Type 0} (xs : List A) (i : ℕ) (y : A) → i < length xs → slice_get (set xs i y) i ≡ Some y
get_set_same [] i y within = grind arith
get_set_same (x ∷ xs) zero y within = refl
get_set_same (x ∷ xs) (suc i) y within = get_set_same xs i y (grind arith)

pub get_set_other : {A : Type 0} (xs : List A) (i j : ℕ) (y : A) → (i == j) ≡ false → slice_get (set xs i y) j ≡ slice_get xs j
get_set_other [] i j y other = refl
get_set_other (x ∷ xs) zero zero y other = cc
get_set_other (x ∷ xs) zero (suc j) y other = refl
get_set_other (x ∷ xs) (suc i) zero y other = refl
get_set_other (x ∷ xs) (suc i) (suc j) y other = get_set_other xs i j y (grind arith)

-- ---- sessions of the account are the user's

-- each session of an account is of this user
abbrev pub OnlyOf : List ℕ → ℕ → Option SessionValue → Type 0
OnlyOf user account place = is_in account place ≡ true → is_of user place ≡ true

-- sessions stay of the last users of their slots
still_of_slot : (slots : List SlotValue) (account : ℕ) (slot : SlotValue) (user : List ℕ) (place : Option SessionValue) → account < length slots → OnlyOf user account place → IfSome place (IsOfSlot slots) → IfSome place (IsOfSlot (set slots account (given_to user slot)))
still_of_slot slots account slot user None within only of_slot = of_slot
still_of_slot slots account slot user (Some s) within only of_slot = by_case (account == s.account) refl
  where
    by_case : (b : Bool) → (account == s.account) ≡ b → IsOfSlot (set slots account (given_to user slot)) s
    by_case true same =
        let e : account ≡ s.account = (Decides-eqb account s.account).0 same in
        let own : s.user ≡ user = (bytes_eq-Decides s.user user).0 (only ((Decides-eqb s.account account).1 (sym e))) in
        (subst (λ found. IfSome found (λ l. l.user ≡ Some s.user)) (sym (ap (λ k. slice_get (set slots account (given_to user slot)) k) (sym e) ∙ get_set_same slots account (given_to user slot) within)) (ap Some (sym own)), omega (arith, length-set slots account (given_to user slot), of_slot.1))
    by_case false other =
        (subst (λ found. IfSome found (λ l. l.user ≡ Some s.user)) (sym (get_set_other slots account s.account (given_to user slot) other)) of_slot.0, omega (arith, length-set slots account (given_to user slot), of_slot.1))

-- ---- the sessions of a user are few

abbrev one_if : Bool → ℕ
one_if b = cond b 1 0

few_after : (places : List (Option SessionValue)) (i : ℕ) (s : SessionValue) (u : List ℕ) → i < length places → get_or places i None ≡ None → count_by (is_of u) places ≤ 8 → (s.user ≡ u → count_by (is_of u) places < 8) → count_by (is_of u) (set places i (Some s)) ≤ 8
few_after places i s u within free few less = by_case (bytes_eq s.user u) refl
  where
    more : count_by (is_of u) (set places i (Some s)) + one_if (is_of u (get_or places i None)) ≡ count_by (is_of u) places + one_if (bytes_eq s.user u)
    more = sum_by-set (λ p. one_if (is_of u p)) places i (Some s) None within

    was : one_if (is_of u (get_or places i None)) ≡ 0
    was = ap (λ p. one_if (is_of u p)) free

    by_case : (b : Bool) → bytes_eq s.user u ≡ b → count_by (is_of u) (set places i (Some s)) ≤ 8
    by_case true same = omega (arith, more, was, ap one_if same, less ((bytes_eq-Decides s.user u).0 same))
    by_case false other = omega (arith, more, was, ap one_if other, few)

-- ---- the roster

pub admits : (places : List (Option SessionValue)) (slots : List SlotValue) (i account : ℕ) (slot : SlotValue) (s : SessionValue) → IsRoster (record { places = places; slots = slots })
    → position is_none places ≡ Some i → slice_get slots account ≡ Some slot → account < length slots → s.account ≡ account
    → count_by (is_of s.user) places < 8 → All (OnlyOf s.user account) places
    → IsRoster (record { places = set places i (Some s); slots = set slots account (given_to s.user slot) })
admits places slots i account slot s r free found within own few only =
    let at : i < length places = (position-Some is_none places i None free).0 in
    let empty : get_or places i None ≡ None = none_is (get_or places i None) ((position-Some is_none places i None free).1) in
    record {
      places = length-set places i (Some s) ∙ r.places;
      some_slot = omega (arith, r.some_slot, length-set slots account (given_to s.user slot));
      few_slots = omega (arith, r.few_slots, length-set slots account (given_to s.user slot));
      desks = λ k. desk k (account == k) refl;
      of_slots = All-set (λ place. IfSome place (IsOfSlot (set slots account (given_to s.user slot)))) places i (Some s) new_session (λ k d in_places. still_of_slot slots account slot s.user (get_or places k d) within (only k d in_places) (r.of_slots k d in_places));
      few_of_user = λ u. few_after places i s u at empty (r.few_of_user u) (λ same. subst (λ v. count_by (is_of v) places < 8) same few);
    }
  where
    none_is : (o : Option SessionValue) → is_none o ≡ true → o ≡ None
    none_is None h = refl
    none_is (Some t) h = cc

    desk : (k : ℕ) (b : Bool) → (account == k) ≡ b → IfSome (slice_get (set slots account (given_to s.user slot)) k) (λ l. l.pass.desk ≡ k)
    desk k true same =
        let e : account ≡ k = (Decides-eqb account k).0 same in
        let old : slot.pass.desk ≡ account = subst (λ o. IfSome o (λ l. l.pass.desk ≡ account)) found (r.desks account) in
        subst (λ o. IfSome o (λ l. l.pass.desk ≡ k)) (sym (ap (λ n. slice_get (set slots account (given_to s.user slot)) n) (sym e) ∙ get_set_same slots account (given_to s.user slot) within)) (old ∙ e)
    desk k false other = subst (λ o. IfSome o (λ l. l.pass.desk ≡ k)) (sym (get_set_other slots account k (given_to s.user slot) other)) (r.desks k)

    new_session : IsOfSlot (set slots account (given_to s.user slot)) s
    new_session = (subst (λ o. IfSome o (λ l. l.user ≡ Some s.user)) (sym (ap (λ n. slice_get (set slots account (given_to s.user slot)) n) own ∙ get_set_same slots account (given_to s.user slot) within)) refl, omega (arith, own, within, length-set slots account (given_to s.user slot)))

-- ---- why they are

false_true : {A : Type 0} → false ≡ true → A
false_true h = cc

-- the slot was given to the user before
only_if_given : (slots : List SlotValue) (account : ℕ) (slot : SlotValue) (user : List ℕ) (place : Option SessionValue) → slice_get slots account ≡ Some slot → was_given_to user slot ≡ true → IfSome place (IsOfSlot slots) → OnlyOf user account place
only_if_given slots account slot user None found given of_slot = λ inside. inside
only_if_given slots account slot user (Some s) found given of_slot = λ inside.
    let e : s.account ≡ account = (Decides-eqb s.account account).0 inside in
    let own : slot.user ≡ Some s.user = subst (λ o. IfSome o (λ l. l.user ≡ Some s.user)) (ap (λ k. slice_get slots k) e ∙ found) of_slot.0 in
    sym (ap (λ o. option_map_or (λ last. bytes_eq last user) o false) own) ∙ given

-- it was never used
only_if_unused : (slots : List SlotValue) (account : ℕ) (slot : SlotValue) (user : List ℕ) (place : Option SessionValue) → slice_get slots account ≡ Some slot → is_unused slot ≡ true → IfSome place (IsOfSlot slots) → OnlyOf user account place
only_if_unused slots account slot user None found unused of_slot = λ inside. inside
only_if_unused slots account slot user (Some s) found unused of_slot = λ inside.
    let e : s.account ≡ account = (Decides-eqb s.account account).0 inside in
    let own : slot.user ≡ Some s.user = subst (λ o. IfSome o (λ l. l.user ≡ Some s.user)) (ap (λ k. slice_get slots k) e ∙ found) of_slot.0 in
    false_true (sym (ap is_none own) ∙ unused)

-- no session is in it
only_if_free : (places : List (Option SessionValue)) (account : ℕ) (user : List ℕ) → has_no_session places account ≡ true → All (OnlyOf user account) places
only_if_free places account user free = λ k d within. λ inside. false_true (sym (ap not (list_any-from_Any (is_in account) places (k, get_or places k d, within, get_or_default places k (get_or places k d) d within, inside))) ∙ free)

-- the slot that a user gets has no session of another user
pub only_in_slot : (r : RosterValue) (user : List ℕ) (account : ℕ) (slot : SlotValue) → IsRoster r → slot_of user r ≡ Some account → slice_get r.slots account ≡ Some slot → All (OnlyOf user account) r.places
unfolding slot_of
only_in_slot r user account slot is chosen found =
    go (position (was_given_to user) r.slots) (position is_unused r.slots) (position (has_no_session r.places) (range_with_len 0 (length r.slots))) refl refl refl chosen
  where
    here : get_or r.slots account slot ≡ slot
    here = get_or_from_slice_get r.slots account slot slot found

    go : (a b c : Option ℕ) → position (was_given_to user) r.slots ≡ a → position is_unused r.slots ≡ b → position (has_no_session r.places) (range_with_len 0 (length r.slots)) ≡ c → option_or a (option_or b c) ≡ Some account → All (OnlyOf user account) r.places
    go (Some x) b c ea eb ec h = λ k d within. only_if_given r.slots account slot user (get_or r.places k d) found (sym (ap (was_given_to user) here) ∙ (position-Some (was_given_to user) r.slots account slot (ea ∙ h)).1) (is.of_slots k d within)
    go None (Some x) c ea eb ec h = λ k d within. only_if_unused r.slots account slot user (get_or r.places k d) found (sym (ap is_unused here) ∙ (position-Some is_unused r.slots account slot (eb ∙ h)).1) (is.of_slots k d within)
    go None None (Some x) ea eb ec h =
        let found_free = position-Some (has_no_session r.places) (range_with_len 0 (length r.slots)) account account (ec ∙ h) in
        let numbered : get_or (range_with_len 0 (length r.slots)) account account ≡ account = get_or-range_with_len 0 (length r.slots) account account (subst (λ n. account < n) (length-range_with_len 0 (length r.slots)) found_free.0) ∙ omega arith in
        only_if_free r.places account user (sym (ap (has_no_session r.places) numbered) ∙ found_free.1)
    go None None None ea eb ec h = cc

-- ---- faults

-- no place is free
pub full : (r : RosterValue) (user : List ℕ) → length r.places ≡ 128 → position is_none r.places ≡ None → fault_of user r ≡ Some (faults.Full 128)
unfolding fault_of
full r user size none = rw (no_free_place r.places none ∙ size) refl

-- a place is free
pub fault_of_free : (r : RosterValue) (user : List ℕ) (i : ℕ) → length r.places ≡ 128 → position is_none r.places ≡ Some i
    → fault_of user r ≡ (if nat_le 8 (live_of user r) then Some (faults.AccountFull (live_of user r)) else no_slot (live r) (slot_of user r))
unfolding fault_of
fault_of_free r user i size some = go (live r == 128) refl
  where
    less : live r < 128
    less = omega (arith, size, free_place r.places i some)

    go : (b : Bool) → (live r == 128) ≡ b → (if b then Some (faults.Full (live r)) else (if nat_le 8 (live_of user r) then Some (faults.AccountFull (live_of user r)) else no_slot (live r) (slot_of user r))) ≡ (if nat_le 8 (live_of user r) then Some (faults.AccountFull (live_of user r)) else no_slot (live r) (slot_of user r))
    go true e = absurd (omega (arith, less, (Decides-eqb (live r) 128).0 e))
    go false e = refl

-- a user who is let in has fewer than 8 sessions
pub few_if_let_in : (r : RosterValue) (user : List ℕ) → fault_of user r ≡ None → live_of user r < 8
unfolding fault_of
few_if_let_in r user none = go (live r == 128) (nat_le 8 (live_of user r)) refl none
  where
    go : (a b : Bool) → nat_le 8 (live_of user r) ≡ b → (if a then Some (faults.Full (live r)) else (if b then Some (faults.AccountFull (live_of user r)) else no_slot (live r) (slot_of user r))) ≡ None → live_of user r < 8
    go true b e h = cc
    go false true e h = cc
    go false false e h = grind arith

pub account_full : (r : RosterValue) (user : List ℕ) (i own : ℕ) → length r.places ≡ 128 → position is_none r.places ≡ Some i → own ≡ live_of user r → 8 ≤ own → fault_of user r ≡ Some (faults.AccountFull own)
account_full r user i own size some counted many =
    let most : nat_le 8 (live_of user r) ≡ true = grind (arith, counted, many) in
    fault_of_free r user i size some ∙ rw most (ap (λ n. Some (faults.AccountFull n)) (sym counted))

fewer : (r : RosterValue) (user : List ℕ) (i own : ℕ) → length r.places ≡ 128 → position is_none r.places ≡ Some i → own ≡ live_of user r → own < 8 → fault_of user r ≡ no_slot (live r) (slot_of user r)
fewer r user i own size some counted few =
    let least : nat_le 8 (live_of user r) ≡ false = grind (arith, counted, few) in
    fault_of_free r user i size some ∙ rw least refl

pub let_in : (r : RosterValue) (user : List ℕ) (i account own : ℕ) → length r.places ≡ 128 → position is_none r.places ≡ Some i → own ≡ live_of user r → own < 8 → slot_of user r ≡ Some account → fault_of user r ≡ None
let_in r user i account own size some counted few slot = fewer r user i own size some counted few ∙ rw slot refl

pub no_slot_left : (r : RosterValue) (user : List ℕ) (i own all : ℕ) → length r.places ≡ 128 → position is_none r.places ≡ Some i → own ≡ live_of user r → all ≡ live r → own < 8 → slot_of user r ≡ None → fault_of user r ≡ Some (faults.NoSlot all)
no_slot_left r user i own all size some counted every few slot = fewer r user i own size some counted few ∙ rw slot (ap (λ n. Some (faults.NoSlot n)) (sym every))
