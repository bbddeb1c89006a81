-- Rosters stay rosters, over plain variables.
use Rattle.std.proofs.Common.{rules, subst, ◌≡◌, ℕ, ℤ, ◌<◌, ◌≤◌, Bool, true, false, cond, List, [], ◌∷◌, length, map, get_or, set, replicate, Option, Some, None, refl, sym, ap, ◌∙◌, le_trans, arith}
use Rattle.std.specs.Prelude.{IsSome, IfSome, slice_get, bytes_eq, if◌then◌else◌, int_lt, ◌==◌, ◌&&◌, option_and_then, option_map}
use Rattle.std.specs.List.{count_by}
use Rattle.std.proofs.lemmas.List.{length-map, length-replicate, length-set}
use Rattle.std.proofs.lemmas.List.Elements.{All-map, All-replicate, All-set}
use Rattle.std.proofs.lemmas.List.Folds.{sum_by-replicate}
use Rattle.std.proofs.lemmas.List.Quantifiers.{position-Some}
use Rattle.std.proofs.lemmas.Option.{slice_get-get_or}
use Rattle.std.proofs.lemmas.List.Sums.{sum_by-cons, sum_by-set}
use Rattle.turn_desk.specs.Views.{Seen, merge_seen}
use Rattle.site_sessions.specs.Sessions.{IsOfSlot, IsRoster, RosterValue, SessionValue, SlotValue, changed, ended, find, has_live_token, is_idle, is_of, kept}
use Rattle.site_sessions.specs.Entering.{unless_idle, without_idle}
use Rattle.site_sessions.proofs.Positions.{map_at_past, map_at_within}

one_le : (a b : Bool) → (a ≡ true → b ≡ true) → cond a 1 0 ≤ cond b 1 0
one_le true b f = rw (f refl) (grind arith)
one_le false b f = grind arith

-- a place has another session of the same user and account, or none any more
pub changes_place : (places : List (Option SessionValue)) (slots : List SlotValue) (i : ℕ) (d y : Option SessionValue) → IsRoster (record { places = places; slots = slots }) → i < length places → IfSome y (IsOfSlot slots) → ((user : List ℕ) → is_of user y ≡ true → is_of user (get_or places i d) ≡ true)
    → IsRoster (record { places = set places i y; slots = slots })
changes_place places slots i d y r within of_slot keeps = record {
  places = length-set places i y ∙ r.places;
  some_slot = r.some_slot;
  few_slots = r.few_slots;
  desks = r.desks;
  of_slots = All-set (λ place. IfSome place (IsOfSlot slots)) places i y of_slot r.of_slots;
  few_of_user = λ user. grind (arith, sum_by-set (λ p. cond (is_of user p) 1 0) places i y d within, one_le (is_of user y) (is_of user (get_or places i d)) (keeps user), r.few_of_user user);
}

count_map : {A : Type 0} (p : A → Bool) (f : A → A) → ((x : A) → p (f x) ≡ true → p x ≡ true) → (xs : List A) → count_by p (map f xs) ≤ count_by p xs
count_map p f keeps [] = grind arith
count_map {A} p f keeps (x ∷ xs) =
    let first : cond (p (f x)) 1 0 ≤ cond (p x) 1 0 = one_le (p (f x)) (p x) (keeps x) in
    let rest : count_by p (map f xs) ≤ count_by p xs = count_map p f keeps xs in
    omega (arith, first, rest, sum_by-cons (λ (y : A). cond (p y) 1 0) (f x) (map f xs), sum_by-cons (λ (y : A). cond (p y) 1 0) x xs)

stays_of : (user : List ℕ) (now : ℤ) (place : Option SessionValue) → is_of user (unless_idle now place) ≡ true → is_of user place ≡ true
stays_of user now None h = h
stays_of user now (Some s) h = by_case (is_idle now s) h
  where
    by_case : (b : Bool) → is_of user (if b then None else Some s) ≡ true → bytes_eq s.user user ≡ true
    by_case true h = cc
    by_case false h = h

still_of_slot : (slots : List SlotValue) (now : ℤ) (place : Option SessionValue) → IfSome place (IsOfSlot slots) → IfSome (unless_idle now place) (IsOfSlot slots)
still_of_slot slots now None h = h
still_of_slot slots now (Some s) h = by_case (is_idle now s)
  where
    by_case : (b : Bool) → IfSome (if b then None else Some s) (IsOfSlot slots)
    by_case true = tt
    by_case false = h

-- the session of a place ends, if it has this token
ended_of_slot : (slots : List SlotValue) (token : List ℕ) (place : Option SessionValue) → IfSome place (IsOfSlot slots) → IfSome (option_and_then (ended token) place) (IsOfSlot slots)
unfolding ended
ended_of_slot slots token None h = h
ended_of_slot slots token (Some s) h = by_case (bytes_eq s.token token)
  where
    by_case : (b : Bool) → IfSome (if b then None else Some s) (IsOfSlot slots)
    by_case true = tt
    by_case false = h

ended_of_user : (user token : List ℕ) (place : Option SessionValue) → is_of user (option_and_then (ended token) place) ≡ true → is_of user place ≡ true
unfolding ended
ended_of_user user token None h = h
ended_of_user user token (Some s) h = by_case (bytes_eq s.token token) h
  where
    by_case : (b : Bool) → is_of user (if b then None else Some s) ≡ true → bytes_eq s.user user ≡ true
    by_case true h = cc
    by_case false h = h

pub ends_place : (places : List (Option SessionValue)) (slots : List SlotValue) (i : ℕ) (token : List ℕ) (d : Option SessionValue) → IsRoster (record { places = places; slots = slots }) → i < length places
    → IsRoster (record { places = set places i (option_and_then (ended token) (get_or places i d)); slots = slots })
ends_place places slots i token d r within =
    changes_place places slots i d (option_and_then (ended token) (get_or places i d)) r within (ended_of_slot slots token (get_or places i d) (r.of_slots i d within)) (λ user. ended_of_user user token (get_or places i d))

-- the session of a place keeps what a pass has seen
kept_of_slot : (slots : List SlotValue) (token : List ℕ) (now : ℤ) (pass : Seen) (place : Option SessionValue) → IfSome place (IsOfSlot slots) → IfSome (option_map (kept token now pass) place) (IsOfSlot slots)
unfolding kept
kept_of_slot slots token now pass None h = h
kept_of_slot slots token now pass (Some s) h = by_case (bytes_eq s.token token && s.account == pass.desk)
  where
    by_case : (b : Bool) → IsOfSlot slots (if b then record s { last = if int_lt s.last now then now else s.last; pass = merge_seen s.pass pass } else s)
    by_case true = h
    by_case false = h

kept_of_user : (user token : List ℕ) (now : ℤ) (pass : Seen) (place : Option SessionValue) → is_of user (option_map (kept token now pass) place) ≡ true → is_of user place ≡ true
unfolding kept
kept_of_user user token now pass None h = h
kept_of_user user token now pass (Some s) h = by_case (bytes_eq s.token token && s.account == pass.desk) h
  where
    by_case : (b : Bool) → bytes_eq ((if b then record s { last = if int_lt s.last now then now else s.last; pass = merge_seen s.pass pass } else s).user) user ≡ true → bytes_eq s.user user ≡ true
    by_case true h = h
    by_case false h = h

pub keeps_place : (places : List (Option SessionValue)) (slots : List SlotValue) (i : ℕ) (token : List ℕ) (now : ℤ) (pass : Seen) (d : Option SessionValue) → IsRoster (record { places = places; slots = slots }) → i < length places
    → IsRoster (record { places = set places i (option_map (kept token now pass) (get_or places i d)); slots = slots })
keeps_place places slots i token now pass d r within =
    changes_place places slots i d (option_map (kept token now pass) (get_or places i d)) r within (kept_of_slot slots token now pass (get_or places i d) (r.of_slots i d within)) (λ user. kept_of_user user token now pass (get_or places i d))

-- idle sessions are ended
pub ends_idle : (places : List (Option SessionValue)) (slots : List SlotValue) (now : ℤ) → IsRoster (record { places = places; slots = slots }) → IsRoster (record { places = map (unless_idle now) places; slots = slots })
ends_idle places slots now r = record {
  places = length-map places (unless_idle now) ∙ r.places;
  some_slot = r.some_slot;
  few_slots = r.few_slots;
  desks = r.desks;
  of_slots = All-map (λ place. IfSome place (IsOfSlot slots)) (unless_idle now) places (λ k d within. still_of_slot slots now (get_or places k d) (r.of_slots k d within));
  few_of_user = λ user. let fewer : count_by (is_of user) (map (unless_idle now) places) ≤ count_by (is_of user) places = count_map (is_of user) (unless_idle now) (stays_of user now) places in le_trans fewer (r.few_of_user user);
}

-- ---- a new roster

no_sessions : (n : ℕ) (user : List ℕ) → count_by (is_of user) (replicate n None) ≡ 0
no_sessions n user = sum_by-replicate (λ p. cond (is_of user p) 1 0) n None ∙ grind arith

pub new_roster : (slots : List SlotValue) → 1 ≤ length slots → length slots ≤ 64 → ((i : ℕ) → IfSome (slice_get slots i) (λ slot. slot.pass.desk ≡ i)) → IsRoster (record { places = replicate 128 None; slots = slots })
new_roster slots some few desks = record {
  places = length-replicate {A = Option SessionValue} 128 None;
  some_slot = some;
  few_slots = few;
  desks = desks;
  of_slots = All-replicate (λ place. IfSome place (IsOfSlot slots)) 128 None tt;
  few_of_user = λ user. rw (no_sessions 128 user) (grind arith);
}

-- ---- a roster after one place was changed

pub changed_within : (places : List (Option SessionValue)) (slots : List SlotValue) (i : ℕ) (change : Option SessionValue → Option SessionValue) (d : Option SessionValue) → i < length places → record { places = set places i (change (get_or places i d)); slots = slots } ≡ changed i change (record { places = places; slots = slots })
unfolding changed
changed_within places slots i change d within = ap (λ (ps : List (Option SessionValue)). record { places = ps; slots = slots }) (sym (map_at_within i change places d within))

pub changed_past : (places : List (Option SessionValue)) (slots : List SlotValue) (i : ℕ) (change : Option SessionValue → Option SessionValue) → length places ≤ i → record { places = places; slots = slots } ≡ changed i change (record { places = places; slots = slots })
unfolding changed
changed_past places slots i change past = ap (λ (ps : List (Option SessionValue)). record { places = ps; slots = slots }) (sym (map_at_past i change places past))

pub without_idle_is : (places : List (Option SessionValue)) (slots : List SlotValue) (now : ℤ) → record { places = map (unless_idle now) places; slots = slots } ≡ without_idle now (record { places = places; slots = slots })
unfolding without_idle
without_idle_is places slots now = refl

-- ---- a session that was found

has_session : (token : List ℕ) (now : ℤ) (place : Option SessionValue) → has_live_token token now place ≡ true → IsSome (option_and_then (λ s. s) (Some place))
has_session token now None live = cc
has_session token now (Some s) live = search rules

pub found_session : (token : List ℕ) (now : ℤ) (r : RosterValue) (i : ℕ) → find token now r ≡ Some i → IsSome (option_and_then (λ s. s) (slice_get r.places i))
unfolding find
found_session token now r i found =
    let at = position-Some (has_live_token token now) r.places i None found in
    subst (λ o. IsSome (option_and_then (λ s. s) o)) (sym (slice_get-get_or r.places i None at.0)) (has_session token now (get_or r.places i None) at.1)

pub found_sessions : (token : List ℕ) (now : ℤ) (r : RosterValue) (found : Option ℕ) → found ≡ find token now r → IfSome found (λ place. IsSome (option_and_then (λ s. s) (slice_get r.places place)))
found_sessions token now r None is = search rules
found_sessions token now r (Some i) is = found_session token now r i (sym is)
