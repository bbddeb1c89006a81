-- Worked examples of rosters with three accounts. No example reads a pass.
use Rattle.std.proofs.Common.{◌≡◌, ℕ, pos, true, false, List, [], ◌∷◌, ◌++◌, replicate, Option, Some, None, refl}
use Rattle.std.specs.Prelude.{codes}
use Rattle.turn_desk.specs.Views.{Seen}
use Rattle.site_sessions.specs.declared.fault.EnterFault.TheVariants.{AccountFull, Full, NoSlot}
use Rattle.site_sessions.specs.Sessions.{RosterValue, SessionValue, SlotValue, ended, find, is_idle}
use Rattle.site_sessions.specs.Entering.{fault_of, slot_of, without_idle}

-- a session of an account, whose last ask was at a moment
abbrev session : Seen → ℕ → List ℕ → List ℕ → ℕ → SessionValue
session pass account user token last = record { account = account; user = user; token = token; key = codes "key"; last = pos last; pass = pass }

abbrev slot : Seen → Option (List ℕ) → SlotValue
slot pass user = record { user = user; pass = pass }

-- Ann has two sessions of account 0, account 1 was Bob's, and account 2 was never used
abbrev two_of_ann : Seen → RosterValue
two_of_ann pass = record {
  places = Some (session pass 0 (codes "ann") (codes "t1") 1000) ∷ None ∷ Some (session pass 0 (codes "ann") (codes "t2") 5000) ∷ None ∷ [];
  slots = slot pass (Some (codes "ann")) ∷ slot pass (Some (codes "bob")) ∷ slot pass None ∷ [];
}

-- ---- idle sessions

lives_for_half_an_hour : (pass : Seen) → is_idle (pos 2800) (session pass 0 (codes "ann") (codes "t1") 1000) ≡ false
lives_for_half_an_hour pass = refl

idle_a_second_later : (pass : Seen) → is_idle (pos 2801) (session pass 0 (codes "ann") (codes "t1") 1000) ≡ true
idle_a_second_later pass = refl

finds_by_token : (pass : Seen) → find (codes "t2") (pos 2801) (two_of_ann pass) ≡ Some 2
unfolding find
finds_by_token pass = refl

finds_no_idle_session : (pass : Seen) → find (codes "t1") (pos 2801) (two_of_ann pass) ≡ None
unfolding find
finds_no_idle_session pass = refl

-- ---- which account a user gets

own_account : (pass : Seen) → slot_of (codes "bob") (two_of_ann pass) ≡ Some 1
unfolding slot_of
own_account pass = refl

unused_account : (pass : Seen) → slot_of (codes "cy") (two_of_ann pass) ≡ Some 2
unfolding slot_of
unused_account pass = refl

-- once every account was used, the lowest without sessions
account_without_sessions : (pass : Seen) → slot_of (codes "cy") (record (two_of_ann pass) { slots = slot pass (Some (codes "ann")) ∷ slot pass (Some (codes "bob")) ∷ slot pass (Some (codes "dan")) ∷ [] }) ≡ Some 1
unfolding slot_of
account_without_sessions pass = refl

-- ---- faults

abbrev only_of_ann : Seen → ℕ → RosterValue
only_of_ann pass count = record { places = replicate count (Some (session pass 0 (codes "ann") (codes "t") 1000)) ++ None ∷ []; slots = slot pass (Some (codes "ann")) ∷ [] }

eighth_enters : (pass : Seen) → fault_of (codes "ann") (only_of_ann pass 7) ≡ None
unfolding fault_of slot_of
eighth_enters pass = refl

ninth_is_refused : (pass : Seen) → fault_of (codes "ann") (only_of_ann pass 8) ≡ Some (AccountFull 8)
unfolding fault_of
ninth_is_refused pass = refl

no_account_left : (pass : Seen) → fault_of (codes "bob") (only_of_ann pass 3) ≡ Some (NoSlot 3)
unfolding fault_of slot_of
no_account_left pass = refl

no_place_left : (pass : Seen) → fault_of (codes "bob") (record (only_of_ann pass 0) { places = replicate 128 (Some (session pass 0 (codes "ann") (codes "t") 1000)) }) ≡ Some (Full 128)
unfolding fault_of
no_place_left pass = refl

-- ---- ends

idle_sessions_end : (pass : Seen) → without_idle (pos 2801) (two_of_ann pass) ≡ record (two_of_ann pass) { places = None ∷ None ∷ Some (session pass 0 (codes "ann") (codes "t2") 5000) ∷ None ∷ [] }
unfolding without_idle
idle_sessions_end pass = refl

ends_by_token : (pass : Seen) → ended (codes "t1") (session pass 0 (codes "ann") (codes "t1") 1000) ≡ None
unfolding ended
ends_by_token pass = refl

another_token_ends_nothing : (pass : Seen) → ended (codes "t2") (session pass 0 (codes "ann") (codes "t1") 1000) ≡ Some (session pass 0 (codes "ann") (codes "t1") 1000)
unfolding ended
another_token_ends_nothing pass = refl
