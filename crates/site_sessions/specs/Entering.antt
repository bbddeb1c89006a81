-- How a user gets a session.
use Rattle.std.specs.Prelude.{◌≡◌, ℕ, ℤ, ◌==◌, nat_le, Bool, false, not, if◌then◌else◌, List, length, map, Option, Some, None, Result, Ok, Err, is_some, is_none, slice_get, slice_set}
use Rattle.std.specs.List.{count_by, list_any, position, range_with_len}
use Rattle.std.specs.Option.{option_or, option_map_or}
use Rattle.std.specs.Str.{bytes_eq}
use Rattle.site_sessions.specs.declared.fault.EnterFault.{EnterFault}
use Rattle.site_sessions.specs.declared.fault.EnterFault.TheVariants as faults
use Rattle.site_sessions.specs.Sessions.{SessionValue, SlotValue, RosterValue, is_idle, is_of, place_count, user_limit}

-- ---- idle sessions end first

abbrev pub unless_idle : ℤ → Option SessionValue → Option SessionValue
unless_idle now None = None
unless_idle now (Some s) = if is_idle now s then None else Some s

unfoldable pub without_idle : ℤ → RosterValue → RosterValue
without_idle now r = record r { places = map (unless_idle now) r.places }

-- ---- the slot of a user

abbrev pub was_given_to : List ℕ → SlotValue → Bool
was_given_to user slot = option_map_or (λ last. bytes_eq last user) slot.user false

abbrev pub is_unused : SlotValue → Bool
is_unused slot = is_none slot.user

abbrev pub is_in : ℕ → Option SessionValue → Bool
is_in account None = false
is_in account (Some s) = s.account == account

abbrev pub has_no_session : List (Option SessionValue) → ℕ → Bool
has_no_session places account = not (list_any (is_in account) places)

-- the slot that the user had last, or else the lowest that was never used, or else the lowest without live sessions
unfoldable pub slot_of : List ℕ → RosterValue → Option ℕ
slot_of user r =
    option_or (position (was_given_to user) r.slots)
    (option_or (position is_unused r.slots)
    (position (has_no_session r.places) (range_with_len 0 (length r.slots))))

-- ---- why none is given

abbrev pub live : RosterValue → ℕ
live r = count_by is_some r.places

abbrev pub live_of : List ℕ → RosterValue → ℕ
live_of user r = count_by (is_of user) r.places

abbrev pub no_slot : ℕ → Option ℕ → Option EnterFault
no_slot live None = Some (faults.NoSlot live)
no_slot live (Some slot) = None

-- the first of the faults, if there is one
unfoldable pub fault_of : List ℕ → RosterValue → Option EnterFault
fault_of user r =
    if live r == place_count then Some (faults.Full (live r))
    else (if nat_le user_limit (live_of user r) then Some (faults.AccountFull (live_of user r))
    else no_slot (live r) (slot_of user r))

-- a fault other than want of memory
abbrev pub IsRefusal : EnterFault → Type 0
IsRefusal faults.Memory = ⊥
IsRefusal fault = Unit {0}

-- ---- the new session

abbrev pub given_to : List ℕ → SlotValue → SlotValue
given_to user slot = record slot { user = Some user }

-- the session of a slot is put into a place, and the slot is the user's
pub record IsAdmitted (user token key : List ℕ) (now : ℤ) (place : ℕ) (old new : RosterValue) : Type 0 where
  pub account : ℕ
  pub slot : SlotValue
  pub account_is : slot_of user old ≡ Some account
  pub slot_is : slice_get old.slots account ≡ Some slot
  pub place_is : position is_none old.places ≡ Some place
  pub places : new.places ≡ slice_set old.places place (Some (record { account = account; user = user; token = token; key = key; last = now; pass = slot.pass }))
  pub slots : new.slots ≡ slice_set old.slots account (given_to user slot)

-- a user enters into the lowest free place, or the first fault keeps it out. Without memory nothing changes
abbrev pub Enters : List ℕ → List ℕ → List ℕ → ℤ → RosterValue → RosterValue → Result ℕ EnterFault → Type 0
Enters user token key now old new (Ok place) = (fault_of user (without_idle now old) ≡ None) × IsAdmitted user token key now place (without_idle now old) new
Enters user token key now old new (Err (faults.Full live)) = (fault_of user (without_idle now old) ≡ Some (faults.Full live)) × (new ≡ without_idle now old)
Enters user token key now old new (Err (faults.AccountFull live)) = (fault_of user (without_idle now old) ≡ Some (faults.AccountFull live)) × (new ≡ without_idle now old)
Enters user token key now old new (Err (faults.NoSlot live)) = (fault_of user (without_idle now old) ≡ Some (faults.NoSlot live)) × (new ≡ without_idle now old)
Enters user token key now old new (Err faults.Memory) = new ≡ old
