-- What contracts see of sessions and of a roster, and what it may hold.
use Rattle.std.specs.Prelude.{◌≡◌, ℕ, zero, suc, ℤ, pos, ◌+ℤ◌, int_lt, ◌≤◌, ◌<◌, ◌==◌, Bool, false, not, ◌&&◌, if◌then◌else◌, List, [], ◌∷◌, length, Option, Some, None, slice_get, IfSome}
use Rattle.std.specs.List.{All, count_by, position}
use Rattle.std.specs.Str.{bytes_eq}
use Rattle.turn_desk.specs.Views.{Seen, merge_seen}

-- a session: the account's number, its user, the token of its cookie, the key of its forms, the moment of its last ask in seconds since
-- 1970, and its pass of the account's desk
pub record SessionValue : Type 0 where
  pub account : ℕ
  pub user : List ℕ
  pub token : List ℕ
  pub key : List ℕ
  pub last : ℤ
  pub pass : Seen

-- an account that users are given: the last user that had it, and a pass of its desk
pub record SlotValue : Type 0 where
  pub user : Option (List ℕ)
  pub pass : Seen

-- a roster: places, each with one session or none, and the slot of each account
pub record RosterValue : Type 0 where
  pub places : List (Option SessionValue)
  pub slots : List SlotValue

-- ---- limits

-- seconds that a session lives after its last ask
abbrev pub idle_limit : ℕ
idle_limit = 1800

-- places for sessions
abbrev pub place_count : ℕ
place_count = 128

-- live sessions of one user
abbrev pub user_limit : ℕ
user_limit = 8

-- accounts of a site
abbrev pub slot_limit : ℕ
slot_limit = 64

-- ---- live sessions

-- more than half an hour has passed since the last ask
abbrev pub is_idle : ℤ → SessionValue → Bool
is_idle now s = int_lt (s.last +ℤ pos idle_limit) now

-- a session that has the token and is live
abbrev pub has_live_token : List ℕ → ℤ → Option SessionValue → Bool
has_live_token token now None = false
has_live_token token now (Some s) = bytes_eq s.token token && not (is_idle now s)

abbrev pub has_token : List ℕ → Option SessionValue → Bool
has_token token None = false
has_token token (Some s) = bytes_eq s.token token

-- the lowest place whose session has the token and is live
unfoldable pub find : List ℕ → ℤ → RosterValue → Option ℕ
find token now r = position (has_live_token token now) r.places

-- ---- changes of one session

-- a session with what another pass of its account's desk has seen, if the token is its own
unfoldable pub kept : List ℕ → ℤ → Seen → SessionValue → SessionValue
kept token now pass s =
    if bytes_eq s.token token && s.account == pass.desk
    then record s { last = if int_lt s.last now then now else s.last; pass = merge_seen s.pass pass }
    else s

-- no session, if the token is its own
unfoldable pub ended : List ℕ → SessionValue → Option SessionValue
ended token s = if bytes_eq s.token token then None else Some s

-- the element at a place is changed, if there is one
abbrev pub map_at : {A : Type 0} → ℕ → (A → A) → List A → List A
map_at i change [] = []
map_at zero change (x ∷ xs) = change x ∷ xs
map_at (suc i) change (x ∷ xs) = x ∷ map_at i change xs

unfoldable pub changed : ℕ → (Option SessionValue → Option SessionValue) → RosterValue → RosterValue
changed place change r = record r { places = map_at place change r.places }

-- ---- what a roster may hold

abbrev pub is_of : List ℕ → Option SessionValue → Bool
is_of user None = false
is_of user (Some s) = bytes_eq s.user user

-- a session is of the last user that its account was given to
abbrev pub IsOfSlot : List SlotValue → SessionValue → Type 0
IsOfSlot slots s = IfSome (slice_get slots s.account) (λ slot. slot.user ≡ Some s.user) × (s.account < length slots)

-- 128 places, at most 8 sessions of a user, the slots of the desks from 0 on, and in each account sessions of one user
pub record IsRoster (r : RosterValue) : Type 0 where
  pub places : length r.places ≡ place_count
  pub some_slot : 1 ≤ length r.slots
  pub few_slots : length r.slots ≤ slot_limit
  pub desks : (i : ℕ) → IfSome (slice_get r.slots i) (λ slot. slot.pass.desk ≡ i)
  pub of_slots : All (λ place. IfSome place (IsOfSlot r.slots)) r.places
  pub few_of_user : (user : List ℕ) → count_by (is_of user) r.places ≤ user_limit
