-- Bytes that are heard one after another.
use Rattle.std.proofs.Common.{◌≡◌, ℕ, ◌+◌, ◌≤◌, ◌<◌, List, [], ◌∷◌, ◌++◌, length, refl, sym, ap, ◌∙◌, true, false, arith, append-nil, append_assoc, inl, inr, drop, take, get_or}
use Rattle.std.specs.Prelude.{nat_le, ◌==◌, ◌&&◌}
use Rattle.std.proofs.lemmas.Bool.{cases_Bool}
use Rattle.std.proofs.lemmas.List.{drop_more, drop_all, length-take-le}
use Rattle.submission.specs.Hearings.{unread}
use Rattle.submission.specs.Replies.{Hearing, Reading, hear, is_awaited, is_awaiting, read, ends_in_return, reply_limit, begun, place_after, next_reply}

-- after a whole or damaged reply all bytes are kept
pub hear_late : (r : Reading) (rest bytes : List ℕ) → is_awaited r.verdict ≡ false → hear (record { reading = r; rest = rest }) bytes ≡ record { reading = r; rest = rest ++ bytes }
hear_late r rest [] late = ap (λ (l : List ℕ). record { reading = r; rest = l }) (sym (append-nil rest))
hear_late r rest (b ∷ bytes) late = rw late (hear_late r (rest ++ b ∷ []) bytes late ∙ ap (λ (l : List ℕ). record { reading = r; rest = l }) (append_assoc rest (b ∷ []) bytes))

-- a byte of a reply that is awaited
pub hear_one : (r : Reading) (b : ℕ) (bytes : List ℕ) → is_awaited r.verdict ≡ true → hear (record { reading = r; rest = [] }) (b ∷ bytes) ≡ hear (record { reading = read r b; rest = [] }) bytes
hear_one r b bytes awaited = rw awaited refl

-- a reply that stays awaited grows by the byte
pub read_grows : (r : Reading) (b : ℕ) → is_awaited (read r b).verdict ≡ true → (read r b).size ≡ r.size + 1
unfolding read
read_grows r b = elim (cases_Bool (nat_le reply_limit r.size)) [
  | inl full ↦ rw full (λ e. absurd (cc))
  | inr room ↦ rw room (elim (cases_Bool (b == 10 && ends_in_return r.line)) [
    | inl ends ↦ rw ends (λ e. refl)
    | inr goes ↦ rw goes (λ e. refl)
  ])
]

-- a byte of some that are read by their places
pub hear_step : (r more : Reading) (bytes : List ℕ) (i d : ℕ) → i < length bytes → is_awaited r.verdict ≡ true → more ≡ read r (get_or bytes i d)
    → hear (record { reading = r; rest = [] }) (drop i bytes) ≡ hear (record { reading = more; rest = [] }) (drop (i + 1) bytes)
hear_step r more bytes i d within awaited is =
    ap (hear (record { reading = r; rest = [] })) (drop_more bytes i d within) ∙ hear_one r (get_or bytes i d) (drop (i + 1) bytes) awaited
    ∙ ap (λ (x : Reading). hear (record { reading = x; rest = [] }) (drop (i + 1) bytes)) (sym is)

pub grows_step : (r more : Reading) (b size from at : ℕ) → more ≡ read r b → (is_awaited r.verdict ≡ true → from + r.size ≡ at + size) → is_awaited r.verdict ≡ true → is_awaited more.verdict ≡ true → from + more.size ≡ at + 1 + size
grows_step r more b size from at is before awaited after =
    let grown = read_grows r b (ap (λ (x : Reading). is_awaited x.verdict) (sym is) ∙ after) in
    let was = before awaited in
    let same : more.size ≡ (read r b).size = ap (λ (x : Reading). x.size) is in
    omega (arith, grown, was, same)

-- where the reading of a reply ends
pub hear_end : (r : Reading) (bytes : List ℕ) → (is_awaited r.verdict ≡ true → bytes ≡ []) → hear (record { reading = r; rest = [] }) bytes ≡ record { reading = r; rest = bytes }
hear_end r bytes all = elim (cases_Bool (is_awaited r.verdict)) [
  | inl awaited ↦ let none = all awaited in rw none refl
  | inr late ↦ hear_late r [] bytes late
]

-- ---- parts of a room

unread_none : (room : List ℕ) (from to : ℕ) → to ≤ length room → from ≡ to → unread room from to ≡ []
unread_none room from to within same = let size = length-take-le to room within in drop_all from (take to room) (omega (arith, same, size))

-- the next reply is read of what was received
pub next_read : (h : Hearing) (old begin new : Reading) (room : List ℕ) (from to at : ℕ) → record { reading = old; rest = unread room from to } ≡ h → begin ≡ begun (place_after old)
    → hear (record { reading = begin; rest = [] }) (unread room from to) ≡ record { reading = new; rest = unread room at to }
    → record { reading = new; rest = unread room at to } ≡ next_reply h
next_read h old begin new room from to at is begins reads =
    sym reads ∙ ap (λ (r : Reading). hear (record { reading = r; rest = [] }) (unread room from to)) begins ∙ ap next_reply is

-- a piece is read that is received while a reply is awaited
pub piece_read : (h : Hearing) (old new : Reading) (before room : List ℕ) (from to count at : ℕ) → record { reading = old; rest = unread before from to } ≡ h → to ≤ length before → (is_awaited old.verdict ≡ true → from ≡ to) → is_awaiting h ≡ true
    → hear (record { reading = old; rest = [] }) (unread room 0 count) ≡ record { reading = new; rest = unread room at count }
    → record { reading = new; rest = unread room at count } ≡ hear h (take count room)
piece_read h old new before room from to count at is within same awaiting reads =
    let awaited : is_awaited old.verdict ≡ true = ap is_awaiting is ∙ awaiting in
    sym reads ∙ ap (λ (l : List ℕ). hear (record { reading = old; rest = l }) (take count room)) (sym (unread_none before from to within (same awaited))) ∙ ap (λ (x : Hearing). hear x (take count room)) is
