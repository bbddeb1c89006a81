-- The place in a unit, byte after byte.
use Rattle.std.proofs.Common.{◌≡◌, ℕ, zero, suc, ◌+◌, ◌-◌, ◌<◌, ◌≤◌, Bool, true, false, ◌==◌, List, [], ◌∷◌, ◌++◌, length, get_or, take, refl, sym, ap, ◌∙◌, append_assoc, arith, inl, inr}
use Rattle.std.specs.List.{position_or_len}
use Rattle.std.proofs.lemmas.Bool.{cases_Bool}
use Rattle.std.proofs.lemmas.List.{take_more, append-nil}
use Rattle.imap_framing.specs.Units.{FrameState, step, frame_state_from, frame_state, octets_left, IsUnit}
use Rattle.imap_framing.specs.Units.FrameState.{Line, TooLong, Past}

pub frame_state_from-append : (p : FrameState) (xs ys : List ℕ) → frame_state_from p (xs ++ ys) ≡ frame_state_from (frame_state_from p xs) ys
unfolding frame_state_from
frame_state_from-append p [] ys = refl
frame_state_from-append p (x ∷ xs) ys = frame_state_from-append (step p x) xs ys

pub frame_state-append : (xs ys : List ℕ) → frame_state (xs ++ ys) ≡ frame_state_from (frame_state xs) ys
frame_state-append xs ys = frame_state_from-append (Line true []) xs ys

pub too_long_on : (xs : List ℕ) → frame_state_from TooLong xs ≡ TooLong
unfolding frame_state_from step
too_long_on [] = refl
too_long_on (x ∷ xs) = too_long_on xs

pub past_on : (xs : List ℕ) → frame_state_from Past xs ≡ Past
unfolding frame_state_from step
past_on [] = refl
past_on (x ∷ xs) = past_on xs

-- octets_left that are all in a literal
pub octets_on : (n : ℕ) (xs : List ℕ) → length xs ≤ n → frame_state_from (octets_left n) xs ≡ octets_left (n - length xs)
unfolding frame_state_from step
octets_on n [] h = ap octets_left (omega arith)
octets_on zero (x ∷ xs) h = absurd (omega arith)
octets_on (suc n) (x ∷ xs) h =
    let less : length xs ≤ n = omega arith in
    let same : n - length xs ≡ suc n - length (x ∷ xs) = omega arith in
    octets_on n xs less ∙ ap octets_left same

take_with : (n c : ℕ) (bytes : List ℕ) → take (1 + n) (c ∷ bytes) ≡ c ∷ take n bytes
take_with n c bytes = let same : 1 + n ≡ suc n = omega arith in rw same refl

abbrev pub is_feed : ℕ → Bool
is_feed c = c == 10

pub byte_on : (first : Bool) (line : List ℕ) (c : ℕ) → is_feed c ≡ false → step (Line first line) c ≡ Line first (line ++ c ∷ [])
unfolding step
byte_on first line c test = rw test refl

-- bytes before the next LF are all in the line
pub line_on : (first : Bool) (line bytes : List ℕ) → frame_state_from (Line first line) (take (position_or_len is_feed bytes) bytes) ≡ Line first (line ++ take (position_or_len is_feed bytes) bytes)
unfolding frame_state_from
line_on first line [] = ap (Line first) (sym (append-nil line))
line_on first line (c ∷ bytes) = elim (cases_Bool (is_feed c)) [
  | inl test ↦ rw test (ap (Line first) (sym (append-nil line)))
  | inr test ↦
      let before : List ℕ = take (position_or_len is_feed bytes) bytes in
      rw (test, take_with (position_or_len is_feed bytes) c bytes)
      (ap (λ (p : FrameState). frame_state_from p before) (byte_on first line c test) ∙ line_on first (line ++ c ∷ []) bytes ∙ ap (Line first) (append_assoc line (c ∷ []) before))
]

-- an LF after a line
pub feed_on : (unit : List ℕ) (at : ℕ) (first : Bool) (line : List ℕ) → at < length unit → get_or unit at 0 ≡ 10 → frame_state (take at unit) ≡ Line first line → frame_state (take (at + 1) unit) ≡ step (Line first line) 10
unfolding frame_state_from
feed_on unit at first line lt feed here =
    rw (take_more unit at 0 lt) (frame_state-append (take at unit) (get_or unit at 0 ∷ []) ∙ ap (λ (p : FrameState). step p (get_or unit at 0)) here ∙ ap (λ (c : ℕ). step (Line first line) c) feed)

-- no unit is a proper prefix of another
pub no_longer : (xs : List ℕ) (c : ℕ) (ys : List ℕ) → IsUnit xs → frame_state (xs ++ c ∷ ys) ≡ Past
unfolding frame_state_from step
no_longer xs c ys unit = frame_state-append xs (c ∷ ys) ∙ ap (λ (p : FrameState). frame_state_from p (c ∷ ys)) unit ∙ past_on ys
