-- Units are taken one after another.
use Rattle.std.proofs.Common.{◌≡◌, ℕ, true, false, cond, Option, Some, None, List, [], ◌∷◌, ◌++◌, length, refl, sym, ap, ◌∙◌, subst, append_assoc}
use Rattle.std.proofs.lemmas.List.{append-nil}
use Rattle.imap_framing.specs.Units.{FrameState, step, frame_state_from, frame_state, IsUnit, HasTooLongLiteral, IsIncomplete, IsIncompleteState}
use Rattle.imap_framing.specs.Units.FrameState.{Line, Octets, Whole, TooLong, Past}
use Rattle.imap_framing.proofs.StateLemmas.{too_long_on, past_on}
use Rattle.imap_grammar.specs.Response.{ResponseData, response_of}
use Rattle.mail_talk.specs.States.{is_listening}
use Rattle.mail_talk.specs.Units.{TalkState, with_rest, damaged, after_unit, after_unit_read, by_frame, take_units, drained}

-- what follows a whole unit
abbrev pub after_whole : List ℕ → List ℕ → TalkState → TalkState
after_whole unit rest s = cond (is_listening (after_unit unit rest s).told.phase) (take_units [] (Line true []) rest (after_unit unit rest s)) (after_unit unit rest s)

-- one byte
abbrev pub take_byte : FrameState → List ℕ → ℕ → List ℕ → TalkState → TalkState
take_byte next begun c bytes s = by_frame next (take_units (begun ++ c ∷ []) next bytes s) (after_whole (begun ++ c ∷ []) bytes s) (damaged s)

pub take_one : (begun : List ℕ) (frame : FrameState) (c : ℕ) (bytes : List ℕ) (s : TalkState) → take_units begun frame (c ∷ bytes) s ≡ take_byte (step frame c) begun c bytes s
unfolding take_units
take_one begun frame c bytes s = refl

pub take_none : (begun : List ℕ) (frame : FrameState) (s : TalkState) → take_units begun frame [] s ≡ with_rest begun s
unfolding take_units
take_none begun frame s = refl

one_more : (begun : List ℕ) (c d : ℕ) (bytes : List ℕ) → (begun ++ c ∷ []) ++ d ∷ bytes ≡ begun ++ c ∷ d ∷ bytes
one_more begun c d bytes = append_assoc begun (c ∷ []) (d ∷ bytes)

-- a whole unit is taken
whole_byte : (next : FrameState) (begun : List ℕ) (c d : ℕ) (bytes more : List ℕ) (s : TalkState) → frame_state_from next (d ∷ bytes) ≡ Whole
    → (frame_state_from next (d ∷ bytes) ≡ Whole → take_units (begun ++ c ∷ []) next (d ∷ (bytes ++ more)) s ≡ after_whole ((begun ++ c ∷ []) ++ d ∷ bytes) more s)
    → take_byte next begun c (d ∷ (bytes ++ more)) s ≡ after_whole ((begun ++ c ∷ []) ++ d ∷ bytes) more s
unfolding frame_state_from step
whole_byte (Line first line) begun c d bytes more s whole later = later whole
whole_byte (Octets left) begun c d bytes more s whole later = later whole
whole_byte Whole begun c d bytes more s whole later = absurd (let e : Past ≡ Whole = sym (past_on bytes) ∙ whole in cc)
whole_byte TooLong begun c d bytes more s whole later = absurd (let e : TooLong ≡ Whole = sym (too_long_on bytes) ∙ whole in cc)
whole_byte Past begun c d bytes more s whole later = absurd (let e : Past ≡ Whole = sym (past_on bytes) ∙ whole in cc)

take_whole : (begun : List ℕ) (frame : FrameState) (c : ℕ) (bytes more : List ℕ) (s : TalkState) → frame_state_from frame (c ∷ bytes) ≡ Whole → take_units begun frame (c ∷ (bytes ++ more)) s ≡ after_whole (begun ++ c ∷ bytes) more s
unfolding frame_state_from
take_whole begun frame c [] more s whole = take_one begun frame c more s ∙ ap (λ (next : FrameState). take_byte next begun c more s) whole
take_whole begun frame c (d ∷ bytes) more s whole =
    take_one begun frame c (d ∷ (bytes ++ more)) s ∙ whole_byte (step frame c) begun c d bytes more s whole (λ w. take_whole (begun ++ c ∷ []) (step frame c) d bytes more s w)
    ∙ ap (λ (unit : List ℕ). after_whole unit more s) (one_more begun c d bytes)

-- a literal is too long
long_byte : (next : FrameState) (begun : List ℕ) (c d : ℕ) (bytes : List ℕ) (s : TalkState) → frame_state_from next (d ∷ bytes) ≡ TooLong
    → (frame_state_from next (d ∷ bytes) ≡ TooLong → take_units (begun ++ c ∷ []) next (d ∷ bytes) s ≡ damaged s)
    → take_byte next begun c (d ∷ bytes) s ≡ damaged s
unfolding frame_state_from step
long_byte (Line first line) begun c d bytes s long later = later long
long_byte (Octets left) begun c d bytes s long later = later long
long_byte Whole begun c d bytes s long later = absurd (let e : Past ≡ TooLong = sym (past_on bytes) ∙ long in cc)
long_byte TooLong begun c d bytes s long later = refl
long_byte Past begun c d bytes s long later = refl

take_long : (begun : List ℕ) (frame : FrameState) (c : ℕ) (bytes : List ℕ) (s : TalkState) → frame_state_from frame (c ∷ bytes) ≡ TooLong → take_units begun frame (c ∷ bytes) s ≡ damaged s
unfolding frame_state_from
take_long begun frame c [] s long = take_one begun frame c [] s ∙ ap (λ (next : FrameState). take_byte next begun c [] s) long
take_long begun frame c (d ∷ bytes) s long =
    take_one begun frame c (d ∷ bytes) s ∙ long_byte (step frame c) begun c d bytes s long (λ w. take_long (begun ++ c ∷ []) (step frame c) d bytes s w)

-- a unit that goes on
closed_whole : (bytes : List ℕ) → IsIncompleteState (frame_state_from Whole bytes) → ⊥
unfolding frame_state_from step
closed_whole [] goes = goes
closed_whole (c ∷ bytes) goes = subst IsIncompleteState (past_on bytes) goes

rescan_byte : (next : FrameState) (begun : List ℕ) (c : ℕ) (x y : List ℕ) (s : TalkState) → IsIncompleteState (frame_state_from next x)
    → (IsIncompleteState (frame_state_from next x) → take_units (begun ++ c ∷ []) next (x ++ y) s ≡ take_units ((begun ++ c ∷ []) ++ x) (frame_state_from next x) y s)
    → take_byte next begun c (x ++ y) s ≡ take_units ((begun ++ c ∷ []) ++ x) (frame_state_from next x) y s
rescan_byte (Line first line) begun c x y s goes later = later goes
rescan_byte (Octets left) begun c x y s goes later = later goes
rescan_byte Whole begun c x y s goes later = absurd (closed_whole x goes)
rescan_byte TooLong begun c x y s goes later = absurd (subst IsIncompleteState (too_long_on x) goes)
rescan_byte Past begun c x y s goes later = absurd (subst IsIncompleteState (past_on x) goes)

-- bytes of a unit that goes on are as good as ones that were begun
pub rescan : (begun : List ℕ) (frame : FrameState) (x y : List ℕ) (s : TalkState) → IsIncompleteState (frame_state_from frame x) → take_units begun frame (x ++ y) s ≡ take_units (begun ++ x) (frame_state_from frame x) y s
unfolding frame_state_from
rescan begun frame [] y s goes = ap (λ (b : List ℕ). take_units b frame y s) (sym (append-nil begun))
rescan begun frame (c ∷ x) y s goes =
    take_one begun frame c (x ++ y) s ∙ rescan_byte (step frame c) begun c x y s goes (λ g. rescan (begun ++ c ∷ []) (step frame c) x y s g)
    ∙ ap (λ (b : List ℕ). take_units b (frame_state_from (step frame c) x) y s) (append_assoc begun (c ∷ []) x)

-- what is taken does not depend on the rest before
pub take_rest : (begun : List ℕ) (frame : FrameState) (bytes rest : List ℕ) (s : TalkState) → take_units begun frame bytes (with_rest rest s) ≡ take_units begun frame bytes s
unfolding take_units
take_rest begun frame [] rest s = refl
take_rest begun frame (c ∷ bytes) rest s =
    ap (λ (z : TalkState). by_frame (step frame c) z (after_whole (begun ++ c ∷ []) bytes s) (damaged s)) (take_rest (begun ++ c ∷ []) (step frame c) bytes rest s)

-- ---- the rest of a state

pub drained_closed : (s : TalkState) → is_listening s.told.phase ≡ false → drained s ≡ s
unfolding drained
drained_closed s closed = rw closed refl

pub drained_open : (s : TalkState) → is_listening s.told.phase ≡ true → drained s ≡ take_units [] (Line true []) s.rest s
unfolding drained
drained_open s listening = rw listening refl

-- what follows a unit that was taken is the rest of the new state
whole_drained : (o : Option ResponseData) (n : ℕ) (s : TalkState) → cond (is_listening (after_unit_read o n s).told.phase) (take_units [] (Line true []) s.rest (after_unit_read o n s)) (after_unit_read o n s) ≡ drained (after_unit_read o n s)
unfolding drained
whole_drained None n s = refl
whole_drained (Some r) n s = refl

unit_nonempty : (unit rest : List ℕ) (s : TalkState) → IsUnit unit → take_units [] (Line true []) (unit ++ rest) s ≡ after_whole unit rest s
unfolding frame_state_from
unit_nonempty [] rest s whole = absurd (let e : Line true [] ≡ Whole = whole in cc)
unit_nonempty (c ∷ unit) rest s whole = take_whole [] (Line true []) c unit rest s whole

-- a unit at the front of the rest
pub drained_unit : (unit rest : List ℕ) (s : TalkState) → is_listening s.told.phase ≡ true → s.rest ≡ unit ++ rest → IsUnit unit → drained s ≡ drained (after_unit unit rest s)
drained_unit unit rest s listening is whole =
    drained_open s listening ∙ ap (λ (bytes : List ℕ). take_units [] (Line true []) bytes s) is ∙ unit_nonempty unit rest s whole ∙ whole_drained (response_of unit) (length unit) (with_rest rest s)

pub drained_incomplete : (s : TalkState) → is_listening s.told.phase ≡ true → IsIncomplete s.rest → drained s ≡ s
drained_incomplete s listening goes =
    drained_open s listening ∙ ap (λ (bytes : List ℕ). take_units [] (Line true []) bytes s) (sym (append-nil s.rest)) ∙ rescan [] (Line true []) s.rest [] s goes ∙ take_none s.rest (frame_state s.rest) s

long_nonempty : (rest : List ℕ) (s : TalkState) → HasTooLongLiteral rest → take_units [] (Line true []) rest s ≡ damaged s
unfolding frame_state_from
long_nonempty [] s long = absurd (let e : Line true [] ≡ TooLong = long in cc)
long_nonempty (c ∷ rest) s long = take_long [] (Line true []) c rest s long

pub drained_long : (s : TalkState) → is_listening s.told.phase ≡ true → HasTooLongLiteral s.rest → drained s ≡ damaged s
drained_long s listening long = drained_open s listening ∙ long_nonempty s.rest s long
