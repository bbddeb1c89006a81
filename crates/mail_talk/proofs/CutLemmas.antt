-- Bytes that are heard in two pieces tell what they tell in one.
use Rattle.std.proofs.Common.{◌≡◌, ℕ, Bool, true, false, cond, Option, Some, None, List, [], ◌∷◌, ◌++◌, length, refl, sym, ap, ◌∙◌, subst, append_assoc, inl, inr}
use Rattle.std.specs.List.{fold}
use Rattle.std.proofs.lemmas.Bool.{cases_Bool}
use Rattle.account_pictures.specs.declared.talk.Piece.{Piece}
use Rattle.account_pictures.specs.declared.talk.Piece.TheVariants.{Heard}
use Rattle.imap_framing.specs.Units.{FrameState, step, frame_state_from, frame_state, IsIncompleteState}
use Rattle.imap_framing.specs.Units.FrameState.{Line, Octets, Whole, TooLong, Past}
use Rattle.imap_framing.proofs.StateLemmas.{frame_state-append}
use Rattle.imap_grammar.specs.Response.{ResponseData, response_of}
use Rattle.imap_grammar.specs.Response.ResponseData.{Continue, Tagged, State, Capability, Enabled, Mailbox, Exists, Expunge, Fetch, Vanished, Esearch, Other}
use Rattle.mailbox_view.specs.View.{is_tag}
use Rattle.mail_talk.specs.declared.phase.Phase.{Phase}
use Rattle.mail_talk.specs.declared.phase.Phase.TheVariants as phase
use Rattle.mail_talk.specs.States.{ToldState, is_listening, is_silent, phase_heard, heard_in}
use Rattle.mail_talk.specs.Units.{TalkState, with_rest, damaged, after_unit_read, take_units, drained, after_heard}
use Rattle.mail_talk.specs.Told.{Talk, no_talk, after_piece, CutsTellTheSame}
use Rattle.mail_talk.proofs.UnitLemmas.{take_byte, take_one, take_none, rescan, take_rest, drained_closed, drained_open}

-- ---- phases

not_silent : (p : Phase) → is_listening p ≡ true → is_silent p ≡ false
not_silent phase.NotDialled is = cc
not_silent phase.Greeting is = refl
not_silent phase.Idle is = refl
not_silent phase.Request is = refl
not_silent phase.Piece is = refl
not_silent phase.Answer is = refl
not_silent phase.Damaged is = cc

chosen_sound : (own : Bool) (p : Phase) → is_silent p ≡ false → is_silent (cond own phase.Idle p) ≡ false
chosen_sound true p sound = refl
chosen_sound false p sound = sound

phase_sound : (r : ResponseData) (t : ToldState) → is_silent t.phase ≡ false → is_silent (phase_heard r t) ≡ false
phase_sound (Continue text) t sound = sound
phase_sound (Tagged tag word code text) t sound = chosen_sound (is_tag tag t.view.number) t.phase sound
phase_sound (State word code text) t sound = sound
phase_sound (Capability names) t sound = sound
phase_sound (Enabled names) t sound = sound
phase_sound (Mailbox attributes name) t sound = sound
phase_sound (Exists n) t sound = sound
phase_sound (Expunge n) t sound = sound
phase_sound (Fetch n items) t sound = sound
phase_sound (Vanished earlier uids) t sound = sound
phase_sound (Esearch tag uids) t sound = sound
phase_sound Other t sound = sound

request_sound : (r : ResponseData) (at : ℕ) (t : ToldState) → is_silent t.phase ≡ false → is_silent (heard_in phase.Request r at t).phase ≡ false
request_sound (Continue text) at t sound = refl
request_sound (Tagged tag word code text) at t sound = chosen_sound (is_tag tag t.view.number) t.phase sound
request_sound (State word code text) at t sound = sound
request_sound (Capability names) at t sound = sound
request_sound (Enabled names) at t sound = sound
request_sound (Mailbox attributes name) at t sound = sound
request_sound (Exists n) at t sound = sound
request_sound (Expunge n) at t sound = sound
request_sound (Fetch n items) at t sound = sound
request_sound (Vanished earlier uids) at t sound = sound
request_sound (Esearch tag uids) at t sound = sound
request_sound Other at t sound = sound

answer_sound : (r : ResponseData) (at : ℕ) (t : ToldState) → is_silent t.phase ≡ false → is_silent (heard_in phase.Answer r at t).phase ≡ false
answer_sound (Continue text) at t sound = sound
answer_sound (Tagged tag word code text) at t sound = chosen_sound (is_tag tag t.view.number) t.phase sound
answer_sound (State word code text) at t sound = sound
answer_sound (Capability names) at t sound = sound
answer_sound (Enabled names) at t sound = sound
answer_sound (Mailbox attributes name) at t sound = sound
answer_sound (Exists n) at t sound = sound
answer_sound (Expunge n) at t sound = sound
answer_sound (Fetch n items) at t sound = sound
answer_sound (Vanished earlier uids) at t sound = sound
answer_sound (Esearch tag uids) at t sound = sound
answer_sound Other at t sound = sound

greeting_sound : (r : ResponseData) (at : ℕ) (t : ToldState) → is_silent t.phase ≡ false → is_silent (heard_in phase.Greeting r at t).phase ≡ false
greeting_sound (Continue text) at t sound = sound
greeting_sound (Tagged tag word code text) at t sound = sound
greeting_sound (State word code text) at t sound = refl
greeting_sound (Capability names) at t sound = refl
greeting_sound (Enabled names) at t sound = refl
greeting_sound (Mailbox attributes name) at t sound = refl
greeting_sound (Exists n) at t sound = refl
greeting_sound (Expunge n) at t sound = refl
greeting_sound (Fetch n items) at t sound = refl
greeting_sound (Vanished earlier uids) at t sound = refl
greeting_sound (Esearch tag uids) at t sound = refl
greeting_sound Other at t sound = refl

heard_sound : (p : Phase) (r : ResponseData) (at : ℕ) (t : ToldState) → is_silent t.phase ≡ false → is_silent (heard_in p r at t).phase ≡ false
heard_sound phase.NotDialled r at t sound = sound
heard_sound phase.Greeting r at t sound = greeting_sound r at t sound
heard_sound phase.Idle r at t sound = sound
heard_sound phase.Request r at t sound = request_sound r at t sound
heard_sound phase.Piece r at t sound = sound
heard_sound phase.Answer r at t sound = answer_sound r at t sound
heard_sound phase.Damaged r at t sound = sound

-- ---- more bytes

heard_silent : (bytes : List ℕ) (s : TalkState) → is_silent s.told.phase ≡ true → after_heard bytes s ≡ s
unfolding after_heard
heard_silent bytes s silent = rw silent refl

heard_awake : (bytes : List ℕ) (s : TalkState) → is_silent s.told.phase ≡ false → after_heard bytes s ≡ drained (with_rest (s.rest ++ bytes) s)
unfolding after_heard
heard_awake bytes s awake = rw awake refl

heard_closed : (bytes : List ℕ) (s : TalkState) → is_silent s.told.phase ≡ false → is_listening s.told.phase ≡ false → after_heard bytes s ≡ with_rest (s.rest ++ bytes) s
heard_closed bytes s awake closed = heard_awake bytes s awake ∙ drained_closed (with_rest (s.rest ++ bytes) s) closed

heard_open : (bytes : List ℕ) (s : TalkState) → is_listening s.told.phase ≡ true → after_heard bytes s ≡ take_units [] (Line true []) (s.rest ++ bytes) s
heard_open bytes s listening =
    heard_awake bytes s (not_silent s.told.phase listening) ∙ drained_open (with_rest (s.rest ++ bytes) s) listening ∙ take_rest [] (Line true []) (s.rest ++ bytes) (s.rest ++ bytes) s

-- after a unit
abbrev unit_then : List ℕ → TalkState → TalkState
unit_then bytes t = cond (is_listening t.told.phase) (take_units [] (Line true []) bytes t) t

told_more : (t : TalkState) (x y : List ℕ) → is_silent t.told.phase ≡ false → (is_listening t.told.phase ≡ true → take_units [] (Line true []) (x ++ y) (with_rest x t) ≡ after_heard y (take_units [] (Line true []) x (with_rest x t)))
    → unit_then (x ++ y) (with_rest (x ++ y) t) ≡ after_heard y (unit_then x (with_rest x t))
told_more t x y sound later =
    elim (cases_Bool (is_listening t.told.phase)) [
      | inl listening ↦ rw listening (take_rest [] (Line true []) (x ++ y) (x ++ y) t ∙ sym (take_rest [] (Line true []) (x ++ y) x t) ∙ later listening)
      | inr closed ↦ rw closed (sym (heard_closed y (with_rest x t) sound closed))
    ]

unit_more : (o : Option ResponseData) (n : ℕ) (x y : List ℕ) (s : TalkState) → is_silent s.told.phase ≡ false
    → ((t : TalkState) → is_listening t.told.phase ≡ true → take_units [] (Line true []) (x ++ y) t ≡ after_heard y (take_units [] (Line true []) x t))
    → unit_then (x ++ y) (after_unit_read o n (with_rest (x ++ y) s)) ≡ after_heard y (unit_then x (after_unit_read o n (with_rest x s)))
unit_more None n x y s sound later = sym (heard_silent y (damaged (with_rest x s)) refl)
unit_more (Some r) n x y s sound later =
    told_more (after_unit_read (Some r) n s) x y (heard_sound s.told.phase r s.at s.told sound) (λ listening. later (with_rest x (after_unit_read (Some r) n s)) listening)

-- what is taken goes on where it stopped
abbrev GoesOn : List ℕ → FrameState → List ℕ → List ℕ → TalkState → Type 0
GoesOn begun frame x y s = take_units begun frame (x ++ y) s ≡ after_heard y (take_units begun frame x s)

byte_more : (next : FrameState) (begun : List ℕ) (c : ℕ) (x y : List ℕ) (s : TalkState) → is_listening s.told.phase ≡ true
    → (IsIncompleteState next → GoesOn (begun ++ c ∷ []) next x y s)
    → ((t : TalkState) → is_listening t.told.phase ≡ true → GoesOn [] (Line true []) x y t)
    → take_byte next begun c (x ++ y) s ≡ after_heard y (take_byte next begun c x s)
byte_more (Line first line) begun c x y s listening later anew = later tt
byte_more (Octets left) begun c x y s listening later anew = later tt
byte_more Whole begun c x y s listening later anew = unit_more (response_of (begun ++ c ∷ [])) (length (begun ++ c ∷ [])) x y s (not_silent s.told.phase listening) anew
byte_more TooLong begun c x y s listening later anew = sym (heard_silent y (damaged s) refl)
byte_more Past begun c x y s listening later anew = sym (heard_silent y (damaged s) refl)

take_more : (begun : List ℕ) (frame : FrameState) (x y : List ℕ) (s : TalkState) → is_listening s.told.phase ≡ true → frame_state begun ≡ frame → IsIncompleteState frame → GoesOn begun frame x y s
unfolding frame_state_from
take_more begun frame [] y s listening is goes =
    sym (rescan [] (Line true []) begun y s (subst IsIncompleteState (sym is) goes) ∙ ap (λ (f : FrameState). take_units begun f y s) is)
    ∙ sym (heard_open y (with_rest begun s) listening ∙ take_rest [] (Line true []) (begun ++ y) begun s)
    ∙ ap (after_heard y) (sym (take_none begun frame s))
take_more begun frame (c ∷ x) y s listening is goes =
    take_one begun frame c (x ++ y) s
    ∙ byte_more (step frame c) begun c x y s listening
    (λ g. take_more (begun ++ c ∷ []) (step frame c) x y s listening (frame_state-append begun (c ∷ []) ∙ ap (λ (f : FrameState). frame_state_from f (c ∷ [])) is) g)
    (λ t l. take_more [] (Line true []) x y t l refl tt)
    ∙ ap (after_heard y) (sym (take_one begun frame c x s))

cut_heard : (s : TalkState) (x y : List ℕ) → after_heard y (after_heard x s) ≡ after_heard (x ++ y) s
unfolding frame_state_from
cut_heard s x y =
    elim (cases_Bool (is_silent s.told.phase)) [
      | inl silent ↦ ap (after_heard y) (heard_silent x s silent) ∙ heard_silent y s silent ∙ sym (heard_silent (x ++ y) s silent)
      | inr awake ↦ elim (cases_Bool (is_listening s.told.phase)) [
        | inl listening ↦
            ap (after_heard y) (heard_open x s listening) ∙ sym (take_more [] (Line true []) (s.rest ++ x) y s listening refl tt)
            ∙ ap (λ (b : List ℕ). take_units [] (Line true []) b s) (append_assoc s.rest x y) ∙ sym (heard_open (x ++ y) s listening)
        | inr closed ↦
            ap (after_heard y) (heard_closed x s awake closed) ∙ heard_closed y (with_rest (s.rest ++ x) s) awake closed
            ∙ ap (λ (b : List ℕ). with_rest b s) (append_assoc s.rest x y) ∙ sym (heard_closed (x ++ y) s awake closed)
      ]
    ]

cut_within : (t : Talk) (before after : List Piece) (x y : List ℕ) → fold after_piece t (before ++ Heard x ∷ Heard y ∷ after) ≡ fold after_piece t (before ++ Heard (x ++ y) ∷ after)
cut_within t [] after x y = ap (λ (state : TalkState). fold after_piece (record { state = state; said = t.said }) after) (cut_heard t.state x y)
cut_within t (piece ∷ before) after x y = cut_within (after_piece t piece) before after x y

pub any_cut : CutsTellTheSame
any_cut before after x y = ap (λ (t : Talk). t.state) (cut_within no_talk before after x y)
