-- The units of what was heard are taken one after another (RFC 9051 §2.2.2).
use Rattle.std.specs.Prelude.{ℕ, ◌+◌, ◌-◌, true, List, [], ◌∷◌, ◌++◌, length, Option, Some, None, if◌then◌else◌}
use Rattle.imap_framing.specs.Units.{FrameState, step}
use Rattle.imap_framing.specs.Units.FrameState.{Line, Octets, Whole}
use Rattle.imap_grammar.specs.Response.{ResponseData, response_of}
use Rattle.mail_talk.specs.declared.phase.Phase.TheVariants as phase
use Rattle.mail_talk.specs.States.{ToldState, with_phase, is_listening, is_silent, heard}

-- what a talk comes to between two of its pieces
pub record TalkState : Type 0 where
  pub told : ToldState
  -- the bytes that were heard and are in no response yet, and their offset since the dial
  pub rest : List ℕ
  pub at : ℕ
  -- the offset at which the last command was said
  pub from : ℕ

-- the number of bytes that were heard since the last command was said, or since the dial
abbrev pub heard_count : TalkState → ℕ
heard_count s = (s.at + length s.rest) - s.from

-- the bytes of one command at which whoever listens stops
abbrev pub heard_limit : ℕ
heard_limit = 33554432

abbrev pub with_rest : List ℕ → TalkState → TalkState
with_rest rest s = record { told = s.told; rest = rest; at = s.at; from = s.from }

-- bytes that are no response: a dial tells nothing after them
abbrev pub damaged : TalkState → TalkState
damaged s = record { told = with_phase phase.Damaged s.told; rest = []; at = s.at; from = s.from }

-- a unit of n bytes
abbrev pub after_unit_read : Option ResponseData → ℕ → TalkState → TalkState
after_unit_read None n s = damaged s
after_unit_read (Some r) n s = record { told = heard r s.at s.told; rest = s.rest; at = s.at + n; from = s.from }

-- a unit, and the bytes that follow it
abbrev pub after_unit : List ℕ → List ℕ → TalkState → TalkState
after_unit unit rest s = after_unit_read (response_of unit) (length unit) (with_rest rest s)

-- by the state of a unit so far: it goes on, it is whole, or a literal of it is too long
abbrev pub by_frame : {A : Type 0} → FrameState → A → A → A → A
by_frame (Line first line) more whole long = more
by_frame (Octets left) more whole long = more
by_frame Whole more whole long = whole
by_frame frame more whole long = long

-- the units of some bytes, as long as the server is listened to. `begun` is the front of the first unit, and `frame` its state.
unfoldable pub take_units : List ℕ → FrameState → List ℕ → TalkState → TalkState
take_units begun frame [] s = with_rest begun s
take_units begun frame (c ∷ bytes) s =
    by_frame (step frame c)
    (take_units (begun ++ c ∷ []) (step frame c) bytes s)
    (if is_listening (after_unit (begun ++ c ∷ []) bytes s).told.phase then take_units [] (Line true []) bytes (after_unit (begun ++ c ∷ []) bytes s) else after_unit (begun ++ c ∷ []) bytes s)
    (damaged s)

-- the rest is taken as far as the server is listened to
unfoldable pub drained : TalkState → TalkState
drained s = if is_listening s.told.phase then take_units [] (Line true []) s.rest s else s

-- more bytes
unfoldable pub after_heard : List ℕ → TalkState → TalkState
after_heard bytes s = if is_silent s.told.phase then s else drained (with_rest (s.rest ++ bytes) s)
