-- How units are taken from the front of what was heard.
use Rattle.std.specs.Prelude.{◌≡◌, ℕ, ◌+◌, ◌<◌, Bool, true, false, List, [], length, Option, Some, None, Result, Ok, Err}
use Rattle.imap_grammar.specs.Response.{ResponseData}
use Rattle.mail_talk.specs.declared.phase.Phase.TheVariants as phase
use Rattle.mail_talk.specs.declared.unit.Taken.{Taken}
use Rattle.mail_talk.specs.declared.unit.Taken.TheVariants.{Response, Incomplete, Damage}
use Rattle.mail_talk.specs.States.{ToldState, with_phase, heard}
use Rattle.mail_talk.specs.Units.{TalkState, drained}

-- what a unit tells, if it is a response
abbrev pub unit_told : Option ResponseData → ℕ → ToldState → ToldState
unit_told None at t = with_phase phase.Damaged t
unit_told (Some r) at t = heard r at t

abbrev pub state_at : ToldState → List ℕ → ℕ → ℕ → TalkState
state_at t rest at from = record { told = t; rest = rest; at = at; from = from }

-- a unit is taken: what is left to take is the same
abbrev pub TakesUnit : {E : Type 0} → ToldState → List ℕ → ℕ → Result Taken E → ToldState → List ℕ → Type 0
TakesUnit old before at (Ok (Response len)) new after = ((from : ℕ) → drained (state_at old before at from) ≡ drained (state_at new after (at + len) from)) × (length before ≡ len + length after) × (0 < len)
TakesUnit old before at (Ok Incomplete) new after = ((from : ℕ) → drained (state_at old before at from) ≡ state_at new after at from) × (after ≡ before)
TakesUnit old before at (Ok Damage) new after = (from : ℕ) → drained (state_at old before at from) ≡ state_at new [] at from
TakesUnit old before at (Err e) new after = Unit {0}

-- the next unit is taken, or nothing is left to take
abbrev pub TakesNext : {E : Type 0} → TalkState → Result Bool E → TalkState → Type 0
TakesNext old (Ok true) new = (drained old ≡ drained new) × (length new.rest < length old.rest)
TakesNext old (Ok false) new = drained old ≡ new
TakesNext old (Err e) new = Unit {0}
