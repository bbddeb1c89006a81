-- What the parts of a submission return, in the terms of its definition.
use Rattle.std.specs.Prelude.{◌≡◌, ℕ, ◌<◌, ◌≤◌, List, length, Result, Ok, Err, ⊤}
use Rattle.account_pictures.specs.declared.talk.Piece.{Piece}
use Rattle.mail_io.specs.Causes.{Rose}
use Rattle.submission.specs.declared.fault.SubmitFault.{SubmitFault}
use Rattle.submission.specs.declared.fault.Stop.{Stop}
use Rattle.submission.specs.declared.fault.Stop.TheVariants.{Refused, Damaged, Link, Doubt}
use Rattle.submission.specs.declared.steps.Opening.{Opening}
use Rattle.submission.specs.declared.steps.Opening.TheVariants.{Dial, Say}
use Rattle.submission.specs.declared.steps.Step.{Step}
use Rattle.submission.specs.Replies.{Hearing}
use Rattle.submission.specs.Submits.{Ending, replied, lost, fault_seen, IsExchange, outcome_of}

abbrev pub ending_seen : {E : Type 0} → Result (Unit {0}) E → Hearing → Ending
ending_seen (Ok done) h = replied h
ending_seen (Err e) h = lost

abbrev pub followed : Result (Unit {0}) Stop → Hearing → Result Hearing SubmitFault
followed (Ok done) h = Ok h
followed (Err stop) h = Err (fault_seen stop h)

abbrev pub finished : Result (Unit {0}) Stop → Hearing → Result (Unit {0}) SubmitFault
finished (Ok done) h = Ok tt
finished (Err stop) h = Err (fault_seen stop h)

-- a line that is said has bytes
abbrev pub IsSayable : Opening → Type 0
IsSayable Dial = ⊤
IsSayable (Say line) = 0 < length line

-- one step, and its outcome
abbrev pub StepsTo : Step → Hearing → List Piece → Result Hearing SubmitFault → Type 0
StepsTo step h pieces outcome = (ending : Ending) × IsExchange step.opening h pieces ending × (outcome ≡ outcome_of step.wanted ending)

-- whether the count of faults rose
abbrev pub IsStopCaused : ℕ → ℕ → Result (Unit {0}) Stop → Type 0
IsStopCaused before now (Ok done) = now ≡ before
IsStopCaused before now (Err (Refused code)) = now ≡ before
IsStopCaused before now (Err Damaged) = now ≡ before
IsStopCaused before now (Err Link) = Rose before now
IsStopCaused before now (Err Doubt) = before ≤ now

-- the same where QUIT was said
abbrev pub IsEndCaused : ℕ → ℕ → Result (Unit {0}) Stop → Type 0
IsEndCaused before now (Ok done) = before ≤ now
IsEndCaused before now (Err (Refused code)) = now ≡ before
IsEndCaused before now (Err Damaged) = now ≡ before
IsEndCaused before now (Err Link) = Rose before now
IsEndCaused before now (Err Doubt) = before ≤ now
