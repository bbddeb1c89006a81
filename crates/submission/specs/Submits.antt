-- How a message is submitted: what the talk of the link grows by, and what the answer then is.
use Rattle.std.specs.Prelude.{◌≡◌, ℕ, ◌<◌, ◌≤◌, ◌⊎◌, Bool, true, false, List, [], ◌∷◌, ◌++◌, length, take, Option, Some, None, Result, Ok, Err, ⊤}
use Rattle.account_pictures.specs.declared.talk.Piece.{Piece}
use Rattle.account_pictures.specs.declared.talk.Piece.TheVariants.{Dialled, Said, Heard}
use Rattle.mail_io.specs.Causes.{Rose}
use Rattle.submission.specs.declared.fault.SubmitFault.{SubmitFault}
use Rattle.submission.specs.declared.fault.SubmitFault.TheVariants as fault
use Rattle.submission.specs.declared.replies.Verdict.{Verdict}
use Rattle.submission.specs.declared.replies.Verdict.TheVariants.{Awaited, Whole, Wrong}
use Rattle.submission.specs.declared.steps.Opening.{Opening}
use Rattle.submission.specs.declared.steps.Opening.TheVariants.{Dial, Say}
use Rattle.submission.specs.declared.steps.Step.{Step}
use Rattle.submission.specs.declared.steps.Wanted.{Wanted}
use Rattle.submission.specs.declared.steps.Wanted.TheVariants.{Done}
use Rattle.submission.specs.declared.fault.Stop.{Stop}
use Rattle.submission.specs.declared.fault.Stop.TheVariants.{Refused, Damaged, Link, Doubt}
use Rattle.submission.specs.Replies.{Hearing, text_of, hear, is_awaiting, dialled, next_reply}
use Rattle.submission.specs.Script.{is_wanted, dot_line, quit_line}

-- ---- one reply

-- pieces were heard, each while a reply was awaited
abbrev pub HearsOut : Hearing → List Piece → Hearing → Type 0
HearsOut h [] after = after ≡ h
HearsOut h (Heard bytes ∷ pieces) after = (is_awaiting h ≡ true) × HearsOut (hear h bytes) pieces after
HearsOut h (piece ∷ pieces) after = ⊥

-- how an exchange ended: with a reply, or with a fault of the link
pub data Ending : Type 0 where
  replied : (after : Hearing) → Ending
  lost : Ending

-- what may be left of bytes of which the sending failed: a proper prefix, which is recorded at most as a piece of no bytes
abbrev pub IsCutShort : List ℕ → List Piece → Type 0
IsCutShort bytes [] = ⊤
IsCutShort bytes (Said front ∷ []) = (n : ℕ) × (n < length bytes) × (front ≡ take n bytes)
IsCutShort bytes pieces = ⊥

-- pieces were heard until the reply was there, or until the link failed
abbrev pub Hears : Hearing → List Piece → Ending → Type 0
Hears h pieces (replied after) = HearsOut h pieces after × (is_awaiting after ≡ false)
Hears h pieces lost = (after : Hearing) × HearsOut h pieces after × (is_awaiting after ≡ true)

-- a step is begun: the link is dialled, or a line is said
abbrev pub opens : Opening → Piece
opens Dial = Dialled false
opens (Say line) = Said line

abbrev pub hearing_after : Opening → Hearing → Hearing
hearing_after Dial h = dialled
hearing_after (Say line) h = next_reply h

abbrev pub IsUnopened : Opening → List Piece → Type 0
IsUnopened Dial pieces = pieces ≡ []
IsUnopened (Say line) pieces = IsCutShort line pieces

-- a step was begun, and its reply was heard
pub record IsExchanged (opening : Opening) (h : Hearing) (pieces : List Piece) (ending : Ending) : Type 0 where
  pub heard : List Piece
  pub begins : pieces ≡ opens opening ∷ heard
  pub hears : Hears (hearing_after opening h) heard ending

-- a step was begun in vain
abbrev pub IsExchange : Opening → Hearing → List Piece → Ending → Type 0
IsExchange opening h pieces (replied after) = IsExchanged opening h pieces (replied after)
IsExchange opening h pieces lost = IsUnopened opening pieces ⊎ IsExchanged opening h pieces lost

-- ---- steps

-- why the steps end before the last
abbrev pub fault_seen : Stop → Hearing → SubmitFault
fault_seen (Refused code) h = fault.Refused code (text_of h.reading.line)
fault_seen Damaged h = fault.Damaged h.reading.at
fault_seen Link h = fault.Link
fault_seen Doubt h = fault.Doubt

abbrev pub wanted_or_refused : Bool → ℕ → Hearing → Result Hearing SubmitFault
wanted_or_refused true code h = Ok h
wanted_or_refused false code h = Err (fault_seen (Refused code) h)

abbrev pub judged : Verdict → Wanted → Hearing → Result Hearing SubmitFault
judged Awaited wanted h = Err fault.Link
judged (Whole code) wanted h = wanted_or_refused (is_wanted wanted code) code h
judged Wrong wanted h = Err (fault_seen Damaged h)

-- what an exchange means for a step: what was heard, with which the next step begins, or a fault
abbrev pub outcome_of : Wanted → Ending → Result Hearing SubmitFault
outcome_of wanted (replied h) = judged h.reading.verdict wanted h
outcome_of wanted lost = Err fault.Link

-- nothing comes after a fault
abbrev pub onward : {R : Type 0} → Result Hearing SubmitFault → (Hearing → List Piece → Result R SubmitFault → Type 0) → List Piece → Result R SubmitFault → Type 0
onward (Ok h) next pieces result = next h pieces result
onward (Err fault) next pieces result = (pieces ≡ []) × (result ≡ Err fault)

-- the steps were gone through in order, each once, up to the first with a fault
abbrev pub Follows : List Step → Hearing → List Piece → Result Hearing SubmitFault → Type 0
Follows [] h pieces result = (pieces ≡ []) × (result ≡ Ok h)
Follows (step ∷ steps) h pieces result =
    (first : List Piece) × (rest : List Piece) × (ending : Ending) × (pieces ≡ first ++ rest) × IsExchange step.opening h first ending
    × onward (outcome_of step.wanted ending) (λ after rest result. Follows steps after rest result) rest result

-- ---- the message

-- after the dot, damage and a fault of the link leave a doubt
abbrev pub doubted : Result Hearing SubmitFault → Result Hearing SubmitFault
doubted (Ok h) = Ok h
doubted (Err (fault.Refused code text)) = Err (fault.Refused code text)
doubted (Err other) = Err fault.Doubt

abbrev pub dot_outcome : Ending → Result Hearing SubmitFault
dot_outcome ending = doubted (outcome_of Done ending)

-- QUIT is said, and its reply isn't awaited: whether that fails changes nothing
abbrev pub Quits : Hearing → List Piece → Result (Unit {0}) SubmitFault → Type 0
Quits h pieces result = (pieces ≡ Said quit_line ∷ [] ⊎ IsCutShort quit_line pieces) × (result ≡ Ok tt)

-- the lines of the message were said, and then the dot in a piece of its own
abbrev pub EndsMessage : Hearing → List Piece → Result (Unit {0}) SubmitFault → Type 0
EndsMessage h pieces result =
    (first : List Piece) × (rest : List Piece) × (ending : Ending) × (pieces ≡ first ++ rest) × IsExchange (Say dot_line) h first ending
    × onward (dot_outcome ending) Quits rest result

abbrev pub Delivers : List ℕ → Hearing → List Piece → Result (Unit {0}) SubmitFault → Type 0
Delivers body h pieces result =
    (IsCutShort body pieces × (result ≡ Err fault.Link)) ⊎ ((rest : List Piece) × (pieces ≡ Said body ∷ rest) × EndsMessage h rest result)

-- a message was submitted, or not
abbrev pub Submits : List Step → List ℕ → List Piece → Result (Unit {0}) SubmitFault → Type 0
Submits steps body pieces result =
    (first : List Piece) × (rest : List Piece) × (followed : Result Hearing SubmitFault) × (pieces ≡ first ++ rest) × Follows steps dialled first followed
    × onward followed (Delivers body) rest result

-- memory runs out only before anything is said
abbrev pub SubmitsOrNothing : List Step → List ℕ → List Piece → Result (Unit {0}) SubmitFault → Type 0
SubmitsOrNothing steps body pieces (Err fault.Memory) = pieces ≡ []
SubmitsOrNothing steps body pieces result = Submits steps body pieces result

-- ---- what is told

-- a talk that is told grows by pieces that have a property
abbrev pub GrowsBy : Option (List Piece) → Option (List Piece) → (List Piece → Type 0) → Type 0
GrowsBy None new P = ⊤
GrowsBy (Some old) None P = ⊥
GrowsBy (Some old) (Some new) P = (pieces : List Piece) × (new ≡ old ++ pieces) × P pieces

-- Whether the count of faults rose. After `Ok` and `Doubt` it may have: by QUIT, and by what came after the dot.
abbrev pub IsCaused : ℕ → ℕ → Result (Unit {0}) SubmitFault → Type 0
IsCaused before now (Ok done) = before ≤ now
IsCaused before now (Err (fault.Refused code text)) = now ≡ before
IsCaused before now (Err (fault.Damaged at)) = now ≡ before
IsCaused before now (Err fault.Link) = Rose before now
IsCaused before now (Err fault.Doubt) = before ≤ now
IsCaused before now (Err fault.Memory) = now ≡ before
