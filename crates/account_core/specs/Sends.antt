-- What the sending of a form does to an account: what is looked up first, the connection that is tried, the submission, and the copy. Each
-- of them may end it.
use Rattle.std.specs.Prelude.{◌≡◌, ℤ, ℕ, List, [], Option, Some, None, Result, Ok, Err, IfOk, IfSome, OnOk}
use Rattle.site_asks.specs.declared.Draft.{Draft}
use Rattle.site_asks.specs.declared.asks.Ask.{Ask}
use Rattle.record_io.specs.Keepers.{IfTold}
use Rattle.record_io.specs.Records.{identities_of, state_of}
use Rattle.account_script.specs.Asks.{copy_steps, script_with}
use Rattle.account_script.specs.declared.steps.Credentials.{Credentials}
use Rattle.account_turns.specs.declared.endings.Ending.{Ending}
use Rattle.account_turns.specs.declared.endings.Ending.TheVariants.{Done, Stopped, Failed}
use Rattle.account_turns.specs.Exchanges.{IsCausedBy}
use Rattle.account_mail.specs.Sides.{SideState}
use Rattle.account_mail.specs.Turned as mail
use Rattle.account_sends.specs.declared.faults.SendFault.{SendFault}
use Rattle.account_sends.specs.declared.letters.Letter.{Letter}
use Rattle.account_sends.specs.Outboxes.{OutboxState}
use Rattle.account_sends.specs.Sends.{IsKeptCaused, IsSomeLetter, Prepares, Sends, identity_for}
use Rattle.account_answers.specs.declared.answer.Answer.{Answer}
use Rattle.account_answers.specs.Answers.{IsSafeStop, answer_of_cause}
use Rattle.account_answers.specs.Sends.{IsSafeUnsent, sent_answer, unsent_answer}
use Rattle.account_core.specs.Turned.{IsSafeUnreachable, unreachable}

-- memory may run out in place of any answer
abbrev pub IsAnswer : {E : Type 0} → Answer → Result Answer E → Type 0
IsAnswer answer (Ok given) = given ≡ answer
IsAnswer answer (Err e) = Unit {0}

-- ---- the copy

-- the answer of a form that was sent, by how its copy ended
abbrev pub copied_answer : Ending → Answer
copied_answer Done = sent_answer
copied_answer (Stopped cause) = answer_of_cause cause
copied_answer Failed = unreachable

-- a browser reads the page of an answer as its tokens, and loads the style sheet alone
abbrev pub IsSafeCopied : Ending → Type 0
IsSafeCopied Done = Unit {0}
IsSafeCopied (Stopped cause) = IsSafeStop cause
IsSafeCopied Failed = IsSafeUnreachable

abbrev pub IsSafeCopy : {E F : Type 0} → Result Ending E → Result Answer F → Type 0
IsSafeCopy (Ok ending) (Ok answer) = IsSafeCopied ending
IsSafeCopy ending result = Unit {0}

abbrev pub IsCopied : {E F : Type 0} → Result Ending E → Result Answer F → Type 0
IsCopied (Ok ending) result = IsAnswer (copied_answer ending) result
IsCopied (Err e) (Ok answer) = ⊥
IsCopied (Err e) (Err f) = Unit {0}

-- the message is copied to the folder of sent messages
pub record CopyTurn {E : Type 0} (who : Credentials) (ask : Ask) (message : List ℕ) (old new : SideState) (result : Result Answer E) : Type 0 where
  pub ending : Result Ending E
  pub turn : mail.TurnedBy (script_with copy_steps old.up) (record { who = who; ask = ask; message = message }) old.up old.fresh old new ending
  pub link : IfOk ending (λ one. IsCausedBy one old.faults new.faults)
  pub answer : IsCopied ending result
  pub safe : IsSafeCopy ending result

-- ---- the submission

-- the form isn't sent, for a fault
pub record IsUnsent {E : Type 0} (form : ℕ) (fault : SendFault) (old new : SideState) (result : Result Answer E) : Type 0 where
  pub side : new ≡ old
  pub answer : IsAnswer (unsent_answer form fault) result
  pub safe : OnOk result (IsSafeUnsent form fault)

abbrev pub AfterSubmission : {E : Type 0} → Result (Unit {0}) SendFault → Credentials → Ask → Letter → SideState → SideState → Result Answer E → Type 0
AfterSubmission (Ok done) who ask letter old new result = CopyTurn who ask letter.message old new result
AfterSubmission (Err fault) who ask letter old new result = IsUnsent letter.envelope.form fault old new result

-- the letter is submitted, and if that goes well its message is copied
pub record SubmitTurn {E : Type 0} (who : Credentials) (ask : Ask) (letter : Letter) (old new : SideState) (before after : OutboxState) (result : Result Answer E) : Type 0 where
  pub sent : Result (Unit {0}) SendFault
  pub sends : Sends who.user who.password letter before after sent
  pub next : AfterSubmission sent who ask letter old new result

-- ---- the connection

-- nothing is sent, and this is answered, which is safe
pub record IsStopped {E : Type 0} (answer : Answer) (IsSafe : Type 0) (old new : SideState) (before after : OutboxState) (result : Result Answer E) : Type 0 where
  pub side : new ≡ old
  pub outbox : after ≡ before
  pub answers : IsAnswer answer result
  pub safe : OnOk result IsSafe

abbrev pub IsErr : {E : Type 0} → Result Answer E → Type 0
IsErr (Ok answer) = ⊥
IsErr (Err e) = Unit {0}

pub record IsBroken {E : Type 0} (old new : SideState) (before after : OutboxState) (result : Result Answer E) : Type 0 where
  pub side : new ≡ old
  pub outbox : after ≡ before
  pub err : IsErr result

abbrev pub AfterTrial : {E F : Type 0} → Result Ending F → Credentials → Ask → Letter → SideState → SideState → OutboxState → OutboxState → Result Answer E → Type 0
AfterTrial (Ok Done) who ask letter old new before after result = SubmitTurn who ask letter old new before after result
AfterTrial (Ok (Stopped cause)) who ask letter old new before after result = IsStopped (answer_of_cause cause) (IsSafeStop cause) old new before after result
AfterTrial (Ok Failed) who ask letter old new before after result = IsStopped unreachable IsSafeUnreachable old new before after result
AfterTrial (Err e) who ask letter old new before after result = IsBroken old new before after result

-- the connection to the mail server is tried by a script of the ask, and if that comes to its end the letter is submitted
pub record TryTurn {E : Type 0} (who : Credentials) (ask : Ask) (letter : Letter) (old new : SideState) (before after : OutboxState) (result : Result Answer E) : Type 0 where
  pub side : SideState
  pub ending : Result Ending E
  pub turn : mail.Turned (record { who = who; ask = ask; message = [] }) old.up old.fresh old side ending
  pub link : IfOk ending (λ one. IsCausedBy one old.faults side.faults)
  pub next : AfterTrial ending who ask letter side new before after result

-- ---- all of it

abbrev pub AfterLookup : {E : Type 0} → Result (Option Letter) SendFault → Credentials → Ask → Draft → SideState → SideState → OutboxState → OutboxState → Result Answer E → Type 0
AfterLookup (Ok None) who ask draft old new before after result = IsStopped sent_answer (Unit {0}) old new before after result
AfterLookup (Ok (Some letter)) who ask draft old new before after result = TryTurn who ask letter old new before after result
AfterLookup (Err fault) who ask draft old new before after result = IsStopped (unsent_answer draft.form fault) (IsSafeUnsent draft.form fault) old new before after result

-- A form is looked up in the records; nothing else changes.
pub record LooksUp (who : Credentials) (domain : List ℕ) (draft : Draft) (moment : ℤ) (before after : OutboxState) (found : Result (Option Letter) SendFault) : Type 0 where
  pub told : IfTold before.records before.adopted (λ told account. Prepares (state_of account draft.form told) draft (identity_for draft.identity (identities_of account told) who.user domain) moment found)
  pub letter : IfOk found (λ one. IfSome one (λ letter. IsSomeLetter draft moment letter))
  pub keeps : after ≡ record before { keeper_faults = after.keeper_faults }
  pub cause : IsKeptCaused found before.keeper_faults after.keeper_faults

-- If a form was sent, nothing is said. Else its letter is written, the connection to the mail server is tried, and the letter is submitted.
pub record SendTurn {E : Type 0} (who : Credentials) (domain : List ℕ) (ask : Ask) (draft : Draft) (moment : ℤ) (old new : SideState) (before after : OutboxState) (result : Result Answer E) : Type 0 where
  pub found : Result (Option Letter) SendFault
  pub outbox : OutboxState
  pub looks : LooksUp who domain draft moment before outbox found
  pub next : AfterLookup found who ask draft old new outbox after result
