-- What becomes of a form that is sent: what is looked up and written first, how it is submitted, and what is kept of it.
use Rattle.std.specs.Prelude.{◌≡◌, ℤ, ℕ, ◌≤◌, ◌==◌, Bool, if◌then◌else◌, List, [], ◌∷◌, ◌++◌, Option, Some, None, Result, Ok, Err, ⊤}
use Rattle.std.specs.Map.{lookup}
use Rattle.account_pictures.specs.declared.records.Identity.{Identity}
use Rattle.account_pictures.specs.declared.records.Records.{Records}
use Rattle.account_pictures.specs.declared.records.SendState.{SendState}
use Rattle.account_pictures.specs.declared.records.SendState.TheVariants as state
use Rattle.account_pictures.specs.declared.talk.Piece.{Piece}
use Rattle.mail_addresses.specs.Boxes.{is_address}
use Rattle.mail_io.specs.Causes.{Rose}
use Rattle.site_asks.specs.declared.Draft.{Draft}
use Rattle.compose_drafts.specs.declared.DraftFault.{DraftFault}
use Rattle.compose_drafts.specs.declared.DraftFault.TheVariants as drafts
use Rattle.compose_drafts.specs.Drafts.{FailsAs, IsSent, parties_of}
use Rattle.compose_drafts.specs.Recipients.{addresses_of}
use Rattle.record_io.specs.declared.keeper.KeepFault.{KeepFault}
use Rattle.record_io.specs.declared.keeper.KeepFault.TheVariants as keeps
use Rattle.record_io.specs.Keepers.{HasKeepCause, told_after}
use Rattle.record_io.specs.Records.{SetSend}
use Rattle.submission.specs.declared.fault.SubmitFault.{SubmitFault}
use Rattle.submission.specs.declared.fault.SubmitFault.TheVariants as posts
use Rattle.submission.specs.declared.steps.Step.{Step}
use Rattle.submission.specs.Script.{dotted, script}
use Rattle.submission.specs.Submits.{GrowsBy, IsCaused, SubmitsOrNothing}
use Rattle.account_sends.specs.declared.faults.SendFault.{SendFault}
use Rattle.account_sends.specs.declared.faults.SendFault.TheVariants as fault
use Rattle.account_sends.specs.declared.letters.Letter.{Letter}
use Rattle.account_sends.specs.Outboxes.{OutboxState}

-- ---- faults

abbrev pub draft_fault : DraftFault → SendFault
draft_fault drafts.NoRecipient = fault.NoRecipient
draft_fault (drafts.NotAddress field at) = fault.NotAddress field at
draft_fault (drafts.Long bytes) = fault.Long bytes
draft_fault drafts.Memory = fault.Memory

abbrev pub post_fault : SubmitFault → SendFault
post_fault (posts.Refused code text) = fault.Refused code text
post_fault (posts.Damaged at) = fault.Damaged at
post_fault posts.Link = fault.Unreachable
post_fault posts.Doubt = fault.InDoubt
post_fault posts.Memory = fault.Memory

abbrev pub keep_fault : KeepFault → SendFault
keep_fault keeps.Failed = fault.Unkept
keep_fault keeps.Memory = fault.Memory

-- ---- whom a draft is from

-- the address of a user who has kept none: the user's name if that is an address, else the user at the site's domain
abbrev pub default_address : List ℕ → List ℕ → List ℕ
default_address user domain = if is_address user then user else user ++ 64 ∷ domain

abbrev pub has_number : ℕ → ℕ → Bool
has_number number key = key == number

abbrev pub or_default : Option Identity → List ℕ → List ℕ → Identity
or_default None user domain = record { name = []; address = default_address user domain }
or_default (Some identity) user domain = identity

-- the identity that is kept under a number, or else the default one
abbrev pub identity_for : ℕ → List (ℕ × Identity) → List ℕ → List ℕ → Identity
identity_for number kept user domain = or_default (lookup (has_number number) kept) user domain

-- ---- the letter

-- a draft's message, from the identity's address to the draft's recipients
pub record IsLetter (draft : Draft) (identity : Identity) (moment : ℤ) (letter : Letter) : Type 0 where
  pub message : IsSent draft (parties_of draft identity) moment letter.message
  pub form : letter.envelope.form ≡ draft.form
  pub sender : letter.envelope.from ≡ identity.address
  pub recipients : addresses_of draft ≡ Ok letter.envelope.to.items

-- a letter of a draft, by some identity
abbrev pub IsSomeLetter : Draft → ℤ → Letter → Type 0
IsSomeLetter draft moment letter = (identity : Identity) × IsLetter draft identity moment letter

-- a letter, or the first fault of the draft
abbrev pub Writes : Draft → Identity → ℤ → Result Letter DraftFault → Type 0
Writes draft identity moment (Ok letter) = IsLetter draft identity moment letter
Writes draft identity moment (Err one) = FailsAs one (parties_of draft identity)

-- ---- what is looked up first

-- why no letter is written of a draft
abbrev pub IsUnwritten : Draft → Identity → SendFault → Type 0
IsUnwritten draft identity fault.NoRecipient = parties_of draft identity ≡ Err drafts.NoRecipient
IsUnwritten draft identity (fault.NotAddress field at) = parties_of draft identity ≡ Err (drafts.NotAddress field at)
IsUnwritten draft identity (fault.Long bytes) = parties_of draft identity ≡ Err (drafts.Long bytes)
IsUnwritten draft identity fault.Unkept = ⊤
IsUnwritten draft identity fault.Memory = ⊤
IsUnwritten draft identity other = ⊥

-- a letter is written of a draft, or not
abbrev pub IsWritten : Draft → Identity → ℤ → Result Letter SendFault → Type 0
IsWritten draft identity moment (Ok letter) = IsLetter draft identity moment letter
IsWritten draft identity moment (Err one) = IsUnwritten draft identity one

-- What is to be submitted for a form, by its state: nothing if it was sent; if it may have been, that is a fault; else its letter. The keeper
-- may fail, and memory may run out, before that is known.
abbrev pub Prepares : Option SendState → Draft → Identity → ℤ → Result (Option Letter) SendFault → Type 0
Prepares state draft identity moment (Err fault.Unkept) = ⊤
Prepares state draft identity moment (Err fault.Memory) = ⊤
Prepares (Some state.Done) draft identity moment result = result ≡ Ok None
Prepares (Some state.Started) draft identity moment result = result ≡ Err fault.InDoubt
Prepares (Some state.Doubt) draft identity moment result = result ≡ Err fault.InDoubt
Prepares None draft identity moment (Ok (Some letter)) = IsLetter draft identity moment letter
Prepares None draft identity moment (Ok None) = ⊥
Prepares None draft identity moment (Err one) = IsUnwritten draft identity one

-- ---- what is kept of a submission

-- the state of a form after its submission: none if its message was not taken
abbrev pub state_after : Result (Unit {0}) SubmitFault → Option SendState
state_after (Ok done) = Some state.Done
state_after (Err posts.Doubt) = Some state.Doubt
state_after (Err other) = None

-- how a form is submitted
pub data Outcome : Type 0 where
  -- it could not be noted that the submission begins: nothing was said
  unbegun : (fault : KeepFault) → Outcome
  -- the submission ended so, and the note of its end went so
  begun : (posted : Result (Unit {0}) SubmitFault) (noted : Result (Unit {0}) KeepFault) → Outcome

-- the records after a note of a form's state; a note that fails changes nothing
abbrev pub noted : ℕ → Option SendState → Option (List ℕ) → Result (Unit {0}) KeepFault → Option (List Records) → Option (List Records)
noted form state adopted (Ok done) records = told_after records adopted (λ account. SetSend account form state)
noted form state adopted (Err one) records = records

-- it is noted that the submission begins, and then how it ended
abbrev pub records_after : ℕ → Option (List ℕ) → Outcome → Option (List Records) → Option (List Records)
records_after form adopted (unbegun one) records = records
records_after form adopted (begun posted last) records = noted form (state_after posted) adopted last (noted form (Some state.Started) adopted (Ok tt) records)

abbrev pub result_of : Result (Unit {0}) SubmitFault → Result (Unit {0}) SendFault
result_of (Ok done) = Ok tt
result_of (Err one) = Err (post_fault one)

-- what is answered: a fault of the keeper comes before one of the submission
abbrev pub sent_result : Outcome → Result (Unit {0}) SendFault
sent_result (unbegun one) = Err (keep_fault one)
sent_result (begun posted (Err one)) = Err (keep_fault one)
sent_result (begun posted (Ok done)) = result_of posted

-- what is said to the post server: nothing before it is noted
abbrev pub IsSaid : Outcome → List Step → List ℕ → List Piece → Type 0
IsSaid (unbegun one) steps body pieces = pieces ≡ []
IsSaid (begun posted last) steps body pieces = SubmitsOrNothing steps body pieces posted

abbrev pub IsPostCaused : Outcome → ℕ → ℕ → Type 0
IsPostCaused (unbegun one) before now = now ≡ before
IsPostCaused (begun posted last) before now = IsCaused before now posted

abbrev pub last_note : Outcome → Result (Unit {0}) KeepFault
last_note (unbegun one) = Err one
last_note (begun posted last) = last

-- A letter of a user is submitted.
pub record Submission (user password : List ℕ) (letter : Letter) (outcome : Outcome) (old new : OutboxState) : Type 0 where
  pub said : GrowsBy old.talk new.talk (λ pieces. IsSaid outcome (script user password letter.envelope.from letter.envelope.to.items) (dotted letter.message) pieces)
  pub records : new.records ≡ records_after letter.envelope.form old.adopted outcome old.records
  pub adopted : new.adopted ≡ old.adopted
  pub post_cause : IsPostCaused outcome old.post_faults new.post_faults
  pub keeper_cause : HasKeepCause old.keeper_faults new.keeper_faults (last_note outcome)

-- a letter is submitted, with this result
pub record Sends (user password : List ℕ) (letter : Letter) (old new : OutboxState) (result : Result (Unit {0}) SendFault) : Type 0 where
  pub outcome : Outcome
  pub submission : Submission user password letter outcome old new
  pub ends : result ≡ sent_result outcome

-- ---- causes

-- the keeper's count of faults rose exactly if the result says so
abbrev pub IsKeptCaused : {T : Type 0} → Result T SendFault → ℕ → ℕ → Type 0
IsKeptCaused (Err fault.Unkept) before now = Rose before now
IsKeptCaused result before now = now ≡ before

-- the post link's count of faults: it rose if the link failed before the dot; after a refusal and after damage it is as it was
abbrev pub IsLinkCaused : {T : Type 0} → Result T SendFault → ℕ → ℕ → Type 0
IsLinkCaused (Ok value) before now = before ≤ now
IsLinkCaused (Err fault.Unreachable) before now = Rose before now
IsLinkCaused (Err (fault.Refused code text)) before now = now ≡ before
IsLinkCaused (Err (fault.Damaged at)) before now = now ≡ before
IsLinkCaused (Err fault.InDoubt) before now = before ≤ now
IsLinkCaused (Err other) before now = ⊤
