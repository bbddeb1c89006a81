-- No form is submitted again once its message was taken, or may have been.
use Rattle.std.specs.Prelude.{◌≡◌, ℕ, Bool, true, false, List, [], ◌∷◌, Option, Some, None, Ok, Err, ⊤, is_some, IsSome}
use Rattle.account_pictures.specs.declared.records.Records.{Records}
use Rattle.record_io.specs.Keepers.{IfTold}
use Rattle.record_io.specs.Records.{state_of}
use Rattle.submission.specs.declared.fault.SubmitFault.TheVariants as posts
use Rattle.account_sends.specs.declared.letters.Letter.{Letter}
use Rattle.account_sends.specs.Outboxes.{OutboxState}
use Rattle.account_sends.specs.Sends.{Outcome, Submission, begun, unbegun}

-- ---- what turns of an account do to its outbox

pub data Event : Type 0 where
  -- nothing is said to the post server, and every form keeps its state
  quiet : Event
  -- a user's letter is submitted
  submits : (user password : List ℕ) (letter : Letter) (outcome : Outcome) → Event

-- every form of every account has the state that it had
abbrev pub KeepsStates : Option (List Records) → Option (List Records) → Type 0
KeepsStates None None = ⊤
KeepsStates None (Some new) = ⊥
KeepsStates (Some old) None = ⊥
KeepsStates (Some old) (Some new) = (account : List ℕ) (form : ℕ) → state_of account form new ≡ state_of account form old

-- an account is adopted, an identity is put in, mail is read: nothing of it concerns a form
pub record IsQuiet (old new : OutboxState) : Type 0 where
  pub silent : new.talk ≡ old.talk
  pub states : KeepsStates old.records new.records

-- a user's letter is submitted whose form has no state
pub record IsSubmission (user password : List ℕ) (letter : Letter) (outcome : Outcome) (old new : OutboxState) : Type 0 where
  pub adopted : old.adopted ≡ Some user
  pub unsent : IfTold old.records old.adopted (λ told account. state_of account letter.envelope.form told ≡ None)
  pub submission : Submission user password letter outcome old new

abbrev pub IsEvent : Event → OutboxState → OutboxState → Type 0
IsEvent quiet old new = IsQuiet old new
IsEvent (submits user password letter outcome) old new = IsSubmission user password letter outcome old new

-- events came one after another
abbrev pub IsRun : OutboxState → List Event → OutboxState → Type 0
IsRun old [] new = new ≡ old
IsRun old (event ∷ events) new = (middle : OutboxState) × IsEvent event old middle × IsRun middle events new

-- ---- what is promised of any of them

-- the server took the message, or may have: all but the dot's reply came, and that is no refusal
abbrev pub may_be_taken : Outcome → Bool
may_be_taken (unbegun fault) = false
may_be_taken (begun (Ok done) noted) = true
may_be_taken (begun (Err posts.Doubt) noted) = true
may_be_taken (begun (Err other) noted) = false

-- none of these submits the form of a user
abbrev pub IsLeft : List ℕ → ℕ → List Event → Type 0
IsLeft user form [] = ⊤
IsLeft user form (quiet ∷ events) = IsLeft user form events
IsLeft user form (submits other password letter outcome ∷ events) = (other ≡ user → letter.envelope.form ≡ form → ⊥) × IsLeft user form events

-- the form of a user has a state in records that are told
abbrev pub HasState : List ℕ → ℕ → Option (List Records) → Type 0
HasState user form None = ⊥
HasState user form (Some records) = is_some (state_of user form records) ≡ true

-- after a submission whose message was taken, or may have been, none of these submits the same form again, and the form has a state in the end
abbrev pub AreOnce : List Event → Option (List Records) → Type 0
AreOnce [] records = ⊤
AreOnce (quiet ∷ events) records = AreOnce events records
AreOnce (submits user password letter outcome ∷ events) records =
    (may_be_taken outcome ≡ true → IsLeft user letter.envelope.form events × HasState user letter.envelope.form records) × AreOnce events records

-- whatever turns an account takes, each form is sent at most once, if the keeper tells its records
abbrev pub FormsAreSentOnce : Type 0
FormsAreSentOnce = (events : List Event) (old new : OutboxState) → IsSome old.records → IsRun old events new → AreOnce events new.records
