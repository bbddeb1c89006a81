-- What an ask does to the outbox: it submits the letter of its form, or nothing.
use Rattle.std.specs.Prelude.{◌≡◌, ℤ, List, [], ◌∷◌, IsSome}
use Rattle.site_asks.specs.declared.asks.Ask.{Ask}
use Rattle.site_asks.specs.declared.asks.Ask.TheVariants as ask
use Rattle.account_script.specs.declared.steps.Credentials.{Credentials}
use Rattle.account_sends.specs.Outboxes.{OutboxState}
use Rattle.account_sends.specs.Sends.{IsSomeLetter}
use Rattle.account_sends.specs.Once.{AreOnce, Event, IsEvent, IsQuiet, IsRun, quiet, submits}

-- only an ask that sends a form submits, and only its own form, by a letter of its draft
abbrev pub IsEventOf : Credentials → Ask → Event → Type 0
IsEventOf who one quiet = Unit {0}
IsEventOf who (ask.SendDraft own fields) (submits user password letter outcome) = (user ≡ who.user) × (password ≡ who.password) × (letter.envelope.form ≡ fields.form) × ((moment : ℤ) × IsSomeLetter fields moment letter)
IsEventOf who other (submits user password letter outcome) = ⊥

-- one event of those of which no form is sent twice (`FormsAreSentOnce` of account_sends)
pub record DoesEvent (who : Credentials) (one : Ask) (before after : OutboxState) : Type 0 where
  pub event : Event
  pub of : IsEventOf who one event
  pub does : IsEvent event before after

-- ---- any calls of an account

-- a login, or an ask of who is kept
pub data Call : Type 0 where
  logs_in : Call
  asks : (who : Credentials) (one : Ask) → Call

abbrev pub DoesCall : Call → OutboxState → OutboxState → Type 0
DoesCall logs_in before after = IsQuiet before after
DoesCall (asks who one) before after = DoesEvent who one before after

-- calls came one after another
abbrev pub DoCalls : OutboxState → List Call → OutboxState → Type 0
DoCalls old [] new = new ≡ old
DoCalls old (call ∷ calls) new = (middle : OutboxState) × DoesCall call old middle × DoCalls middle calls new

-- one event of each call
abbrev pub AreEventsOf : List Call → List Event → Type 0
AreEventsOf [] [] = Unit {0}
AreEventsOf (logs_in ∷ calls) (quiet ∷ events) = AreEventsOf calls events
AreEventsOf (asks who one ∷ calls) (event ∷ events) = IsEventOf who one event × AreEventsOf calls events
AreEventsOf calls events = ⊥

-- calls did these events, and once the message of a form was taken, or may have been, none of them submits that form again
pub record SendOnce (old : OutboxState) (calls : List Call) (new : OutboxState) : Type 0 where
  pub events : List Event
  pub are : AreEventsOf calls events
  pub run : IsRun old events new
  pub once : AreOnce events new.records

-- whatever logins and asks there are, in any order, if the keeper tells its records
abbrev pub CallsSendOnce : Type 0
CallsSendOnce = (calls : List Call) (old new : OutboxState) → IsSome old.records → DoCalls old calls new → SendOnce old calls new
