-- What an ask does to an account, whether it sends a form or not.
use Rattle.std.specs.Prelude.{◌≡◌, ℤ, ℕ, Bool, true, false, List, [], Result, Ok, Err}
use Rattle.site_asks.specs.declared.asks.Ask.{Ask}
use Rattle.site_asks.specs.declared.asks.Ask.TheVariants as ask
use Rattle.account_script.specs.declared.steps.Credentials.{Credentials}
use Rattle.account_script.specs.Asks.{has_script}
use Rattle.account_mail.specs.Sides.{SideState}
use Rattle.account_sends.specs.Outboxes.{OutboxState}
use Rattle.account_answers.specs.declared.answer.Answer.{Answer}
use Rattle.account_core.specs.Accounts.{AccountState}
use Rattle.account_core.specs.Sends.{SendTurn}
use Rattle.account_core.specs.Turned.{AskTurn}

-- the asks that an account answers
abbrev pub is_served : Ask → Bool
is_served (ask.SendDraft key fields) = true
is_served other = has_script other

-- an ask of the mail server alone
pub record MailTurn {E : Type 0} (who : Credentials) (ask : Ask) (key : List ℕ) (old new : SideState) (before after : OutboxState) (result : Result Answer E) : Type 0 where
  pub turn : AskTurn (record { who = who; ask = ask; message = [] }) key old new result
  pub outbox : after ≡ before

-- the turn of an ask, at a moment
abbrev pub ServeTurn : {E : Type 0} → Credentials → List ℕ → Ask → List ℕ → ℤ → SideState → SideState → OutboxState → OutboxState → Result Answer E → Type 0
ServeTurn who domain (ask.SendDraft own fields) key moment old new before after result = SendTurn who domain (ask.SendDraft own fields) fields moment old new before after result
ServeTurn who domain other key moment old new before after result = MailTurn who other key old new before after result

-- after want of memory the account is down, and its next dial forgets what was told
abbrev pub settled : {T E : Type 0} → Result T E → SideState → SideState
settled (Ok value) side = side
settled (Err e) side = record side { up = false; fresh = true }

-- what an ask does to an account
pub record Turned {E : Type 0} (who : Credentials) (ask : Ask) (key : List ℕ) (moment : ℤ) (old new : AccountState) (result : Result Answer E) : Type 0 where
  pub side : SideState
  pub turn : ServeTurn who old.domain ask key moment old.mail side old.outbox new.outbox result
  pub settles : new.mail ≡ settled result side
  pub domain : new.domain ≡ old.domain
