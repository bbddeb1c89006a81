-- What contracts see of an account.
use Rattle.std.specs.Prelude.{◌≡◌, ℕ, List, Option, Some, None}
use Rattle.account_script.specs.declared.steps.Credentials.{Credentials}
use Rattle.account_mail.specs.Sides.{SideState}
use Rattle.account_sends.specs.Outboxes.{OutboxState}

pub record AccountState : Type 0 where
  pub mail : SideState
  -- the post server and the records
  pub outbox : OutboxState
  -- the site's domain
  pub domain : List ℕ

-- the keeper has adopted who is kept
abbrev pub IsOwned : Option Credentials → Option (List ℕ) → Type 0
IsOwned None adopted = Unit {0}
IsOwned (Some who) adopted = adopted ≡ Some who.user
