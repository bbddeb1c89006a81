-- What a login does to an account.
use Rattle.std.specs.Prelude.{◌≡◌, ℕ, true, false, List, Option, Some, Result, Ok, Err, IfOk}
use Rattle.mail_io.specs.Causes.{Rose}
use Rattle.account_script.specs.declared.steps.Credentials.{Credentials}
use Rattle.account_turns.specs.declared.endings.Ending.{Ending}
use Rattle.account_turns.specs.declared.endings.Ending.TheVariants.{Done, Stopped, Failed}
use Rattle.account_turns.specs.Exchanges.{IsCausedBy}
use Rattle.account_mail.specs.Sides.{SideState}
use Rattle.account_mail.specs.Turned as mail
use Rattle.account_core.specs.declared.faults.LoginFault.{LoginFault}
use Rattle.account_core.specs.declared.faults.LoginFault.TheVariants as fault
use Rattle.account_core.specs.Accounts.{AccountState}

-- how the turn of a login ended, by its result; out of memory, it may have ended in any way
abbrev pub IsEnd : {U : Type 0} → Result U LoginFault → Result Ending LoginFault → Type 0
IsEnd (Ok u) ending = ending ≡ Ok Done
IsEnd (Err (fault.Stopped cause)) ending = ending ≡ Ok (Stopped cause)
IsEnd (Err fault.Unreachable) ending = ending ≡ Ok Failed
IsEnd (Err fault.Unkept) ending = ending ≡ Ok Done
IsEnd (Err fault.Memory) ending = Unit {0}

-- after an answered login that is taken back, others are kept than those who logged in
abbrev pub who_left : {U : Type 0} → Result U LoginFault → Result Ending LoginFault → Option Credentials → Option Credentials → Option Credentials
who_left (Err fault.Unkept) ending without who = without
who_left (Err fault.Memory) (Ok ending) without who = without
who_left result ending without who = who

-- the keeper's count of faults rose exactly if the login says so
abbrev pub HasCause : {U : Type 0} → Result U LoginFault → ℕ → ℕ → Type 0
HasCause (Err fault.Unkept) before now = Rose before now
HasCause result before now = now ≡ before

-- the keeper has adopted who logged in
abbrev pub IsAdopted : {U : Type 0} → Result U LoginFault → List ℕ → Option (List ℕ) → Type 0
IsAdopted (Ok u) user adopted = adopted ≡ Some user
IsAdopted (Err fault) user adopted = Unit {0}

-- The keeper was asked to adopt a user; if it fails, these credentials are kept.
pub record AdoptEnd {U : Type 0} (user : List ℕ) (kept : Option Credentials) (old new : SideState) (adopted : Option (List ℕ)) (before now : ℕ) (result : Result U LoginFault) : Type 0 where
  pub ends : IsEnd result (Ok Done)
  pub side : new ≡ record old { who = who_left result (Ok Done) kept old.who }
  pub adopts : IsAdopted result user adopted
  pub cause : HasCause result before now

-- The turn of a login: one turn of the link, and last the keeper adopts the user.
pub record LoginTurn {U : Type 0} (user password : List ℕ) (old new : SideState) (adopted : Option (List ℕ)) (before now : ℕ) (result : Result U LoginFault) : Type 0 where
  -- the mail side after its turn, and how that ended
  pub side : SideState
  pub ending : Result Ending LoginFault
  pub turn : mail.LoggedIn (mail.login_errand user password) old side ending
  pub link : IfOk ending (λ one. IsCausedBy one old.faults side.faults)
  pub ends : IsEnd result ending
  pub kept : new ≡ record side { who = who_left result ending (mail.who_without_login user old.who old.fresh) side.who }
  pub adopts : IsAdopted result user adopted
  pub cause : HasCause result before now

-- after a fault the account is down; after want of memory its next dial forgets what was told, too
abbrev pub left_after : LoginFault → SideState → SideState
left_after fault.Memory side = record side { up = false; fresh = true }
left_after other side = record side { up = false }

abbrev pub left : {U : Type 0} → Result U LoginFault → SideState → SideState
left (Ok u) side = side
left (Err fault) side = left_after fault side

-- what a login does to an account
pub record LoggedIn {U : Type 0} (user password : List ℕ) (old new : AccountState) (result : Result U LoginFault) : Type 0 where
  pub side : SideState
  pub turn : LoginTurn user password old.mail side new.outbox.adopted old.outbox.keeper_faults new.outbox.keeper_faults result
  pub leaves : new.mail ≡ left result side
  -- of the outbox nothing else changes
  pub outbox : new.outbox ≡ record old.outbox { adopted = new.outbox.adopted; keeper_faults = new.outbox.keeper_faults }
  pub domain : new.domain ≡ old.domain
