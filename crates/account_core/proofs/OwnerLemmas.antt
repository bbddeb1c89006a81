-- The keeper has adopted who is kept, also after a login that failed.
use Rattle.std.proofs.Common.{◌≡◌, List, ℕ, Bool, true, false, sym, subst, Option, None}
use Rattle.std.specs.Prelude.{Ok, if◌then◌else◌}
use Rattle.account_script.specs.declared.cause.Cause.{Cause}
use Rattle.account_script.specs.declared.steps.Credentials.{Credentials}
use Rattle.account_turns.specs.declared.endings.Ending.TheVariants.{Stopped, Failed}
use Rattle.account_turns.specs.Turns.{Errand}
use Rattle.account_mail.specs.Sides.{SideState}
use Rattle.account_mail.specs.Turned.{LoggedIn, login_fresh, who_after, who_without_login}
use Rattle.account_core.specs.Accounts.{IsOwned}

pub same_owner : (old new : Option Credentials) (before after : Option (List ℕ)) → new ≡ old → after ≡ before → IsOwned old before → IsOwned new after
same_owner old new before after same still is = subst (λ (o : Option Credentials). IsOwned o after) (sym same) (subst (λ (a : Option (List ℕ)). IsOwned old a) (sym still) is)

-- a login that is taken back
without_by : (fresh : Bool) (who : Option Credentials) (adopted : Option (List ℕ)) → IsOwned who adopted → IsOwned (if fresh then None else who) adopted
without_by true who adopted is = tt
without_by false who adopted is = is

pub without_login : (user : List ℕ) (old new : Option Credentials) (fresh : Bool) (before after : Option (List ℕ)) → new ≡ who_without_login user old fresh → after ≡ before → IsOwned old before → IsOwned new after
without_login user old new fresh before after same still is = same_owner (who_without_login user old fresh) new before after same still (without_by (login_fresh user old fresh) old before is)

-- a login that was not answered
stopped_by : (cause : Cause) (who : Credentials) (fresh still : Bool) (kept : Option Credentials) (adopted : Option (List ℕ)) → IsOwned kept adopted → IsOwned (who_after (Stopped cause) who fresh still kept) adopted
stopped_by cause who true false kept adopted is = tt
stopped_by cause who true true kept adopted is = is
stopped_by cause who false still kept adopted is = is

failed_by : (who : Credentials) (fresh still : Bool) (kept : Option Credentials) (adopted : Option (List ℕ)) → IsOwned kept adopted → IsOwned (who_after Failed who fresh still kept) adopted
failed_by who true false kept adopted is = tt
failed_by who true true kept adopted is = is
failed_by who false still kept adopted is = is

pub stopped_login : {E : Type 0} (e : Errand) (old new : SideState) (cause : Cause) (adopted : Option (List ℕ)) → LoggedIn {E = E} e old new (Ok (Stopped cause)) → IsOwned old.who adopted → IsOwned new.who adopted
stopped_login e old new cause adopted logged is = subst (λ (o : Option Credentials). IsOwned o adopted) (sym logged.goes.holds.user) (stopped_by cause e.who _ _ old.who adopted is)

pub failed_login : {E : Type 0} (e : Errand) (old new : SideState) (adopted : Option (List ℕ)) → LoggedIn {E = E} e old new (Ok Failed) → IsOwned old.who adopted → IsOwned new.who adopted
failed_login e old new adopted logged is = subst (λ (o : Option Credentials). IsOwned o adopted) (sym logged.goes.holds.user) (failed_by e.who _ _ old.who adopted is)
