-- How a turn goes through the steps of a script.
use Rattle.std.specs.Prelude.{◌≡◌, Bool, true, false, not, ◌||◌, ◌&&◌, List, [], ◌∷◌}
use Rattle.mail_talk.specs.States.{is_idle}
use Rattle.mail_talk.specs.Units.{TalkState}
use Rattle.account_script.specs.declared.steps.Progress.{Progress}
use Rattle.account_script.specs.declared.steps.Step.{Step}
use Rattle.account_script.specs.declared.steps.Step.TheVariants as step
use Rattle.account_turns.specs.declared.endings.Ending.{Ending}
use Rattle.account_turns.specs.declared.endings.Ending.TheVariants.{Done, Stopped, Failed}
use Rattle.account_turns.specs.Causes.{keeps_up}
use Rattle.account_turns.specs.Exchanges.{Seen}
use Rattle.account_turns.specs.Turns.{Errand, Turn, due, ready}

-- these steps are left, by what is due
pub record Matches (e : Errand) (steps : List Step) (fresh : Bool) (p : Progress) (ear : TalkState) (t : Turn) : Type 0 where
  pub errand : t.errand ≡ e
  pub seen : Seen fresh ear t
  pub next : due t ≡ ready e fresh p steps ear.told

-- no command may be said: the next dial forgets what was told, or the last command has no answer
abbrev pub is_unsteady : Bool → TalkState → Bool
is_unsteady fresh ear = fresh || not (is_idle ear.told.phase)

-- then only a dial may come
abbrev pub MayTake : Bool → Step → Type 0
MayTake false one = Unit {0}
MayTake true step.Dial = Unit {0}
MayTake true other = ⊥

abbrev pub IsFirst : Bool → List Step → Type 0
IsFirst unsteady [] = Unit {0}
IsFirst unsteady (one ∷ steps) = MayTake unsteady one

-- a command may be said after an ending that leaves the account up
abbrev pub IsReadyAfter : Ending → Bool → Type 0
IsReadyAfter Done unsteady = unsteady ≡ false
IsReadyAfter (Stopped cause) unsteady = keeps_up cause ≡ true → unsteady ≡ false
IsReadyAfter Failed unsteady = Unit {0}

-- if the account is up after an ending, a command may be said
abbrev pub IsUpAfter : Ending → Bool → Bool → Type 0
IsUpAfter Done up unsteady = up ≡ true → unsteady ≡ false
IsUpAfter (Stopped cause) up unsteady = (up && keeps_up cause) ≡ true → unsteady ≡ false
IsUpAfter Failed up unsteady = Unit {0}
