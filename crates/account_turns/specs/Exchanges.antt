-- What a part of a turn comes to: a dial with its greeting, a command with its answer.
use Rattle.std.specs.Prelude.{◌≡◌, ℕ, Bool, true, false, ◌&&◌, List, [], ◌∷◌, Option, Some, None}
use Rattle.std.specs.List.{concat}
use Rattle.account_turns.specs.declared.endings.Last.{Last}
use Rattle.imap_commands.specs.declared.command.Command.{Command}
use Rattle.command_pieces.specs.Verbs.{verb_of_command}
use Rattle.mail_io.specs.Causes.{Rose}
use Rattle.mail_talk.specs.declared.phase.Phase.TheVariants as phase
use Rattle.mail_talk.specs.Talks.{after_began, after_said, after_went_on, after_completed, if_idle, if_piece}
use Rattle.mail_talk.specs.Units.{TalkState}
use Rattle.mail_talk.specs.Told.{said_before}
use Rattle.account_script.specs.declared.cause.Cause.{Cause}
use Rattle.account_script.specs.declared.steps.Progress.{Progress}
use Rattle.account_script.specs.declared.steps.Step.{Step}
use Rattle.account_turns.specs.declared.endings.Ending.{Ending}
use Rattle.account_turns.specs.declared.endings.Ending.TheVariants.{Done, Stopped, Failed}
use Rattle.account_turns.specs.Causes.{cause_of, keeps_up}
use Rattle.account_turns.specs.Turns.{Errand, Turn, due, ready}
use Rattle.account_turns.specs.Turns.Due.{Says, Stops}

-- what is kept of the talk is what it comes to, unless the next dial forgets it
pub record Seen (fresh : Bool) (ear : TalkState) (u : Turn) : Type 0 where
  pub state : fresh ≡ false → u.talk.state ≡ ear
  pub same : u.fresh ≡ fresh

-- from t the turn came to u by what was heard
pub record Hearing (t : Turn) (ear : TalkState) (u : Turn) : Type 0 where
  pub errand : u.errand ≡ t.errand
  pub state : u.talk.state ≡ ear
  pub said : u.talk.said ≡ t.talk.said
  pub steps : u.steps ≡ t.steps
  pub progress : u.progress ≡ t.progress
  pub fresh : u.fresh ≡ t.fresh
  pub last : u.last ≡ t.last
  pub left : u.left ≡ t.left
  pub begun : u.begun ≡ true
  pub cut : u.cut ≡ false

abbrev pub ending_by : Option Cause → Ending
ending_by None = Done
ending_by (Some cause) = Stopped cause

-- how a command, or a greeting, ended
abbrev pub ending_of : Last → TalkState → Ending
ending_of last s = ending_by (cause_of last s)

-- what is due after an ending, if these steps are left
abbrev pub IsDueAfter : Errand → Ending → Bool → Progress → List Step → TalkState → Turn → Type 0
IsDueAfter e Done fresh p more ear u = due u ≡ ready e fresh p more ear.told
IsDueAfter e (Stopped cause) fresh p more ear u = due u ≡ Stops cause (p.up && keeps_up cause)
IsDueAfter e Failed fresh p more ear u = Unit {0}

-- a part of a turn has ended, and these steps are left
pub record Spoken (e : Errand) (ending : Ending) (more : List Step) (fresh : Bool) (p : Progress) (ear : TalkState) (u : Turn) : Type 0 where
  pub errand : u.errand ≡ e
  pub seen : Seen fresh ear u
  pub next : IsDueAfter e ending fresh p more ear u

-- what is due if these pieces of a command are left
abbrev pub IsDueOn : List (List ℕ) → Errand → Last → List Step → Bool → Progress → TalkState → Turn → Type 0
IsDueOn [] e last more fresh p ear u = IsDueAfter e (ending_of last ear) fresh p more ear u
IsDueOn (piece ∷ pieces) e last more fresh p ear u = due u ≡ Says last (piece ∷ pieces) more p

-- the pieces before were said, and these are left
pub record Speaks (e : Errand) (before left : List (List ℕ)) (last : Last) (more : List Step) (fresh : Bool) (p : Progress) (ear : TalkState) (u : Turn) : Type 0 where
  pub errand : u.errand ≡ e
  pub state : u.talk.state ≡ ear
  pub same : u.fresh ≡ fresh
  pub said : said_before ear.told.phase u.talk.said ≡ concat before
  pub next : IsDueOn left e last more fresh p ear u

-- a dial, or a piece of a command, was said, and these steps and pieces are left
pub record Begun (e : Errand) (ear : TalkState) (last_said : Last) (pieces : List (List ℕ)) (bytes : List ℕ) (more : List Step) (is_fresh : Bool) (p : Progress) (u : Turn) : Type 0 where
  pub errand : u.errand ≡ e
  pub hearing : Hearing u ear u
  pub last : u.last ≡ last_said
  pub left : u.left ≡ pieces
  pub said : u.talk.said ≡ bytes
  pub steps : u.steps ≡ more
  pub fresh : u.fresh ≡ is_fresh
  pub progress : u.progress ≡ p

-- a listener after a piece of a command, the first or a later one, the last or not
abbrev pub with_first : Bool → Command → TalkState → TalkState
with_first true one s = if_idle (after_said one) s
with_first false one s = if_idle (after_began (verb_of_command one)) s

abbrev pub with_later : Bool → Command → TalkState → TalkState
with_later true one s = if_piece (after_completed one) s
with_later false one s = if_piece after_went_on s

abbrev pub with_uttered : Bool → Bool → Command → TalkState → TalkState
with_uttered true is_last one s = with_first is_last one s
with_uttered false is_last one s = with_later is_last one s

-- the next command may be said if the account stays up
abbrev pub IsIdleAfter : Ending → TalkState → Type 0
IsIdleAfter Done s = s.told.phase ≡ phase.Idle
IsIdleAfter (Stopped cause) s = keeps_up cause ≡ true → s.told.phase ≡ phase.Idle
IsIdleAfter Failed s = Unit {0}

-- a count of faults rose if this is false, and stayed if it is true
abbrev pub HasStayed : Bool → ℕ → ℕ → Type 0
HasStayed true before now = now ≡ before
HasStayed false before now = Rose before now

-- the count rose if and only if the link failed
abbrev pub IsCausedBy : Ending → ℕ → ℕ → Type 0
IsCausedBy Failed before now = Rose before now
IsCausedBy other before now = now ≡ before

-- as long as the next dial is to be fresh, nothing is heard
abbrev pub IsUnheard : Bool → TalkState → TalkState → Type 0
IsUnheard fresh before now = (fresh ≡ true) × (now ≡ before)
