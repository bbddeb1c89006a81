-- A turn with a mail server: what is due at each moment of it.
use Rattle.std.specs.Prelude.{◌≡◌, ℕ, ◌+◌, ◌≤◌, Bool, true, false, ◌&&◌, if◌then◌else◌, List, [], ◌∷◌, ◌++◌, length, take, Option, Some, None}
use Rattle.account_pictures.specs.declared.talk.Piece.{Piece}
use Rattle.account_pictures.specs.declared.talk.Piece.TheVariants.{Dialled, Said, Heard}
use Rattle.site_asks.specs.declared.asks.Ask.{Ask}
use Rattle.imap_commands.specs.Commands.{command_pieces}
use Rattle.command_pieces.specs.Spoken.{Spoken, spoken_with}
use Rattle.command_pieces.specs.Spoken.Spoken.{Partial}
use Rattle.mail_talk.specs.States.{ToldState, is_piece}
use Rattle.mail_talk.specs.Units.{heard_count, heard_limit}
use Rattle.mail_talk.specs.Told.{Talk, said_before, after_piece}
use Rattle.account_script.specs.declared.cause.Cause.{Cause}
use Rattle.account_script.specs.declared.steps.Act.{Act}
use Rattle.account_script.specs.declared.steps.Act.TheVariants as act
use Rattle.account_script.specs.declared.steps.Credentials.{Credentials}
use Rattle.account_script.specs.declared.steps.Progress.{Progress}
use Rattle.account_script.specs.declared.steps.Step.{Step}
use Rattle.account_script.specs.Script.{act_with, progress_of}
use Rattle.account_turns.specs.declared.endings.Last.{Last}
use Rattle.account_turns.specs.declared.endings.Last.TheVariants as lasts
use Rattle.account_turns.specs.Causes.{is_open, cause_of, keeps_up, last_of}
use Rattle.turn_algebra.specs.Going.{GoesOn}

-- who asks what, and the message that is copied, if one is
pub record Errand : Type 0 where
  pub who : Credentials
  pub ask : Ask
  pub message : List ℕ

-- What may come next: a dial; the next piece of a command, with the steps and the progress after it; bytes that are heard; a stop with
-- its cause; the end, after all steps; or nothing, since a piece of a command was said only in part.
pub data Due : Type 0 where
  Dials : (fresh : Bool) (more : List Step) → Due
  Says : (last : Last) (pieces : List (List ℕ)) (more : List Step) (progress : Progress) → Due
  Waits : Due
  Stops : (cause : Cause) (up : Bool) → Due
  Ends : (up : Bool) → Due
  Nothing : Due

-- ---- the script

-- what the act of a step makes due; a step that says nothing leaves it to the later ones
abbrev pub due_by : Act → Bool → Progress → List Step → ℕ → Due → Due
due_by act.Skip fresh progress more number later = later
due_by act.Dial fresh progress more number later = Dials fresh more
due_by (act.Say one) fresh progress more number later = Says (last_of one) (command_pieces (number + 1) one) more progress
due_by (act.Stop cause) fresh progress more number later = Stops cause (progress.up && keeps_up cause)

-- what the steps make due, after what was told
unfoldable pub ready : Errand → Bool → Progress → List Step → ToldState → Due
ready e fresh p [] t = Ends p.up
ready e fresh p (step ∷ steps) t =
    due_by (act_with e.message step e.who e.ask t p) fresh (progress_of step e.ask t p) steps t.view.number (ready e fresh (progress_of step e.ask t p) steps t)

-- ---- the turn

pub record Turn : Type 0 where
  pub errand : Errand
  -- what was said and heard comes to this
  pub talk : Talk
  -- the steps that are left
  pub steps : List Step
  pub progress : Progress
  -- the next dial forgets all that was told
  pub fresh : Bool
  -- something was said or heard in this turn
  pub begun : Bool
  -- the last piece of a command was said only in part
  pub cut : Bool
  -- what was said last, and the pieces of it that are left
  pub last : Last
  pub left : List (List ℕ)

abbrev pub due_after : Option Cause → Turn → Due
due_after None t = ready t.errand t.fresh t.progress t.steps t.talk.state.told
due_after (Some cause) t = Stops cause (t.progress.up && keeps_up cause)

-- the pieces of a command that were asked for
abbrev pub due_owed : List (List ℕ) → Option Cause → Turn → Due
due_owed [] cause t = due_after cause t
due_owed (piece ∷ pieces) cause t = Says t.last (piece ∷ pieces) t.steps t.progress

abbrev pub due_within : Turn → Due
due_within t =
    if t.cut then Nothing
    else (if is_open t.talk.state then Waits
    else due_owed (if is_piece t.talk.state.told.phase then t.left else []) (cause_of t.last t.talk.state) t)

-- what is due
unfoldable pub due : Turn → Due
due t = if t.begun then due_within t else ready t.errand t.fresh t.progress t.steps t.talk.state.told

-- ---- after a piece

abbrev pub steps_after : Due → Piece → List Step → List Step
steps_after (Dials fresh more) (Dialled f) steps = more
steps_after (Says last pieces more progress) (Said bytes) steps = more
steps_after other piece steps = steps

-- a new connection: nobody is logged in
abbrev pub down : Progress
down = record { up = false; mark = 0 }

abbrev pub progress_after : Due → Piece → Progress → Progress
progress_after (Dials fresh more) (Dialled f) old = down
progress_after (Says last pieces more progress) (Said bytes) old = progress
progress_after other piece old = old

abbrev pub last_after : Due → Piece → Last → Last
last_after (Dials fresh more) (Dialled f) old = lasts.Dial
last_after (Says last pieces more progress) (Said bytes) old = last
last_after other piece old = old

abbrev pub tail : List (List ℕ) → List (List ℕ)
tail [] = []
tail (piece ∷ pieces) = pieces

abbrev pub left_after : Due → Piece → List (List ℕ) → List (List ℕ)
left_after (Dials fresh more) (Dialled f) old = []
left_after (Says last pieces more progress) (Said bytes) old = tail pieces
left_after other piece old = old

abbrev pub fresh_after : Piece → Bool → Bool
fresh_after (Dialled f) fresh = false
fresh_after other fresh = fresh

abbrev pub is_partial : Spoken → Bool
is_partial Partial = true
is_partial other = false

abbrev pub cut_after : Piece → Talk → Bool → Bool
cut_after (Dialled f) t cut = false
cut_after (Said bytes) t cut = is_partial (spoken_with (said_before t.state.told.phase t.said) bytes)
cut_after (Heard bytes) t cut = cut

-- the turn after one more piece
abbrev pub after : Turn → Piece → Turn
after t piece = record {
  errand = t.errand;
  talk = after_piece t.talk piece;
  steps = steps_after (due t) piece t.steps;
  progress = progress_after (due t) piece t.progress;
  fresh = fresh_after piece t.fresh;
  begun = true;
  cut = cut_after piece t.talk t.cut;
  last = last_after (due t) piece t.last;
  left = left_after (due t) piece t.left;
}

-- ---- which piece may come

-- the first bytes of these, or all
abbrev pub IsFrontOf : List ℕ → List ℕ → Type 0
IsFrontOf front bytes = (n : ℕ) × (front ≡ take n bytes)

abbrev pub IsAllowed : Due → Piece → Turn → Type 0
IsAllowed (Dials fresh more) (Dialled f) t = f ≡ fresh
IsAllowed (Says last (piece ∷ pieces) more progress) (Said bytes) t = IsFrontOf bytes piece
IsAllowed Waits (Heard bytes) t = heard_count t.talk.state + length bytes ≤ heard_limit
IsAllowed other piece t = ⊥

abbrev pub IsDue : Turn → Piece → Type 0
IsDue t piece = IsAllowed (due t) piece t

-- a talk with one piece more
abbrev pub with_piece : List Piece → Piece → List Piece
with_piece talk piece = talk ++ piece ∷ []

-- a turn goes on, and a talk that is told grows by its pieces
abbrev pub Continues : Option (List Piece) → Option (List Piece) → Turn → (Turn → Type 0) → Type 0
Continues old new t Is = GoesOn with_piece after IsDue old new t Is
