-- What contracts see of an account's side of its mail server.
use Rattle.std.specs.Prelude.{◌≡◌, ℕ, Bool, true, false, List, Option, Some, None}
use Rattle.account_pictures.specs.declared.talk.Piece.{Piece}
use Rattle.mail_talk.specs.Told.{told_of}
use Rattle.mail_talk.specs.Units.{TalkState}
use Rattle.account_script.specs.declared.steps.Credentials.{Credentials}
use Rattle.account_turns.specs.Steps.{is_unsteady}

pub record SideState : Type 0 where
  -- the talk of the link, if that tells it, and the number of its faults
  pub talk : Option (List Piece)
  pub faults : ℕ
  -- what is kept of the talk
  pub ear : TalkState
  -- who logged in last
  pub who : Option Credentials
  -- the account is logged in
  pub up : Bool
  -- the next dial forgets what was told
  pub fresh : Bool

-- a talk that is told is these pieces
abbrev pub IsTalk : Option (List Piece) → List Piece → Type 0
IsTalk None pieces = Unit {0}
IsTalk (Some talk) pieces = talk ≡ pieces

-- what is kept is what the talk comes to; if the link doesn't tell it, what some talk comes to
pub record KeepsTalk (talk : Option (List Piece)) (ear : TalkState) : Type 0 where
  pub pieces : List Piece
  pub same : IsTalk talk pieces
  pub told : told_of pieces ≡ ear

-- after want of memory nothing is known, and the next dial forgets all
abbrev pub IsKept : Option (List Piece) → Bool → TalkState → Type 0
IsKept talk fresh ear = fresh ≡ false → KeepsTalk talk ear

-- if the account is logged in, a command may be said
abbrev pub IsSteady : Bool → Bool → TalkState → Type 0
IsSteady up fresh ear = up ≡ true → is_unsteady fresh ear ≡ false
