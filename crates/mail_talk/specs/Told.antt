-- What a list of pieces tells.
use Rattle.std.specs.Prelude.{◌≡◌, ℕ, List, [], ◌∷◌, ◌++◌}
use Rattle.std.specs.List.{fold}
use Rattle.account_pictures.specs.declared.talk.Piece.{Piece}
use Rattle.account_pictures.specs.declared.talk.Piece.TheVariants.{Dialled, Said, Heard}
use Rattle.command_pieces.specs.Spoken.{spoken_with}
use Rattle.command_pieces.specs.Verbs.{verb_of}
use Rattle.mail_talk.specs.declared.phase.Phase.{Phase}
use Rattle.mail_talk.specs.declared.phase.Phase.TheVariants as phase
use Rattle.mail_talk.specs.States.{nothing_told}
use Rattle.mail_talk.specs.Units.{TalkState, after_heard}
use Rattle.mail_talk.specs.Talks.{after_dialled, after_spoken}

-- the state, and what was said of the last command
pub record Talk : Type 0 where
  pub state : TalkState
  pub said : List ℕ

abbrev pub no_talk : Talk
no_talk = record { state = record { told = nothing_told; rest = []; at = 0; from = 0 }; said = [] }

-- what was said of the command whose pieces are not all said
abbrev pub said_before : Phase → List ℕ → List ℕ
said_before phase.Request said = said
said_before phase.Piece said = said
said_before other said = []

abbrev pub after_piece : Talk → Piece → Talk
after_piece t (Dialled fresh) = record { state = after_dialled fresh t.state; said = [] }
after_piece t (Said bytes) = record {
  state = after_spoken t.state.told.phase (spoken_with (said_before t.state.told.phase t.said) bytes) (verb_of bytes) t.state;
  said = said_before t.state.told.phase t.said ++ bytes;
}
after_piece t (Heard bytes) = record { state = after_heard bytes t.state; said = t.said }

-- what some pieces tell
abbrev pub told_of : List Piece → TalkState
told_of pieces = (fold after_piece no_talk pieces).state

-- no cut of the bytes that are heard changes what is told
abbrev pub CutsTellTheSame : Type 0
CutsTellTheSame = (before after : List Piece) (x y : List ℕ) → told_of (before ++ Heard x ∷ Heard y ∷ after) ≡ told_of (before ++ Heard (x ++ y) ∷ after)
