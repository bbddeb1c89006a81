-- What the pieces of a command tell, as they are written.
use Rattle.std.specs.Prelude.{◌≡◌, ℕ, ◌+◌, ◌<◌, ◌^◌, List, [], ◌∷◌, ◌++◌, length, take}
use Rattle.std.specs.List.{concat}
use Rattle.account_pictures.specs.declared.talk.Piece.TheVariants.{Said}
use Rattle.imap_commands.specs.declared.command.Command.{Command}
use Rattle.imap_commands.specs.Commands.{command_pieces}
use Rattle.imap_commands.specs.ReadBack.{FitsFieldTypes}
use Rattle.command_pieces.specs.Verbs.{verb_of_command}
use Rattle.mail_talk.specs.declared.phase.Phase.TheVariants as phase
use Rattle.mail_talk.specs.Units.{TalkState}
use Rattle.mail_talk.specs.Talks.{after_began, after_said, after_went_on, after_completed}
use Rattle.mail_talk.specs.Told.{Talk, said_before, after_piece}

-- the first piece, which others may follow; a later piece
abbrev pub after_first_piece : List (List ℕ) → Command → TalkState → TalkState
after_first_piece [] one s = after_said one s
after_first_piece (next ∷ pieces) one s = after_began (verb_of_command one) s

abbrev pub after_later_piece : List (List ℕ) → Command → TalkState → TalkState
after_later_piece [] one s = after_completed one s
after_later_piece (next ∷ pieces) one s = after_went_on s

-- the first piece of a command that is said as it is written, with the next number in its tag
abbrev pub FirstPiecesTell : Type 0
FirstPiecesTell = (t : Talk) (one : Command) (piece : List ℕ) (pieces : List (List ℕ)) → FitsFieldTypes one → t.state.told.view.number + 1 < 2 ^ 32 → t.state.told.phase ≡ phase.Idle
    → command_pieces (t.state.told.view.number + 1) one ≡ piece ∷ pieces → (after_piece t (Said piece)).state ≡ after_first_piece pieces one t.state

-- a later one, after others
abbrev pub LaterPiecesTell : Type 0
LaterPiecesTell = (t : Talk) (one : Command) (before : List (List ℕ)) (piece : List ℕ) (pieces : List (List ℕ)) → FitsFieldTypes one → t.state.told.view.number < 2 ^ 32 → t.state.told.phase ≡ phase.Piece
    → command_pieces t.state.told.view.number one ≡ before ++ piece ∷ pieces → t.said ≡ concat before → (after_piece t (Said piece)).state ≡ after_later_piece pieces one t.state

-- a piece that is said only in part tells nothing
abbrev pub CutPiecesTellNothing : Type 0
CutPiecesTellNothing = (t : Talk) (one : Command) (before : List (List ℕ)) (piece : List ℕ) (pieces : List (List ℕ)) (tag n : ℕ) → FitsFieldTypes one → tag < 2 ^ 32
    → command_pieces tag one ≡ before ++ piece ∷ pieces → said_before t.state.told.phase t.said ≡ concat before → n < length piece → (after_piece t (Said (take n piece))).state ≡ t.state
