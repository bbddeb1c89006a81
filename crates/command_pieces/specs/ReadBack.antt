-- Pieces of a command that are said one after another read back as that command.
use Rattle.std.specs.Prelude.{◌≡◌, ℕ, ◌<◌, ◌^◌, List, [], ◌∷◌, ◌++◌, length, take}
use Rattle.imap_commands.specs.declared.command.Command.{Command}
use Rattle.imap_commands.specs.Commands.{command_pieces}
use Rattle.imap_commands.specs.ReadBack.{FitsFieldTypes, written_form}
use Rattle.command_pieces.specs.Spoken.{Spoken, spoken_with}
use Rattle.command_pieces.specs.Spoken.Spoken.{Complete, Pieces, Partial}
use Rattle.command_pieces.specs.declared.verb.Verb.{Verb}
use Rattle.command_pieces.specs.Verbs.{verb_of, verb_of_command}

-- no proper prefix of a piece makes more of the bytes before it
abbrev pub IsPartialWithin : List ℕ → List ℕ → Type 0
IsPartialWithin front piece = (n : ℕ) → n < length piece → spoken_with front (take n piece) ≡ Partial

-- what was said before the pieces that are left
abbrev pub spoken_before : List (List ℕ) → ℕ → Command → Spoken
spoken_before [] tag command = Complete tag command
spoken_before (piece ∷ pieces) tag command = Pieces

-- after the bytes in front, each piece reads as one
abbrev pub ReadAs : List ℕ → List (List ℕ) → ℕ → Command → Type 0
ReadAs front [] tag command = Unit {0}
ReadAs front (piece ∷ pieces) tag command = IsPartialWithin front piece × (spoken_with front piece ≡ spoken_before pieces tag command) × ReadAs (front ++ piece) pieces tag command

-- the pieces of a command read as it and its tag
abbrev pub PiecesReadBack : Type 0
PiecesReadBack = (tag : ℕ) (one : Command) → tag < 2 ^ 32 → FitsFieldTypes one → ReadAs [] (command_pieces tag one) tag (written_form one)

abbrev pub FirstNames : List (List ℕ) → Verb → Type 0
FirstNames [] verb = ⊥
FirstNames (first ∷ pieces) verb = verb_of first ≡ verb

-- the first piece of a command names its verb
abbrev pub FirstPiecesNameVerbs : Type 0
FirstPiecesNameVerbs = (tag : ℕ) (one : Command) → tag < 2 ^ 32 → FirstNames (command_pieces tag one) (verb_of_command one)
