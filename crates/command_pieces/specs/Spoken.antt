-- What the bytes that were said of a command are.
use Rattle.std.specs.Prelude.{ℕ, Bool, true, false, List, [], ◌∷◌, ◌++◌, Option, Some, None}
use Rattle.imap_commands.specs.declared.command.Command.{Command}
use Rattle.imap_commands.specs.CommandGrammar.{command_of}
use Rattle.command_pieces.specs.Asking.{asks}

pub data Spoken : Type 0 where
  -- a whole command, after its tag's number
  Complete : ℕ → Command → Spoken
  -- whole pieces of one, after which the server's continuation request is awaited
  Pieces : Spoken
  -- anything less
  Partial : Spoken

abbrev pub spoken_by : Option (ℕ × Command) → Bool → Spoken
spoken_by (Some one) asked = Complete one.0 one.1
spoken_by None true = Pieces
spoken_by None false = Partial

abbrev pub spoken_of : List ℕ → Spoken
spoken_of bytes = spoken_by (command_of bytes) (asks bytes)

-- what a piece makes of the bytes before it. A piece of no bytes is none.
abbrev pub spoken_with : List ℕ → List ℕ → Spoken
spoken_with front [] = Partial
spoken_with front (c ∷ piece) = spoken_of (front ++ c ∷ piece)
