-- The pieces of a command while it is written.
use Rattle.std.specs.Prelude.{◌≡◌, ℕ, List, ◌∷◌, ◌++◌, map}
use Rattle.std.specs.Global.{Vec}
pub use Rattle.mail_values.specs.Ascii.{bytes_of_vecs}
use Rattle.imap_commands.specs.declared.pieces.Pieces.{Pieces}
use Rattle.imap_commands.specs.Pieces.{Part, pieces_of, onto_first}

-- the pieces so far, followed by those of more parts
abbrev pub pieces_with : Pieces → List Part → List (List ℕ)
pieces_with p more = bytes_of_vecs p.whole.items ++ onto_first p.last.items (pieces_of more)

-- a part is appended
abbrev pub AppendsPart : Pieces → Pieces → Part → Type 0
AppendsPart before after part = (more : List Part) → pieces_with after more ≡ pieces_with before (part ∷ more)

-- some parts are appended
abbrev pub AppendsParts : Pieces → Pieces → List Part → Type 0
AppendsParts before after parts = (more : List Part) → pieces_with after more ≡ pieces_with before (parts ++ more)
