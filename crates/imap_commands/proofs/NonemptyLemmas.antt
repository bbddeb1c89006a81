-- Pieces have at least one byte.
use Rattle.std.proofs.Common.{ℕ, ◌<◌, List, [], ◌∷◌, ◌++◌, inl, inr, length, length-append, lit<, arith}
use Rattle.std.proofs.lemmas.Bool.{cases_Bool}
use Rattle.std.specs.List.{AllByRecursion}
use Rattle.imap_commands.specs.Pieces.{Part, pieces_of, onto_first, literal_before, is_quotable, quoted}
use Rattle.imap_commands.specs.Pieces.Part.{Words, Text, Literal}
use Rattle.imap_commands.specs.Commands.{command_parts, tag_parts, command_pieces}
use Rattle.imap_commands.specs.ReadBack.{PiecesAreNonempty}

-- there is a piece, and none is empty
abbrev AreNonempty : List (List ℕ) → Type 0
AreNonempty [] = ⊥
AreNonempty (first ∷ more) = (0 < length first) × AllByRecursion (λ piece. 0 < length piece) more

filled_onto : (bytes : List ℕ) (pieces : List (List ℕ)) → AreNonempty pieces → AreNonempty (onto_first bytes pieces)
filled_onto bytes [] filled = absurd filled
filled_onto bytes (first ∷ more) filled = (let some = filled.0 in rw length-append (omega arith), filled.1)

all_filled : (pieces : List (List ℕ)) → AreNonempty pieces → AllByRecursion (λ piece. 0 < length piece) pieces
all_filled [] filled = absurd filled
all_filled (first ∷ more) filled = filled

filled_literal : (text : List ℕ) (pieces : List (List ℕ)) → AreNonempty pieces → AreNonempty (literal_before text pieces)
filled_literal text pieces filled = (omega arith, all_filled (onto_first text pieces) (filled_onto text pieces filled))

filled_pieces : (parts : List Part) → AreNonempty (pieces_of parts)
unfolding pieces_of
filled_pieces [] = (lit< tt, tt)
filled_pieces (Words words ∷ more) = filled_onto words (pieces_of more) (filled_pieces more)
filled_pieces (Text text ∷ more) =
    elim (cases_Bool (is_quotable text)) [
      | inl short ↦ rw short (filled_onto (quoted text) (pieces_of more) (filled_pieces more))
      | inr long ↦ rw long (filled_literal text (pieces_of more) (filled_pieces more))
    ]
filled_pieces (Literal text ∷ more) = filled_literal text (pieces_of more) (filled_pieces more)

pub command_pieces_nonempty : PiecesAreNonempty
unfolding command_pieces
command_pieces_nonempty tag one = all_filled _ (filled_pieces (tag_parts tag ++ command_parts one))
