-- Worked examples of commands.
use Rattle.std.proofs.Common.{◌≡◌, true, false, [], ◌∷◌, ◌++◌, map, Some, refl, codes}
use Rattle.std.specs.Prelude.{replicate}
use Rattle.std.specs.Fmt.{digits}
use Rattle.imap_commands.specs.Pieces.{is_quotable, pieces_of, line_end}
use Rattle.imap_commands.specs.Commands.{command_parts, command_pieces}
use Rattle.imap_commands.specs.declared.command.Command.TheVariants.{Login, Select, Noop, Append}
use Rattle.imap_commands.specs.declared.command.Label.TheVariants.{Seen}

-- one piece
noop : command_pieces 3 Noop ≡ (codes "A3 NOOP" ++ line_end) ∷ []
unfolding command_pieces command_parts pieces_of digits
noop = refl

-- a quoted string has a `\` before its quotes and backslashes; any other string is a literal in a piece of its own
login : command_pieces 1 (Login (codes "a\"b\\c") (112 ∷ 195 ∷ 169 ∷ [])) ≡ (codes "A1 LOGIN \"a\\\"b\\\\c\" {3}" ++ line_end) ∷ (112 ∷ 195 ∷ 169 ∷ line_end) ∷ []
unfolding command_pieces command_parts pieces_of digits
login = refl

empty : command_pieces 1 (Login [] (13 ∷ 10 ∷ [])) ≡ (codes "A1 LOGIN \"\" {2}" ++ line_end) ∷ (13 ∷ 10 ∷ line_end) ∷ []
unfolding command_pieces command_parts pieces_of digits
empty = refl

-- a folder with a known MODSEQ, and one without
resync : command_pieces 4 (Select (codes "INBOX") (Some (record { validity = 8; mark = 20 }))) ≡ (codes "A4 SELECT \"INBOX\" (QRESYNC (8 20))" ++ line_end) ∷ []
unfolding command_pieces command_parts pieces_of digits
resync = refl

no_mark : command_pieces 4 (Select (codes "INBOX") (Some (record { validity = 8; mark = 0 }))) ≡ (codes "A4 SELECT \"INBOX\"" ++ line_end) ∷ []
unfolding command_pieces command_parts pieces_of digits
no_mark = refl

-- a message is a literal whatever its bytes, and a line end is after it
appended : command_pieces 9 (Append (codes "Sent") (Some Seen) (codes "To: b")) ≡ (codes "A9 APPEND \"Sent\" (\\Seen) {5}" ++ line_end) ∷ (codes "To: b" ++ line_end) ∷ []
unfolding command_pieces command_parts pieces_of digits
appended = refl

-- a quoted string has at most 1,000 bytes
lengths : map is_quotable (replicate 1000 97 ∷ replicate 1001 97 ∷ []) ≡ true ∷ false ∷ []
lengths = refl
