-- Worked examples of what was said of a command.
use Rattle.std.proofs.Common.{◌≡◌, ℕ, List, [], ◌∷◌, ◌++◌, refl, codes}
use Rattle.imap_commands.specs.Pieces.{line_end}
use Rattle.imap_commands.specs.Items.{lex_step, lex_from, items_of}
use Rattle.imap_commands.specs.CommandGrammar.{first_of, expect_words, string, more_digits, number, expect_end, flag, select_command, fetch_command, store_command, append_command, command, tagged_command, command_of}
use Rattle.imap_commands.specs.declared.command.Command.TheVariants.{Login}
use Rattle.command_pieces.specs.Spoken.{spoken_of, spoken_with}
use Rattle.command_pieces.specs.Spoken.Spoken.{Complete, Pieces, Partial}
use Rattle.command_pieces.specs.Verbs.{after_tag, verb_of}
use Rattle.command_pieces.specs.declared.verb.Verb.TheVariants.{Select, Search, Other}

first : List ℕ
first = codes "A1 LOGIN {1}" ++ line_end

second : List ℕ
second = codes "a {0}" ++ line_end

-- two literals, the second of them empty
whole_pieces : spoken_with [] first ≡ Pieces
unfolding first command_of items_of lex_from lex_step
whole_pieces = refl

more_pieces : spoken_with first second ≡ Pieces
unfolding first second command_of items_of lex_from lex_step
more_pieces = refl

whole_command : spoken_with (first ++ second) line_end ≡ Complete 1 (Login (codes "a") [])
unfolding first second command_of items_of lex_from lex_step tagged_command command first_of expect_words string number more_digits expect_end select_command fetch_command store_command append_command flag
whole_command = refl

-- a piece without its last byte, and one of no bytes
cut_piece : spoken_with [] (codes "A1 LOGIN {1}" ++ 13 ∷ []) ≡ Partial
unfolding command_of items_of lex_from lex_step
cut_piece = refl

no_piece : spoken_with first [] ≡ Partial
no_piece = refl

-- an empty quoted string is no size, and neither are the octets of a literal
quoted : spoken_of (codes "A1 LOGIN \"\"") ≡ Partial
unfolding command_of items_of lex_from lex_step
quoted = refl

size_in_literal : spoken_of (codes "A1 LOGIN {5}" ++ line_end ++ codes "{1}" ++ line_end) ≡ Partial
unfolding command_of items_of lex_from lex_step
size_in_literal = refl

select_named : verb_of (codes "A12 SELECT {5}" ++ line_end) ≡ Select
unfolding after_tag
select_named = refl

search_named : verb_of (codes "A12 UID SEARCH RETURN (ALL) TEXT {5}" ++ line_end) ≡ Search
unfolding after_tag
search_named = refl

other_named : verb_of (codes "A12 UID MOVE 3 {5}" ++ line_end) ≡ Other
unfolding after_tag
other_named = refl
