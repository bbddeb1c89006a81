-- Worked examples of commands that are read, and of sets of UIDs.
use Rattle.std.proofs.Common.{◌≡◌, true, false, List, [], ◌∷◌, ◌++◌, Some, None, refl, codes}
use Rattle.imap_commands.specs.Pieces.{line_end}
use Rattle.imap_commands.specs.Items.{lex_step, lex_from, items_of}
use Rattle.imap_commands.specs.Items.Item.{Byte, Str}
use Rattle.imap_commands.specs.CommandGrammar.{first_of, expect_words, string, more_digits, number, expect_end, flag, select_command, fetch_command, store_command, append_command, command, tagged_command, command_of}
use Rattle.imap_commands.specs.UidSets.{contains_uid}
use Rattle.imap_commands.specs.declared.uid_set.UidRange.{UidRange}
use Rattle.imap_commands.specs.declared.command.Command.TheVariants.{Login, Select, FetchChanged, Store, Append}
use Rattle.imap_commands.specs.declared.command.Label.TheVariants.{Seen, Deleted}

-- a quoted string without its `\`, and a literal of three bytes that would begin a string or end a line
items : items_of (codes "A \"b\\\"c\" {3}" ++ line_end ++ 34 ∷ 13 ∷ 10 ∷ [] ++ line_end) ≡ Some (Byte 65 ∷ Byte 32 ∷ Str (codes "b\"c") ∷ Byte 32 ∷ Str (34 ∷ 13 ∷ 10 ∷ []) ∷ [])
unfolding items_of lex_from lex_step
items = refl

-- a literal that lacks its last byte, a line end within quotes, a size that is no number, and what comes after a command
too_short : items_of (codes "A {3}" ++ line_end ++ 13 ∷ 10 ∷ []) ≡ None
unfolding items_of lex_from lex_step
too_short = refl

torn : items_of (codes "A \"b" ++ line_end ++ codes "\"" ++ line_end) ≡ None
unfolding items_of lex_from lex_step
torn = refl

no_size : items_of (codes "A {}" ++ line_end ++ line_end) ≡ None
unfolding items_of lex_from lex_step
no_size = refl

two : items_of (codes "A1 NOOP" ++ line_end ++ codes "A2 NOOP" ++ line_end) ≡ None
unfolding items_of lex_from lex_step
two = refl

login : command_of (codes "A1 LOGIN {1}" ++ line_end ++ codes "a \"b\"" ++ line_end) ≡ Some (1, Login (codes "a") (codes "b"))
unfolding command_of items_of lex_from lex_step tagged_command command first_of expect_words string number more_digits expect_end select_command fetch_command store_command append_command flag
login = refl

resync : command_of (codes "A4 SELECT \"INBOX\" (QRESYNC (8 20))" ++ line_end) ≡ Some (4, Select (codes "INBOX") (Some (record { validity = 8; mark = 20 })))
unfolding command_of items_of lex_from lex_step tagged_command command first_of expect_words string number more_digits expect_end select_command fetch_command store_command append_command flag
resync = refl

-- the two commands that fetch from a first UID on
changed : command_of (codes "A5 UID FETCH 1:* (UID FLAGS MODSEQ) (CHANGEDSINCE 20 VANISHED)" ++ line_end) ≡ Some (5, FetchChanged 20)
unfolding command_of items_of lex_from lex_step tagged_command command first_of expect_words string number more_digits expect_end select_command fetch_command store_command append_command flag
changed = refl

stored : command_of (codes "A6 UID STORE 4294967295 -FLAGS (\\Deleted)" ++ line_end) ≡ Some (6, Store 4294967295 Deleted false)
unfolding command_of items_of lex_from lex_step tagged_command command first_of expect_words string number more_digits expect_end select_command fetch_command store_command append_command flag
stored = refl

-- a UID past 32 bits
too_large : command_of (codes "A6 UID EXPUNGE 4294967296" ++ line_end) ≡ None
unfolding command_of items_of lex_from lex_step tagged_command command first_of expect_words string number more_digits expect_end select_command fetch_command store_command append_command flag
too_large = refl

appended : command_of (codes "A9 APPEND \"Sent\" (\\Seen) {5}" ++ line_end ++ codes "To: b" ++ line_end) ≡ Some (9, Append (codes "Sent") (Some Seen) (codes "To: b"))
unfolding command_of items_of lex_from lex_step tagged_command command first_of expect_words string number more_digits expect_end select_command fetch_command store_command append_command flag
appended = refl

no_flag : command_of (codes "A9 APPEND \"Sent\" () {0}" ++ line_end ++ line_end) ≡ Some (9, Append (codes "Sent") None [])
unfolding command_of items_of lex_from lex_step tagged_command command first_of expect_words string number more_digits expect_end select_command fetch_command store_command append_command flag
no_flag = refl

-- the first piece of that command
first_piece : command_of (codes "A9 APPEND \"Sent\" () {0}" ++ line_end) ≡ None
unfolding command_of items_of lex_from lex_step
first_piece = refl

-- the ends of a range are in it
ranges : List UidRange
ranges = record { first = 3; last = 5 } ∷ record { first = 9; last = 9 } ∷ []

upper : contains_uid 5 ranges ≡ true
unfolding ranges
upper = refl

between : contains_uid 6 ranges ≡ false
unfolding ranges
between = refl
