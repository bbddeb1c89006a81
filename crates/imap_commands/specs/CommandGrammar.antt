-- The grammar of commands with their tags (RFC 9051 §2.2.1, §6, §9; RFC 7162 §7; RFC 4731). Each parser reads what it names, and then
-- calls the next parser on the rest.
use Rattle.std.specs.Prelude.{ℕ, ◌^◌, nat_lt, ◌+◌, ◌-◌, ◌*◌, ◌==◌, ◌&&◌, true, false, if◌then◌else◌, Option, Some, None, List, [], ◌∷◌, codes, option_map, option_and_then}
use Rattle.std.specs.Option.{option_or}
use Rattle.std.specs.Str.{bytes_eq}
use Rattle.imap_commands.specs.declared.command.Command.{Command}
use Rattle.imap_commands.specs.declared.command.Command.TheVariants.{Login, Capability, Enable, List as ListAll, Select, Noop, FetchNew, FetchChanged, FetchBody, Search, Store, Move, Expunge, Append}
use Rattle.imap_commands.specs.declared.command.Label.{Label}
use Rattle.imap_commands.specs.declared.command.Label.TheVariants.{Seen, Flagged, Answered, Deleted, Draft}
use Rattle.imap_commands.specs.Bytes.{is_digit}
use Rattle.imap_commands.specs.Items.{Item, items_of}
use Rattle.imap_commands.specs.Items.Item.{Byte, Str}

-- a parser of a whole list of items
abbrev pub Parser : Type 0 → Type 0
Parser A = List Item → Option A

-- the first of some parsers that succeeds
unfoldable pub first_of : {A : Type 0} → List (Parser A) → Parser A
first_of [] items = None
first_of (one ∷ more) items = option_or (one items) (first_of more items)

-- some words, and then the next parser
unfoldable pub expect_words : {A : Type 0} → List ℕ → Parser A → Parser A
expect_words [] next items = next items
expect_words (word ∷ words) next (Byte c ∷ items) = if c == word then expect_words words next items else None
expect_words (word ∷ words) next (Str text ∷ items) = None
expect_words (word ∷ words) next [] = None

-- a string, and then the next parser
unfoldable pub string : {A : Type 0} → (List ℕ → Parser A) → Parser A
string next (Str text ∷ items) = next text items
string next (Byte c ∷ items) = None
string next [] = None

-- a decimal number of at most `bits` bits, and then the next parser
abbrev pub number_below : {A : Type 0} → ℕ → (ℕ → Parser A) → ℕ → Parser A
number_below bits next n items = if nat_lt n (2 ^ bits) then next n items else None

unfoldable pub more_digits : {A : Type 0} → (ℕ → Parser A) → ℕ → Parser A
more_digits next n (Byte c ∷ items) = if is_digit c then more_digits next (10 * n + (c - 48)) items else next n (Byte c ∷ items)
more_digits next n (Str text ∷ items) = next n (Str text ∷ items)
more_digits next n [] = next n []

unfoldable pub number : {A : Type 0} → ℕ → (ℕ → Parser A) → Parser A
number bits next (Byte c ∷ items) = if is_digit c then more_digits (number_below bits next) (c - 48) items else None
number bits next (Str text ∷ items) = None
number bits next [] = None

-- the end
unfoldable pub expect_end : {A : Type 0} → A → Parser A
expect_end value [] = Some value
expect_end value (item ∷ items) = None

-- a flag, and then the next parser
unfoldable pub flag : {A : Type 0} → (Label → Parser A) → Parser A
flag next = first_of (
    expect_words (codes "\\Seen") (next Seen)
    ∷ expect_words (codes "\\Flagged") (next Flagged)
    ∷ expect_words (codes "\\Answered") (next Answered)
    ∷ expect_words (codes "\\Deleted") (next Deleted)
    ∷ expect_words (codes "\\Draft") (next Draft)
    ∷ [])

-- the commands, after their words
unfoldable pub select_command : Parser Command
select_command = string (λ folder. first_of (
    expect_end (Select folder None)
    ∷ expect_words (codes " (QRESYNC (") (number 32 (λ validity. expect_words (codes " ") (number 64 (λ mark. expect_words (codes "))") (expect_end (Select folder (Some (record { validity = validity; mark = mark }))))))))
    ∷ []))

unfoldable pub fetch_command : Parser Command
fetch_command = first_of (
    number 32 (λ uid. first_of (
    expect_words (codes ":* (UID FLAGS MODSEQ INTERNALDATE RFC822.SIZE BODY.PEEK[HEADER.FIELDS (DATE FROM TO CC SUBJECT MESSAGE-ID IN-REPLY-TO REFERENCES)])") (expect_end (FetchNew uid))
    ∷ expect_words (codes " (UID BODY.PEEK[])") (expect_end (FetchBody uid))
    ∷ []))
    ∷ expect_words (codes "1:* (UID FLAGS MODSEQ) (CHANGEDSINCE ") (number 64 (λ mark. expect_words (codes " VANISHED)") (expect_end (FetchChanged mark))))
    ∷ [])

unfoldable pub store_command : Parser Command
store_command = number 32 (λ uid. first_of (
    expect_words (codes " +FLAGS (") (flag (λ label. expect_words (codes ")") (expect_end (Store uid label true))))
    ∷ expect_words (codes " -FLAGS (") (flag (λ label. expect_words (codes ")") (expect_end (Store uid label false))))
    ∷ []))

unfoldable pub append_command : Parser Command
append_command = string (λ folder. expect_words (codes " (") (first_of (
    flag (λ label. expect_words (codes ") ") (string (λ message. expect_end (Append folder (Some label) message))))
    ∷ expect_words (codes ") ") (string (λ message. expect_end (Append folder None message)))
    ∷ [])))

-- a command, without its tag
unfoldable pub command : Parser Command
command = first_of (
    expect_words (codes "LOGIN ") (string (λ user. expect_words (codes " ") (string (λ password. expect_end (Login user password)))))
    ∷ expect_words (codes "CAPABILITY") (expect_end Capability)
    ∷ expect_words (codes "ENABLE IMAP4rev2 QRESYNC") (expect_end Enable)
    ∷ expect_words (codes "LIST ") (string (λ base. expect_words (codes " ") (string (λ names. if bytes_eq base [] && bytes_eq names (codes "*") then expect_end ListAll else first_of []))))
    ∷ expect_words (codes "SELECT ") select_command
    ∷ expect_words (codes "NOOP") (expect_end Noop)
    ∷ expect_words (codes "UID FETCH ") fetch_command
    ∷ expect_words (codes "UID SEARCH RETURN (ALL) TEXT ") (string (λ words. expect_end (Search words)))
    ∷ expect_words (codes "UID STORE ") store_command
    ∷ expect_words (codes "UID MOVE ") (number 32 (λ uid. expect_words (codes " ") (string (λ to. expect_end (Move uid to)))))
    ∷ expect_words (codes "UID EXPUNGE ") (number 32 (λ uid. expect_end (Expunge uid)))
    ∷ expect_words (codes "APPEND ") append_command
    ∷ [])

-- a command with its tag
unfoldable pub tagged_command : Parser (ℕ × Command)
tagged_command = expect_words (codes "A") (number 32 (λ tag. expect_words (codes " ") (λ items. option_map (λ one. (tag, one)) (command items))))

-- the command and tag number that bytes are, if they are one whole command
unfoldable pub command_of : List ℕ → Option (ℕ × Command)
command_of bytes = option_and_then tagged_command (items_of bytes)
