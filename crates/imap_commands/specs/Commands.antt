-- The parts of each command (RFC 9051 §6, RFC 7162 §3, RFC 4731).
use Rattle.std.specs.Prelude.{ℕ, Bool, true, false, ◌==◌, if◌then◌else◌, List, [], ◌∷◌, ◌++◌, codes, decimal, Option, Some, None}
use Rattle.imap_commands.specs.declared.command.Command.{Command}
use Rattle.imap_commands.specs.declared.command.Command.TheVariants.{Login, Capability, Enable, List as ListAll, Select, Noop, FetchNew, FetchChanged, FetchBody, Search, Store, Move, Expunge, Append}
use Rattle.imap_commands.specs.declared.command.Label.{Label}
use Rattle.imap_commands.specs.declared.command.Label.TheVariants.{Seen, Flagged, Answered, Deleted, Draft}
use Rattle.imap_commands.specs.declared.command.Known.{Known}
use Rattle.imap_commands.specs.Pieces.{Part, pieces_of}
use Rattle.imap_commands.specs.Pieces.Part.{Words, Text, Literal}

abbrev pub label_word : Label → List ℕ
label_word Seen = codes "\\Seen"
label_word Flagged = codes "\\Flagged"
label_word Answered = codes "\\Answered"
label_word Deleted = codes "\\Deleted"
label_word Draft = codes "\\Draft"

abbrev pub label_words : Option Label → List ℕ
label_words None = []
label_words (Some label) = label_word label

-- the QRESYNC parameters of a SELECT, which need a MODSEQ above 0
abbrev pub resync_parts : Known → List Part
resync_parts known = Words (codes " (QRESYNC (") ∷ Words (decimal known.validity) ∷ Words (codes " ") ∷ Words (decimal known.mark) ∷ Words (codes "))") ∷ []

abbrev pub mark_parts : Known → List Part
mark_parts known = if known.mark == 0 then [] else resync_parts known

abbrev pub known_parts : Option Known → List Part
known_parts None = []
known_parts (Some known) = mark_parts known

abbrev pub sign : Bool → List ℕ
sign true = codes " +FLAGS ("
sign false = codes " -FLAGS ("

-- the parts of a command after its tag and a space
unfoldable pub command_parts : Command → List Part
command_parts (Login user password) = Words (codes "LOGIN ") ∷ Text user ∷ Words (codes " ") ∷ Text password ∷ []
command_parts Capability = Words (codes "CAPABILITY") ∷ []
command_parts Enable = Words (codes "ENABLE IMAP4rev2 QRESYNC") ∷ []
command_parts ListAll = Words (codes "LIST \"\" \"*\"") ∷ []
command_parts (Select folder known) = Words (codes "SELECT ") ∷ Text folder ∷ known_parts known
command_parts Noop = Words (codes "NOOP") ∷ []
command_parts (FetchNew from) =
    Words (codes "UID FETCH ") ∷ Words (decimal from)
    ∷ Words (codes ":* (UID FLAGS MODSEQ INTERNALDATE RFC822.SIZE BODY.PEEK[HEADER.FIELDS (DATE FROM TO CC SUBJECT MESSAGE-ID IN-REPLY-TO REFERENCES)])") ∷ []
command_parts (FetchChanged mark) = Words (codes "UID FETCH 1:* (UID FLAGS MODSEQ) (CHANGEDSINCE ") ∷ Words (decimal mark) ∷ Words (codes " VANISHED)") ∷ []
command_parts (FetchBody uid) = Words (codes "UID FETCH ") ∷ Words (decimal uid) ∷ Words (codes " (UID BODY.PEEK[])") ∷ []
command_parts (Search words) = Words (codes "UID SEARCH RETURN (ALL) TEXT ") ∷ Text words ∷ []
command_parts (Store uid label on) = Words (codes "UID STORE ") ∷ Words (decimal uid) ∷ Words (sign on) ∷ Words (label_word label) ∷ Words (codes ")") ∷ []
command_parts (Move uid to) = Words (codes "UID MOVE ") ∷ Words (decimal uid) ∷ Words (codes " ") ∷ Text to ∷ []
command_parts (Expunge uid) = Words (codes "UID EXPUNGE ") ∷ Words (decimal uid) ∷ []
command_parts (Append folder label message) =
    Words (codes "APPEND ") ∷ Text folder ∷ Words (codes " (") ∷ Words (label_words label) ∷ Words (codes ") ") ∷ Literal message ∷ []

-- the tag: `A`, the number of the command, and a space
abbrev pub tag_parts : ℕ → List Part
tag_parts tag = Words (codes "A") ∷ Words (decimal tag) ∷ Words (codes " ") ∷ []

-- the pieces of a command, as they are sent
unfoldable pub command_pieces : ℕ → Command → List (List ℕ)
command_pieces tag command = pieces_of (tag_parts tag ++ command_parts command)
