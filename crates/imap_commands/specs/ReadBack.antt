-- Commands that are written read back as themselves.
use Rattle.std.specs.Prelude.{◌≡◌, ℕ, ◌<◌, ◌^◌, ◌==◌, if◌then◌else◌, Option, Some, None, IsSome, List, ◌∷◌, ◌++◌, length}
use Rattle.std.specs.List.{concat, AllByRecursion}
use Rattle.imap_commands.specs.declared.command.Command.{Command}
use Rattle.imap_commands.specs.declared.command.Command.TheVariants.{Login, Capability, Enable, List as ListAll, Select, Noop, FetchNew, FetchChanged, FetchBody, Search, Store, Move, Expunge, Append}
use Rattle.imap_commands.specs.declared.command.Known.{Known}
use Rattle.imap_commands.specs.Commands.{command_pieces}
use Rattle.imap_commands.specs.CommandGrammar.{command_of}

-- the command that is read back: a SELECT with the MODSEQ 0 has no QRESYNC parameters
abbrev pub without_mark : Known → Option Known
without_mark known = if known.mark == 0 then None else Some known

abbrev pub written_known : Option Known → Option Known
written_known None = None
written_known (Some known) = without_mark known

abbrev pub written_form : Command → Command
written_form (Select folder known) = Select folder (written_known known)
written_form one = one

-- the numbers of a command fit the types of its fields, and its texts fit into memory
abbrev pub KnownFitsFieldTypes : Option Known → Type 0
KnownFitsFieldTypes None = Unit {0}
KnownFitsFieldTypes (Some known) = (known.validity < 2 ^ 32) × (known.mark < 2 ^ 64)

abbrev pub FitsFieldTypes : Command → Type 0
FitsFieldTypes (Login user password) = (length user < 2 ^ 64) × (length password < 2 ^ 64)
FitsFieldTypes Capability = Unit {0}
FitsFieldTypes Enable = Unit {0}
FitsFieldTypes ListAll = Unit {0}
FitsFieldTypes (Select folder known) = (length folder < 2 ^ 64) × KnownFitsFieldTypes known
FitsFieldTypes Noop = Unit {0}
FitsFieldTypes (FetchNew from) = from < 2 ^ 32
FitsFieldTypes (FetchChanged mark) = mark < 2 ^ 64
FitsFieldTypes (FetchBody uid) = uid < 2 ^ 32
FitsFieldTypes (Search words) = length words < 2 ^ 64
FitsFieldTypes (Store uid label on) = uid < 2 ^ 32
FitsFieldTypes (Move uid to) = (uid < 2 ^ 32) × (length to < 2 ^ 64)
FitsFieldTypes (Expunge uid) = uid < 2 ^ 32
FitsFieldTypes (Append folder label message) = (length folder < 2 ^ 64) × (length message < 2 ^ 64)

-- the joined pieces of a command read as that command and its tag
abbrev pub CommandsReadBack : Type 0
CommandsReadBack = (tag : ℕ) (one : Command) → tag < 2 ^ 32 → FitsFieldTypes one → command_of (concat (command_pieces tag one)) ≡ Some (tag, written_form one)

-- no proper prefix of some bytes is a command
abbrev pub HasNoCommandPrefix : List ℕ → Type 0
HasNoCommandPrefix bytes = (front : List ℕ) (byte : ℕ) (back : List ℕ) → bytes ≡ front ++ byte ∷ back → command_of front ≡ None

-- no command is a proper prefix of another
abbrev pub NoCommandIsPrefix : Type 0
NoCommandIsPrefix = (bytes : List ℕ) → IsSome (command_of bytes) → HasNoCommandPrefix bytes

-- no piece is empty, so all pieces but the last are a proper prefix, which is no command
abbrev pub PiecesAreNonempty : Type 0
PiecesAreNonempty = (tag : ℕ) (one : Command) → AllByRecursion (λ piece. 0 < length piece) (command_pieces tag one)
