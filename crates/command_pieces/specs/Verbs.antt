-- What the first words of a command tell (RFC 9051 §6.3.2, §6.4.4).
use Rattle.std.specs.Prelude.{ℕ, Bool, ◌==◌, if◌then◌else◌, List, [], ◌∷◌, codes}
use Rattle.std.specs.List.{starts_with}
use Rattle.imap_commands.specs.Bytes.{space}
use Rattle.imap_commands.specs.declared.command.Command.{Command}
use Rattle.imap_commands.specs.declared.command.Command.TheVariants.{Select as select_command, Search as search_command}
use Rattle.command_pieces.specs.declared.verb.Verb.{Verb}
use Rattle.command_pieces.specs.declared.verb.Verb.TheVariants.{Select, Search, Other}

abbrev pub verb_of_command : Command → Verb
verb_of_command (select_command folder known) = Select
verb_of_command (search_command words) = Search
verb_of_command other = Other

-- the bytes after the tag and its space
unfoldable pub after_tag : List ℕ → List ℕ
after_tag [] = []
after_tag (c ∷ bytes) = if c == space then bytes else after_tag bytes

abbrev pub begins_with : List ℕ → List ℕ → Bool
begins_with words bytes = starts_with (λ a b. a == b) bytes words

abbrev pub verb_of_words : List ℕ → Verb
verb_of_words words = if begins_with (codes "SELECT ") words then Select else (if begins_with (codes "UID SEARCH ") words then Search else Other)

-- the verb of a command, by its first piece
abbrev pub verb_of : List ℕ → Verb
verb_of piece = verb_of_words (after_tag piece)
