-- The pieces of each command.
use Rattle.std.proofs.Common.{◌≡◌, ℕ, ◌<◌, ◌^◌, ◌==◌, Bool, true, false, cond, Option, Some, None, List, [], ◌++◌, codes, decimal, refl, arith}
use Rattle.std.specs.List.{list_all}
use Rattle.imap_commands.specs.declared.command.Command.{Command}
use Rattle.imap_commands.specs.declared.command.Command.TheVariants.{Login, Capability, Enable, List as ListAll, Select, Noop, FetchNew, FetchChanged, FetchBody, Search, Store, Move, Expunge, Append}
use Rattle.imap_commands.specs.declared.command.Label.{Label}
use Rattle.imap_commands.specs.declared.command.Label.TheVariants.{Seen, Flagged, Answered, Deleted, Draft}
use Rattle.imap_commands.specs.declared.command.Known.{Known}
use Rattle.imap_commands.specs.Commands.{label_word, label_words, resync_parts, known_parts, sign, command_parts, tag_parts, command_pieces}
use Rattle.imap_commands.specs.Items.{Item, LexState, lex_step, lex_from}
use Rattle.imap_commands.specs.Items.LexState.{Between}
use Rattle.imap_commands.specs.ReadBack.{KnownFitsFieldTypes, FitsFieldTypes}
use Rattle.imap_commands.proofs.ItemLemmas.{is_word, decimal_words}
use Rattle.command_pieces.proofs.PassLemmas.{never}
use Rattle.command_pieces.proofs.PieceLemmas.{AreSent, PassWords, ArePassed, plain_words, parts_sent}

small : (n : ℕ) → n < 2 ^ 32 → n < 2 ^ 64
small n less = omega arith

numeral : (n : ℕ) → n < 2 ^ 64 → PassWords (decimal n)
numeral n fits = plain_words (decimal n) (decimal_words n fits)

-- the strings of LIST are among its words
items_in : LexState → List Item
items_in (Between items) = items
items_in place = []

list_passed : PassWords (codes "LIST \"\" \"*\"")
unfolding never lex_from lex_step items_in
list_passed items = (items_in (lex_from (Between items) (codes "LIST \"\" \"*\"")), record { silent = refl; comes = refl })

known_passed : (known : Option Known) → KnownFitsFieldTypes known → ArePassed (known_parts known)
known_passed None fits = tt
known_passed (Some known) fits =
    elim (known.mark == 0) as (λ b. ArePassed (cond b [] (resync_parts known))) [
      | true ↦ tt
      | false ↦ (plain_words _ refl, (numeral known.validity (small known.validity fits.0), (plain_words _ refl, (numeral known.mark fits.1, (plain_words _ refl, tt)))))
    ]

label_plain : (label : Label) → list_all is_word (label_word label) ≡ true
label_plain Seen = refl
label_plain Flagged = refl
label_plain Answered = refl
label_plain Deleted = refl
label_plain Draft = refl

labels_plain : (label : Option Label) → list_all is_word (label_words label) ≡ true
labels_plain None = refl
labels_plain (Some label) = label_plain label

sign_plain : (on : Bool) → list_all is_word (sign on) ≡ true
sign_plain true = refl
sign_plain false = refl

command_passed : (one : Command) → FitsFieldTypes one → ArePassed (command_parts one)
unfolding command_parts
command_passed (Login user password) fits = (plain_words _ refl, (fits.0, (plain_words _ refl, (fits.1, tt))))
command_passed Capability fits = (plain_words _ refl, tt)
command_passed Enable fits = (plain_words _ refl, tt)
command_passed ListAll fits = (list_passed, tt)
command_passed (Select folder known) fits = (plain_words _ refl, (fits.0, known_passed known fits.1))
command_passed Noop fits = (plain_words _ refl, tt)
command_passed (FetchNew from) fits = (plain_words _ refl, (numeral from (small from fits), (plain_words _ refl, tt)))
command_passed (FetchChanged mark) fits = (plain_words _ refl, (numeral mark fits, (plain_words _ refl, tt)))
command_passed (FetchBody uid) fits = (plain_words _ refl, (numeral uid (small uid fits), (plain_words _ refl, tt)))
command_passed (Search words) fits = (plain_words _ refl, (fits, tt))
command_passed (Store uid label on) fits = (plain_words _ refl, (numeral uid (small uid fits), (plain_words _ (sign_plain on), (plain_words _ (label_plain label), (plain_words _ refl, tt)))))
command_passed (Move uid to) fits = (plain_words _ refl, (numeral uid (small uid fits.0), (plain_words _ refl, (fits.1, tt))))
command_passed (Expunge uid) fits = (plain_words _ refl, (numeral uid (small uid fits), tt))
command_passed (Append folder label message) fits = (plain_words _ refl, (fits.0, (plain_words _ refl, (plain_words _ (labels_plain label), (plain_words _ refl, (fits.1, tt))))))

pub command_sent : (tag : ℕ) (one : Command) → tag < 2 ^ 32 → FitsFieldTypes one → AreSent (Between []) (command_pieces tag one)
unfolding command_pieces
command_sent tag one tag_fits fits = parts_sent (tag_parts tag ++ command_parts one) (plain_words _ refl, (numeral tag (small tag tag_fits), (plain_words _ refl, command_passed one fits))) []
