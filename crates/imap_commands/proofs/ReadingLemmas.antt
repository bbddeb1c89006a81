-- The pieces of a command read as that command.
use Rattle.std.proofs.Common.{◌≡◌, ℕ, ◌+◌, ◌/◌, ◌%◌, ◌<◌, ◌^◌, ◌==◌, Bool, true, false, cond, Option, Some, None, List, [], ◌∷◌, ◌++◌, map, not, nat_lt, codes, decimal, inl, inr, refl, ap, ◌∙◌, arith, append_assoc, subst, option_map, option_and_then, IsSome, lit<}
use Rattle.std.specs.List.{list_all, concat}
use Rattle.std.proofs.lemmas.Bool.{cases_Bool}
use Rattle.std.proofs.lemmas.Bool.Decides.{nat_tests}
use Rattle.std.proofs.lemmas.List.{map-append}
use Rattle.std.proofs.lemmas.Fmt.{decimal_by_steps}
use Rattle.imap_commands.specs.declared.command.Command.{Command}
use Rattle.imap_commands.specs.declared.command.Command.TheVariants.{Login, Capability, Enable, List as ListAll, Select, Noop, FetchNew, FetchChanged, FetchBody, Search, Store, Move, Expunge, Append}
use Rattle.imap_commands.specs.declared.command.Label.{Label}
use Rattle.imap_commands.specs.declared.command.Label.TheVariants.{Seen, Flagged, Answered, Deleted, Draft}
use Rattle.imap_commands.specs.declared.command.Known.{Known}
use Rattle.imap_commands.specs.Pieces.{Part, pieces_of}
use Rattle.imap_commands.specs.Pieces.Part.{Words, Text, Literal}
use Rattle.imap_commands.specs.Commands.{label_word, label_words, resync_parts, mark_parts, known_parts, sign, command_parts, tag_parts, command_pieces}
use Rattle.imap_commands.specs.Bytes.{is_digit}
use Rattle.imap_commands.specs.Items.{Item, items_of}
use Rattle.imap_commands.specs.Items.Item.{Byte, Str}
use Rattle.imap_commands.specs.CommandGrammar.{Parser, first_of, expect_words, string, number_below, more_digits, number, expect_end, flag, select_command, fetch_command, store_command, append_command, command, tagged_command, command_of}
use Rattle.imap_commands.specs.ReadBack.{without_mark, written_known, written_form, KnownFitsFieldTypes, FitsFieldTypes, CommandsReadBack, HasNoCommandPrefix, NoCommandIsPrefix}
use Rattle.imap_commands.proofs.ItemLemmas.{AreSpelled, items_said, items_of_parts, is_word, decimal_words, not_before_its_end}

one_digit : {A : Type 0} (bits : ℕ) (next : ℕ → Parser A) (n : ℕ) (rest : List Item) → n < 10 → number bits next (Byte (48 + n) ∷ rest) ≡ more_digits (number_below bits next) n rest
unfolding number
one_digit bits next n rest less = let d : is_digit (48 + n) ≡ true = grind (arith, nat_tests) in rw d (ap (λ (m : ℕ). more_digits (number_below bits next) m rest) (omega arith))

more_digit : {A : Type 0} (next : ℕ → Parser A) (n : ℕ) (rest : List Item) → more_digits next (n / 10) (Byte (48 + n % 10) ∷ rest) ≡ more_digits next n rest
unfolding more_digits
more_digit next n rest = let d : is_digit (48 + n % 10) ≡ true = grind (arith, nat_tests) in rw d (ap (λ (m : ℕ). more_digits next m rest) (omega arith))

number_read : {A : Type 0} (bits : ℕ) (next : ℕ → Parser A) (n : ℕ) → n < 2 ^ 64 → (rest : List Item) → number bits next (map Byte (decimal n) ++ rest) ≡ more_digits (number_below bits next) n rest
number_read bits next = decimal_by_steps
    (λ n ds. (rest : List Item) → number bits next (map Byte ds ++ rest) ≡ more_digits (number_below bits next) n rest)
    (λ n less rest. one_digit bits next n rest less)
    (λ n ds over more rest.
    ap (λ (x : List Item). number bits next (x ++ rest)) (map-append Byte ds ((48 + n % 10) ∷ []))
    ∙ ap (number bits next) (append_assoc (map Byte ds) (Byte (48 + n % 10) ∷ []) rest)
    ∙ more (Byte (48 + n % 10) ∷ rest)
    ∙ more_digit (number_below bits next) n rest)

-- a number ends before what is no digit
stops : List Item → Bool
stops (Byte c ∷ items) = not (is_digit c)
stops _ = true

from_not : (b : Bool) → not b ≡ true → b ≡ false
from_not true is = absurd cc
from_not false is = refl

digits_end : {A : Type 0} (next : ℕ → Parser A) (n : ℕ) (rest : List Item) → stops rest ≡ true → more_digits next n rest ≡ next n rest
unfolding more_digits stops
digits_end next n [] end = refl
digits_end next n (Str text ∷ rest) end = refl
digits_end next n (Byte c ∷ rest) end = let d : is_digit c ≡ false = from_not (is_digit c) end in rw d refl

whole_number : {A : Type 0} (bits : ℕ) (next : ℕ → Parser A) (n : ℕ) (rest : List Item) → n < 2 ^ 64 → n < 2 ^ bits → stops rest ≡ true → number bits next (map Byte (decimal n) ++ rest) ≡ next n rest
whole_number bits next n rest small within end =
    let test : nat_lt n (2 ^ bits) ≡ true = grind (arith, nat_tests) in
    number_read bits next n small rest ∙ digits_end (number_below bits next) n rest end ∙ rw test refl

-- numbers of 32 bits and of 64
small : (n : ℕ) → n < 2 ^ 32 → n < 2 ^ 64
small n less = omega arith

number_32 : {A : Type 0} (next : ℕ → Parser A) (n : ℕ) (rest : List Item) → n < 2 ^ 32 → stops rest ≡ true → number 32 next (map Byte (decimal n) ++ rest) ≡ next n rest
number_32 next n rest less end = whole_number 32 next n rest (small n less) less end

number_64 : {A : Type 0} (next : ℕ → Parser A) (n : ℕ) (rest : List Item) → n < 2 ^ 64 → stops rest ≡ true → number 64 next (map Byte (decimal n) ++ rest) ≡ next n rest
number_64 next n rest less end = whole_number 64 next n rest less less end

-- ---- each command

known_read : (folder : List ℕ) (known : Known) → known.validity < 2 ^ 32 → known.mark < 2 ^ 64 → select_command (Str folder ∷ items_said (resync_parts known)) ≡ Some (Select folder (Some known))
unfolding select_command string first_of expect_words expect_end stops
known_read folder known one other = rw (number_32 _ known.validity _ one refl) (rw (number_64 _ known.mark _ other refl) refl)

mark_read : (folder : List ℕ) (known : Known) → known.validity < 2 ^ 32 → known.mark < 2 ^ 64 → select_command (Str folder ∷ items_said (mark_parts known)) ≡ Some (Select folder (without_mark known))
unfolding select_command string first_of expect_end
mark_read folder known one other =
    elim (cases_Bool (known.mark == 0)) [ inl none ↦ rw none refl | inr some ↦ rw some (known_read folder known one other) ]

select_read : (folder : List ℕ) (known : Option Known) → KnownFitsFieldTypes known → select_command (Str folder ∷ items_said (known_parts known)) ≡ Some (Select folder (written_known known))
unfolding select_command string first_of expect_end
select_read folder None fits = refl
select_read folder (Some known) fits = mark_read folder known fits.0 fits.1

fetch_new_read : (uid : ℕ) → uid < 2 ^ 32 → fetch_command (items_said (Words (decimal uid) ∷ Words (codes ":* (UID FLAGS MODSEQ INTERNALDATE RFC822.SIZE BODY.PEEK[HEADER.FIELDS (DATE FROM TO CC SUBJECT MESSAGE-ID IN-REPLY-TO REFERENCES)])") ∷ [])) ≡ Some (FetchNew uid)
unfolding fetch_command first_of expect_words expect_end stops
fetch_new_read uid fits = rw (number_32 _ uid _ fits refl) refl

fetch_body_read : (uid : ℕ) → uid < 2 ^ 32 → fetch_command (items_said (Words (decimal uid) ∷ Words (codes " (UID BODY.PEEK[])") ∷ [])) ≡ Some (FetchBody uid)
unfolding fetch_command first_of expect_words expect_end stops
fetch_body_read uid fits = rw (number_32 _ uid _ fits refl) refl

changed_read : (mark : ℕ) → mark < 2 ^ 64 → fetch_command (items_said (Words (codes "1:* (UID FLAGS MODSEQ) (CHANGEDSINCE ") ∷ Words (decimal mark) ∷ Words (codes " VANISHED)") ∷ [])) ≡ Some (FetchChanged mark)
unfolding fetch_command first_of expect_words expect_end stops number more_digits
changed_read mark fits = rw (number_64 _ mark _ fits refl) refl

sign_read : (uid : ℕ) (label : Label) (on : Bool) → uid < 2 ^ 32 → store_command (items_said (Words (decimal uid) ∷ Words (sign on) ∷ Words (label_word label) ∷ Words (codes ")") ∷ [])) ≡ Some (Store uid label on)
unfolding store_command first_of expect_words expect_end stops flag
sign_read uid Seen true fits = rw (number_32 _ uid _ fits refl) refl
sign_read uid Flagged true fits = rw (number_32 _ uid _ fits refl) refl
sign_read uid Answered true fits = rw (number_32 _ uid _ fits refl) refl
sign_read uid Deleted true fits = rw (number_32 _ uid _ fits refl) refl
sign_read uid Draft true fits = rw (number_32 _ uid _ fits refl) refl
sign_read uid Seen false fits = rw (number_32 _ uid _ fits refl) refl
sign_read uid Flagged false fits = rw (number_32 _ uid _ fits refl) refl
sign_read uid Answered false fits = rw (number_32 _ uid _ fits refl) refl
sign_read uid Deleted false fits = rw (number_32 _ uid _ fits refl) refl
sign_read uid Draft false fits = rw (number_32 _ uid _ fits refl) refl

append_read : (folder message : List ℕ) (label : Option Label) → append_command (items_said (Text folder ∷ Words (codes " (") ∷ Words (label_words label) ∷ Words (codes ") ") ∷ Literal message ∷ [])) ≡ Some (Append folder label message)
unfolding append_command string first_of expect_words expect_end flag
append_read folder message None = refl
append_read folder message (Some Seen) = refl
append_read folder message (Some Flagged) = refl
append_read folder message (Some Answered) = refl
append_read folder message (Some Deleted) = refl
append_read folder message (Some Draft) = refl

move_read : (uid : ℕ) (to : List ℕ) → uid < 2 ^ 32 → command (items_said (command_parts (Move uid to))) ≡ Some (Move uid to)
unfolding command command_parts string first_of expect_words expect_end stops
move_read uid to fits = rw (number_32 _ uid _ fits refl) refl

expunge_read : (uid : ℕ) → uid < 2 ^ 32 → command (items_said (command_parts (Expunge uid))) ≡ Some (Expunge uid)
unfolding command command_parts first_of expect_words expect_end stops
expunge_read uid fits = rw (number_32 _ uid [] fits refl) refl

-- the parts of a command; the strings of LIST are among its words
read_parts : Command → List Part
read_parts ListAll = Words (codes "LIST ") ∷ Text [] ∷ Words (codes " ") ∷ Text (codes "*") ∷ []
read_parts one = command_parts one

command_read : (one : Command) → FitsFieldTypes one → command (items_said (read_parts one)) ≡ Some (written_form one)
unfolding command command_parts string first_of expect_words expect_end read_parts
command_read (Login user password) fits = refl
command_read Capability fits = refl
command_read Enable fits = refl
command_read ListAll fits = refl
command_read (Select folder known) fits = rw (select_read folder known fits.1) refl
command_read Noop fits = refl
command_read (FetchNew from) fits = rw (fetch_new_read from fits) refl
command_read (FetchChanged mark) fits = rw (changed_read mark fits) refl
command_read (FetchBody uid) fits = rw (fetch_body_read uid fits) refl
command_read (Search words) fits = refl
command_read (Store uid label on) fits = rw (sign_read uid label on fits) refl
command_read (Move uid to) fits = move_read uid to fits.0
command_read (Expunge uid) fits = expunge_read uid fits
command_read (Append folder label message) fits = rw (append_read folder message label) refl

-- ---- the laws

same_pieces : (tag : ℕ) (one : Command) → command_pieces tag one ≡ pieces_of (tag_parts tag ++ read_parts one)
unfolding command_pieces command_parts pieces_of read_parts
same_pieces tag (Login user password) = refl
same_pieces tag Capability = refl
same_pieces tag Enable = refl
same_pieces tag ListAll = refl
same_pieces tag (Select folder known) = refl
same_pieces tag Noop = refl
same_pieces tag (FetchNew from) = refl
same_pieces tag (FetchChanged mark) = refl
same_pieces tag (FetchBody uid) = refl
same_pieces tag (Search words) = refl
same_pieces tag (Store uid label on) = refl
same_pieces tag (Move uid to) = refl
same_pieces tag (Expunge uid) = refl
same_pieces tag (Append folder label message) = refl

known_spelled : (known : Option Known) → KnownFitsFieldTypes known → AreSpelled (known_parts known)
known_spelled None fits = tt
known_spelled (Some known) fits =
    elim (known.mark == 0) as (λ b. AreSpelled (cond b [] (resync_parts known))) [ true ↦ tt | false ↦ (refl, (decimal_words known.validity (small known.validity fits.0), (refl, (decimal_words known.mark fits.1, (refl, tt))))) ]

label_spelled : (label : Label) → list_all is_word (label_word label) ≡ true
label_spelled Seen = refl
label_spelled Flagged = refl
label_spelled Answered = refl
label_spelled Deleted = refl
label_spelled Draft = refl

labels_spelled : (label : Option Label) → list_all is_word (label_words label) ≡ true
labels_spelled None = refl
labels_spelled (Some label) = label_spelled label

sign_spelled : (on : Bool) → list_all is_word (sign on) ≡ true
sign_spelled true = refl
sign_spelled false = refl

spelled : (one : Command) → FitsFieldTypes one → AreSpelled (read_parts one)
unfolding command_parts read_parts
spelled (Login user password) fits = (refl, (fits.0, (refl, (fits.1, tt))))
spelled Capability fits = (refl, tt)
spelled Enable fits = (refl, tt)
spelled ListAll fits = (refl, (lit< tt, (refl, (lit< tt, tt))))
spelled (Select folder known) fits = (refl, (fits.0, known_spelled known fits.1))
spelled Noop fits = (refl, tt)
spelled (FetchNew from) fits = (refl, (decimal_words from (small from fits), (refl, tt)))
spelled (FetchChanged mark) fits = (refl, (decimal_words mark fits, (refl, tt)))
spelled (FetchBody uid) fits = (refl, (decimal_words uid (small uid fits), (refl, tt)))
spelled (Search words) fits = (refl, (fits, tt))
spelled (Store uid label on) fits = (refl, (decimal_words uid (small uid fits), (sign_spelled on, (label_spelled label, (refl, tt)))))
spelled (Move uid to) fits = (refl, (decimal_words uid (small uid fits.0), (refl, (fits.1, tt))))
spelled (Expunge uid) fits = (refl, (decimal_words uid (small uid fits), tt))
spelled (Append folder label message) fits = (refl, (fits.0, (refl, (labels_spelled label, (refl, (fits.1, tt))))))

tagged_read : (tag : ℕ) (one : Command) (rest : List Item) → tag < 2 ^ 32 → command rest ≡ Some one → tagged_command (Byte 65 ∷ (map Byte (decimal tag) ++ Byte 32 ∷ rest)) ≡ Some (tag, one)
unfolding tagged_command expect_words stops
tagged_read tag one rest fits is = number_32 _ tag (Byte 32 ∷ rest) fits refl ∙ ap (option_map (λ (o : Command). (tag, o))) is

pub read_back : CommandsReadBack
unfolding command_of
read_back tag one tag_fits fits =
    ap (λ (pieces : List (List ℕ)). command_of (concat pieces)) (same_pieces tag one)
    ∙ ap (option_and_then tagged_command) (items_of_parts (tag_parts tag ++ read_parts one) (refl, (decimal_words tag (small tag tag_fits), (refl, spelled one fits))))
    ∙ tagged_read tag (written_form one) (items_said (read_parts one)) tag_fits (command_read one fits)

some_items : (o : Option (List Item)) → IsSome (option_and_then tagged_command o) → (items : List Item) × (o ≡ Some items)
some_items None is = absurd cc
some_items (Some items) is = (items, refl)

pub end_once : NoCommandIsPrefix
unfolding command_of
end_once bytes is front byte back goes =
    let whole = some_items (items_of (front ++ byte ∷ back)) (subst (λ (x : List ℕ). IsSome (command_of x)) goes is) in
    ap (option_and_then tagged_command) (not_before_its_end front byte back whole.0 whole.1)

-- the same for written pieces
pub reads : (tag : ℕ) (one : Command) (pieces : List (List ℕ)) → tag < 2 ^ 32 → FitsFieldTypes one → pieces ≡ command_pieces tag one → command_of (concat pieces) ≡ Some (tag, written_form one)
reads tag one pieces tag_fits fits is = ap (λ (x : List (List ℕ)). command_of (concat x)) is ∙ read_back tag one tag_fits fits

some_read : (o : Option (ℕ × Command)) (one : ℕ × Command) → o ≡ Some one → IsSome o
some_read None one is = absurd cc
some_read (Some other) one is = refl

pub none_before : (tag : ℕ) (one : Command) (pieces : List (List ℕ)) → tag < 2 ^ 32 → FitsFieldTypes one → pieces ≡ command_pieces tag one → HasNoCommandPrefix (concat pieces)
none_before tag one pieces tag_fits fits is = end_once (concat pieces) (some_read _ (tag, written_form one) (reads tag one pieces tag_fits fits is))
