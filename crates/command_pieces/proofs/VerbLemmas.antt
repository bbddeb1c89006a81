-- The first piece of a command names its verb.
use Rattle.std.proofs.Common.{◌≡◌, ℕ, ◌+◌, ◌%◌, ◌<◌, ◌^◌, ◌==◌, ◌&&◌, not, Bool, true, false, List, [], ◌∷◌, ◌++◌, codes, decimal, refl, ap, ◌∙◌, arith}
use Rattle.std.specs.List.{list_all}
use Rattle.std.proofs.lemmas.Bool.{and_parts}
use Rattle.std.proofs.lemmas.Bool.Decides.{nat_tests}
use Rattle.std.proofs.lemmas.Fmt.{decimal_by_steps}
use Rattle.std.proofs.lemmas.List.Folds.{list_all-append}
use Rattle.imap_commands.specs.declared.command.Command.TheVariants.{Login, Capability, Enable, List as ListAll, Select, Noop, FetchNew, FetchChanged, FetchBody, Search, Store, Move, Expunge, Append}
use Rattle.imap_commands.specs.Pieces.{Part, pieces_of, onto_first}
use Rattle.imap_commands.specs.Pieces.Part.{Words}
use Rattle.imap_commands.specs.Commands.{tag_parts, command_parts, command_pieces}
use Rattle.command_pieces.specs.declared.verb.Verb.{Verb}
use Rattle.command_pieces.specs.Verbs.{after_tag, verb_of_words}
use Rattle.command_pieces.specs.ReadBack.{FirstNames, FirstPiecesNameVerbs}

is_no_space : ℕ → Bool
is_no_space c = not (c == 32)

no_space_in_digits : (n : ℕ) → n < 2 ^ 64 → list_all is_no_space (decimal n) ≡ true
unfolding is_no_space
no_space_in_digits = decimal_by_steps (λ n ds. list_all is_no_space ds ≡ true)
    (λ n less. grind (arith, nat_tests))
    (λ n ds over more. list_all-append is_no_space ds ((48 + n % 10) ∷ []) ∙ ap (λ b. b && list_all is_no_space ((48 + n % 10) ∷ [])) more ∙ grind (arith, nat_tests))

from_not : (b : Bool) → not b ≡ true → b ≡ false
from_not true is = absurd cc
from_not false is = refl

to_space : (tag rest : List ℕ) → list_all is_no_space tag ≡ true → after_tag (tag ++ 32 ∷ rest) ≡ rest
unfolding after_tag is_no_space
to_space [] rest all = refl
to_space (c ∷ tag) rest all =
    let each = and_parts _ _ all in
    let other : (c == 32) ≡ false = from_not (c == 32) each.0 in
    rw other (to_space tag rest each.1)

letter_too : (tag : ℕ) → tag < 2 ^ 32 → list_all is_no_space (65 ∷ decimal tag) ≡ true
unfolding is_no_space
letter_too tag fits = no_space_in_digits tag (omega arith)

tagged : (tag : ℕ) (rest : List ℕ) → tag < 2 ^ 32 → after_tag (65 ∷ (decimal tag ++ 32 ∷ rest)) ≡ rest
tagged tag rest fits = to_space (65 ∷ decimal tag) rest (letter_too tag fits)

names : (tag : ℕ) (words : List ℕ) (pieces : List (List ℕ)) (verb : Verb) → tag < 2 ^ 32 → verb_of_words words ≡ verb → ((more : List ℕ) → verb_of_words (words ++ more) ≡ verb)
    → FirstNames (onto_first (codes "A") (onto_first (decimal tag) (onto_first (codes " ") (onto_first words pieces)))) verb
names tag words [] verb fits alone onto = ap verb_of_words (tagged tag words fits) ∙ alone
names tag words (first ∷ pieces) verb fits alone onto = ap verb_of_words (tagged tag (words ++ first) fits) ∙ onto first

names_parts : (tag : ℕ) (words : List ℕ) (parts : List Part) (verb : Verb) → tag < 2 ^ 32 → verb_of_words words ≡ verb → ((more : List ℕ) → verb_of_words (words ++ more) ≡ verb)
    → FirstNames (pieces_of (tag_parts tag ++ Words words ∷ parts)) verb
unfolding pieces_of
names_parts tag words parts verb fits alone onto = names tag words (pieces_of parts) verb fits alone onto

pub verbs_named : FirstPiecesNameVerbs
unfolding command_pieces command_parts
verbs_named tag (Login user password) fits = names_parts tag _ _ _ fits refl (λ more. refl)
verbs_named tag Capability fits = names_parts tag _ _ _ fits refl (λ more. refl)
verbs_named tag Enable fits = names_parts tag _ _ _ fits refl (λ more. refl)
verbs_named tag ListAll fits = names_parts tag _ _ _ fits refl (λ more. refl)
verbs_named tag (Select folder known) fits = names_parts tag _ _ _ fits refl (λ more. refl)
verbs_named tag Noop fits = names_parts tag _ _ _ fits refl (λ more. refl)
verbs_named tag (FetchNew from) fits = names_parts tag _ _ _ fits refl (λ more. refl)
verbs_named tag (FetchChanged mark) fits = names_parts tag _ _ _ fits refl (λ more. refl)
verbs_named tag (FetchBody uid) fits = names_parts tag _ _ _ fits refl (λ more. refl)
verbs_named tag (Search words) fits = names_parts tag _ _ _ fits refl (λ more. refl)
verbs_named tag (Store uid label on) fits = names_parts tag _ _ _ fits refl (λ more. refl)
verbs_named tag (Move uid to) fits = names_parts tag _ _ _ fits refl (λ more. refl)
verbs_named tag (Expunge uid) fits = names_parts tag _ _ _ fits refl (λ more. refl)
verbs_named tag (Append folder label message) fits = names_parts tag _ _ _ fits refl (λ more. refl)
