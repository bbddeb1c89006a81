-- Written values are values of their kind.
use Rattle.std.proofs.Common.{◌≡◌, ℕ, zero, suc, Bool, true, false, ◌&&◌, ◌||◌, ◌==◌, eqb, cond, if◌then◌else◌, Option, Some, None, List, [], ◌∷◌, IsTrue, refl, arith}
use Rattle.std.proofs.lemmas.Bool.Decides.{nat_tests}
use Rattle.std.specs.List.{list_all}
use Rattle.html_syntax.specs.Characters.{hyphen, is_digit}
use Rattle.html_syntax.specs.Tokenizer.{replace_null}
use Rattle.html_rules.specs.Values.{is_empty, percent_sign, plus_sign, has_at_most_digits, is_digits_percent, is_number, is_word_char, is_word, is_remote, is_link, is_source, is_value_of}
use Rattle.html_rules.specs.declared.ValueKind.{ValueKind}
use Rattle.html_rules.specs.declared.ValueKind.TheVariants as kind
use Rattle.html_rules.proofs.Facts.{and_true}
use Rattle.html_rules.proofs.Parts.{both_true, or_left, or_right}
use Rattle.style_wash.specs.Characters.{trimmed}
use Rattle.style_wash.specs.Declarations.{is_style}
use Rattle.wash_attributes.specs.Given.{Target, Given}
use Rattle.wash_attributes.specs.Given.Target.{Part, Remote, Link, Nothing}
use Rattle.wash_attributes.specs.Values.{some_if, link_address, picture_address, written_value}
use Rattle.wash_attributes.specs.Soundness.{as_written, is_sound_target, IsSound}
use Rattle.wash_attributes.proofs.ListedNames.{or_true}

-- ---- numbers and words are written as they are

kept_char : (c : ℕ) → eqb c 0 ≡ false → replace_null c ≡ c
kept_char c e = rw e refl

-- a value of characters that aren't U+0000
pub as_written_same : (p : ℕ → Bool) → ((c : ℕ) → p c ≡ true → eqb c 0 ≡ false) → (cs : List ℕ) → list_all p cs ≡ true → as_written cs ≡ cs
as_written_same p f [] h = refl
as_written_same p f (c ∷ cs) h =
    let both = and_true (p c) (list_all p cs) h in
    let first : replace_null c ≡ c = kept_char c (f c both.0) in
    let rest : as_written cs ≡ cs = as_written_same p f cs both.1 in
    cc

abbrev pub is_number_char : ℕ → Bool
is_number_char c = is_digit c || (c == percent_sign || (c == plus_sign || c == hyphen))

number_char : (c : ℕ) → is_number_char c ≡ true → eqb c 0 ≡ false
number_char c h = grind (arith, nat_tests)

percent_chars : (c : ℕ) (cs : List ℕ) → (c == percent_sign && is_empty cs) ≡ true → list_all is_number_char (c ∷ cs) ≡ true
percent_chars c [] h = let e : (c == percent_sign) ≡ true = (and_true (c == percent_sign) true h).0 in both_true (is_number_char c) true (or_right (is_digit c) _ (or_left (c == percent_sign) _ e)) refl
percent_chars c (d ∷ cs) h = let no : false ≡ true = (and_true (c == percent_sign) false h).1 in absurd cc

digit_onto : (c : ℕ) (cs : List ℕ) → is_digit c ≡ true → list_all is_number_char cs ≡ true → list_all is_number_char (c ∷ cs) ≡ true
digit_onto c cs e h = both_true (is_number_char c) (list_all is_number_char cs) (or_left (is_digit c) _ e) h

digits_chars : (n : ℕ) (cs : List ℕ) → has_at_most_digits n cs ≡ true → list_all is_number_char cs ≡ true
digits_chars n [] h = refl
digits_chars zero (c ∷ cs) h = percent_chars c cs h
digits_chars (suc n) (c ∷ cs) h =
    or_true (is_digit c && has_at_most_digits n cs) (c == percent_sign && is_empty cs) (list_all is_number_char (c ∷ cs) ≡ true) h
    (λ e. let both = and_true (is_digit c) (has_at_most_digits n cs) e in digit_onto c cs both.0 (digits_chars n cs both.1))
    (λ e. percent_chars c cs e)

digits_percent_chars : (cs : List ℕ) → is_digits_percent cs ≡ true → list_all is_number_char cs ≡ true
digits_percent_chars [] h = refl
digits_percent_chars (c ∷ cs) h = let both = and_true (is_digit c) (has_at_most_digits 4 cs) h in digit_onto c cs both.0 (digits_chars 4 cs both.1)

sign_onto : (c : ℕ) (cs : List ℕ) → (c == plus_sign || c == hyphen) ≡ true → list_all is_number_char cs ≡ true → list_all is_number_char (c ∷ cs) ≡ true
sign_onto c cs e h = both_true (is_number_char c) (list_all is_number_char cs) (or_right (is_digit c) _ (or_right (c == percent_sign) _ e)) h

pub number_chars : (cs : List ℕ) → is_number cs ≡ true → list_all is_number_char cs ≡ true
unfolding is_number
number_chars [] h = refl
number_chars (c ∷ cs) h =
    elim (c == plus_sign || c == hyphen) as (λ b. (c == plus_sign || c == hyphen) ≡ b → cond b (is_digits_percent cs) (is_digits_percent (c ∷ cs)) ≡ true → list_all is_number_char (c ∷ cs) ≡ true) [
      | true ↦ λ e g. sign_onto c cs e (digits_percent_chars cs g)
      | false ↦ λ e g. digits_percent_chars (c ∷ cs) g
    ] refl h

number_written : (cs : List ℕ) → is_number cs ≡ true → is_number (as_written cs) ≡ true
number_written cs h = rw (as_written_same is_number_char number_char cs (number_chars cs h)) h

word_char : (c : ℕ) → is_word_char c ≡ true → eqb c 0 ≡ false
word_char c h = grind (arith, nat_tests)

word_chars : (cs : List ℕ) → is_word cs ≡ true → list_all is_word_char cs ≡ true
unfolding is_word
word_chars cs h = (and_true _ (list_all is_word_char cs) h).1

word_written : (cs : List ℕ) → is_word cs ≡ true → is_word (as_written cs) ≡ true
word_written cs h = rw (as_written_same is_word_char word_char cs (word_chars cs h)) h

empty_written : (cs : List ℕ) → is_empty (as_written cs) ≡ is_empty cs
empty_written [] = refl
empty_written (c ∷ cs) = refl

-- ---- each kind

-- the value, if any, is of its kind as it is written
abbrev pub IsOfKind : Bool → (List ℕ → Bool) → ValueKind → Option (List ℕ) → Type 0
IsOfKind images own kind None = Unit {0}
IsOfKind images own kind (Some value) = is_value_of images own kind (as_written value) ≡ true

some_if_of_kind : (images : Bool) (own : List ℕ → Bool) (kind : ValueKind) (passes : Bool) (value : List ℕ) → (passes ≡ true → is_value_of images own kind (as_written value) ≡ true) → IsOfKind images own kind (some_if passes value)
some_if_of_kind images own kind true value h = h refl
some_if_of_kind images own kind false value h = tt

link_of_kind : (images : Bool) (own : List ℕ → Bool) (t : Target) → IsTrue (is_sound_target own t) → IsOfKind images own kind.Link (link_address t)
unfolding is_sound_target is_value_of is_link
link_of_kind images own (Part address) h = tt
link_of_kind images own (Remote address) h = or_left (is_remote (as_written address)) _ h
link_of_kind images own (Link address) h = h
link_of_kind images own Nothing h = tt

picture_of_kind : (images : Bool) (own : List ℕ → Bool) (t : Target) → IsTrue (is_sound_target own t) → IsOfKind images own kind.Source (picture_address images t)
unfolding is_sound_target is_value_of is_source
picture_of_kind images own (Part address) h = or_left (own (as_written address)) _ h
picture_of_kind images own (Remote address) h = some_if_of_kind images own kind.Source images address (λ e. or_right (own (as_written address)) _ (both_true images (is_remote (as_written address)) e h))
picture_of_kind images own (Link address) h = tt
picture_of_kind images own Nothing h = tt

style_of_kind : (images : Bool) (own : List ℕ → Bool) (style : List ℕ) → IsTrue (is_style (as_written style)) → IsOfKind images own kind.Style (if is_empty style then None else Some style)
unfolding is_value_of
style_of_kind images own [] h = tt
style_of_kind images own (c ∷ cs) h = both_true (is_style (as_written (c ∷ cs))) true h refl

pub written_of_kind : (given : Given) (own : List ℕ → Bool) (kind : ValueKind) (value : List ℕ) → IsSound given own → IsOfKind given.images own kind (written_value given kind value)
unfolding written_value is_value_of
written_of_kind given own kind.Number value sound = some_if_of_kind given.images own kind.Number (is_number (trimmed value)) (trimmed value) (number_written (trimmed value))
written_of_kind given own kind.Word value sound = some_if_of_kind given.images own kind.Word (is_word (trimmed value)) (trimmed value) (word_written (trimmed value))
written_of_kind given own kind.Flag value sound = refl
written_of_kind given own kind.Text value sound = refl
written_of_kind given own kind.Link value sound = link_of_kind given.images own (given.refer value) (sound.targets value)
written_of_kind given own kind.Source value sound = picture_of_kind given.images own (given.refer value) (sound.targets value)
written_of_kind given own kind.Style value sound = style_of_kind given.images own (given.stylewash value) (sound.styles value)
