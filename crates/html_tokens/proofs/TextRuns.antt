-- Runs of characters between tags.
use Rattle.std.proofs.Common.{◌≡◌, ℕ, suc, Bool, true, false, not, ◌||◌, ◌==◌, List, [], ◌∷◌, ◌++◌, refl, ap, ◌∙◌, arith, inl, inr, IsUtf8}
use Rattle.std.proofs.lemmas.Bool.{cases_Bool, eqb-true}
use Rattle.std.proofs.lemmas.Bool.Decides.{nat_tests}
use Rattle.std.specs.List.{list_all}
use Rattle.html_syntax.specs.Token.{Token}
use Rattle.html_syntax.specs.Token.Token.{Char}
use Rattle.html_syntax.specs.Characters.{is_letter}
use Rattle.html_syntax.specs.References.{reference}
use Rattle.html_syntax.specs.States.State.{Data, TagOpen}
use Rattle.html_syntax.specs.States.Action.{ReconsumeIn}
use Rattle.html_syntax.specs.Tokenizer.{look, look_again, step, read, tokens_at_end, chars}
use Rattle.html_references.specs.Input.{input, decode_references}
use Rattle.html_tokens.specs.Scanned.{opens_markup}
use Rattle.html_tokens.specs.Cuts.{LacksByte, BeginsWithByte}
use Rattle.html_tokens.proofs.Runs.{emits, emits-more, reconsumed}
use Rattle.html_references.proofs.Stops.{Stops}
use Rattle.html_tokens.proofs.Marks.{Marks, begins_marked}
use Rattle.html_tokens.proofs.Decoding.{Decodes, decoded_run, decoded-append}
use Rattle.html_references.proofs.Stretches.{PassesWide, input-first, input-cons, input-nil, input-append, all-input}

-- ---- no `<` among them

abbrev pub is_plain : ℕ → Bool
is_plain c = not (c == 60)

data_keeps : (kept : List ℕ) (c : ℕ) (text : List ℕ) → is_plain c ≡ true → (c == 0x26) ≡ false → emits Data kept 0 (c ∷ text) ≡ emits Data (kept ++ c ∷ []) 0 text
unfolding read step look_again look
data_keeps kept c text h other =
    let less : (c == 60) ≡ false = grind (arith, nat_tests) in
    rw (other, less) (emits-more Data kept (c ∷ []) 0 text)

data_refers : (kept text : List ℕ) (c : ℕ) → (c == 0x26) ≡ true → emits Data kept 0 (c ∷ text) ≡ emits Data (kept ++ (reference false text).chars) (reference false text).len text
unfolding read step look_again look
data_refers kept text c is = rw is (emits-more Data kept (reference false text).chars (reference false text).len text)

data_passes : (kept : List ℕ) (n c : ℕ) (text : List ℕ) → emits Data kept (suc n) (c ∷ text) ≡ emits Data kept n text
unfolding read
data_passes kept n c text = refl

data_decodes : Decodes (emits Data) false is_plain (λ c. c)
data_decodes = record { keeps = data_keeps; refers = data_refers; passes = data_passes }

abbrev pub text_of : List ℕ → List ℕ
text_of text = decode_references false (λ c. c) 0 text

pub data_run : (cs more : List ℕ) → list_all is_plain cs ≡ true → Stops more → read Data 0 (cs ++ more) ≡ chars (text_of cs) ++ read Data 0 more
data_run cs more h s = decoded_run (emits Data) false is_plain (λ c. c) data_decodes [] cs more h s

-- ---- a `<` that opens nothing

-- what opens markup after a `<`
abbrev is_other : ℕ → Bool
is_other c = not (is_letter c || c == 0x21 || c == 0x3F || c == 0x2F)

wide_other : PassesWide is_other
wide_other c big = grind (arith, nat_tests)

open_less : (c : ℕ) (text : List ℕ) → is_other c ≡ true → look TagOpen c text ≡ ReconsumeIn Data (Char 60 ∷ [])
unfolding look
open_less c text h =
    let a : is_letter c ≡ false = grind (arith, nat_tests) in
    let b : (c == 0x21) ≡ false = grind (arith, nat_tests) in
    let d : (c == 0x3F) ≡ false = grind (arith, nat_tests) in
    let e : (c == 0x2F) ≡ false = grind (arith, nat_tests) in
    rw (a, b, d, e) refl

opened : (text : List ℕ) → read Data 0 (60 ∷ text) ≡ read TagOpen 0 text
unfolding read step look_again look
opened text = refl

less_end : read Data 0 (60 ∷ []) ≡ Char 60 ∷ read Data 0 []
unfolding read step look_again look tokens_at_end
less_end = refl

less_solidus_end : read Data 0 (60 ∷ 47 ∷ []) ≡ Char 60 ∷ read Data 0 (47 ∷ [])
unfolding read step look_again look tokens_at_end
less_solidus_end = refl

less_char : (c : ℕ) (text : List ℕ) → is_other c ≡ true → read Data 0 (60 ∷ c ∷ text) ≡ Char 60 ∷ read Data 0 (c ∷ text)
less_char c text h = opened (c ∷ text) ∙ reconsumed TagOpen Data (Char 60 ∷ []) c text (open_less c text h)

input-solidus : input (47 ∷ []) ≡ 47 ∷ []
input-solidus = input-cons 47 [] (omega arith) (λ (e : 47 ≡ 13). omega arith) ∙ ap (λ (l : List ℕ). 47 ∷ l) input-nil

other_byte : (b : ℕ) (rest : List ℕ) → IsUtf8 (b ∷ rest) → is_other b ≡ true → read Data 0 (60 ∷ input (b ∷ rest)) ≡ Char 60 ∷ read Data 0 (input (b ∷ rest))
other_byte b rest utf8 h =
    let f = input-first is_other wide_other (λ _. refl) b rest utf8 h in
    rw f.is (less_char f.char f.rest f.passes)

less_alone : (rest : List ℕ) → IsUtf8 rest → opens_markup (60 ∷ rest) ≡ false → read Data 0 (60 ∷ input rest) ≡ Char 60 ∷ read Data 0 (input rest)
less_alone [] utf8 h = rw input-nil less_end
less_alone (b ∷ []) utf8 h = elim (cases_Bool (b == 0x2F)) [
  | inl is ↦
      let e : b ≡ 47 = eqb-true b 47 is in
      rw (e, input-solidus) less_solidus_end
  | inr other ↦ other_byte b [] utf8 (grind (arith, nat_tests))
]
less_alone (b ∷ d ∷ rest) utf8 h = other_byte b (d ∷ rest) utf8 (grind (arith, nat_tests))

-- ---- from one `<` to the next

input-less : (text : List ℕ) → input (60 ∷ text) ≡ 60 ∷ input text
input-less text = input-cons 60 text (omega arith) (λ (e : 60 ≡ 13). omega arith)

pub less_stops : (text : List ℕ) → BeginsWithByte 60 text → Stops (input text)
less_stops [] h = rw input-nil tt
less_stops (b ∷ text) h = rw (h, input-less text) refl

pub all_plain : (bytes : List ℕ) → IsUtf8 bytes → LacksByte 60 bytes → list_all is_plain (input bytes) ≡ true
all_plain bytes utf8 h = all-input is_plain (λ c big. grind (arith, nat_tests)) (λ _. refl) bytes utf8 h

data_piece : (kept xs ys : List ℕ) → IsUtf8 xs → LacksByte 60 xs → BeginsWithByte 60 ys → emits Data kept 0 (input (xs ++ ys)) ≡ emits Data (kept ++ text_of (input xs)) 0 (input ys)
data_piece kept xs ys utf8 lacks begins =
    ap (emits Data kept 0) (input-append xs ys utf8 (begins_marked 60 (omega arith) (λ (e : 60 ≡ 10). omega arith) ys begins))
    ∙ decoded_run (emits Data) false is_plain (λ c. c) data_decodes kept (input xs) (input ys) (all_plain xs utf8 lacks) (less_stops ys begins)

-- a `<` that opens no markup
abbrev pub Alone : List ℕ → Type 0
Alone text = opens_markup text ≡ false

data_here : (kept tail : List ℕ) → IsUtf8 tail → Alone (60 ∷ tail) → emits Data kept 0 (input (60 ∷ tail)) ≡ emits Data (kept ++ 60 ∷ []) 0 (input tail)
data_here kept tail utf8 alone =
    ap (λ (l : List Token). chars kept ++ l) (ap (read Data 0) (input-less tail) ∙ less_alone tail utf8 alone) ∙ emits-more Data kept (60 ∷ []) 0 (input tail)

text_of-less : (text : List ℕ) → text_of (60 ∷ text) ≡ 60 ∷ text_of text
unfolding decode_references
text_of-less text = refl

data_joins : (xs ys : List ℕ) → text_of (xs ++ 60 ∷ ys) ≡ text_of xs ++ 60 ∷ text_of ys
data_joins xs ys = decoded-append false (λ c. c) xs (60 ∷ ys) refl ∙ ap (λ (l : List ℕ). text_of xs ++ l) (text_of-less ys)

pub data_marks : Marks (emits Data) 60 text_of Alone
data_marks = record {
  small = omega arith;
  no_feed = λ (e : 60 ≡ 10). omega arith;
  no_return = λ (e : 60 ≡ 13). omega arith;
  piece = data_piece;
  here = data_here;
  joins = data_joins;
}
