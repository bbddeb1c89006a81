-- Runs of characters in a script.
use Rattle.std.proofs.Common.{◌≡◌, ℕ, ◌<◌, Bool, true, false, not, ◌||◌, ◌==◌, List, [], ◌∷◌, refl, sym, ap, subst, ◌∙◌, arith, inl, inr, IsUtf8, codes}
use Rattle.std.proofs.lemmas.Bool.{cases_Bool, eqb-true, ne_eqb, both_ways, not-true}
use Rattle.std.proofs.lemmas.Bool.Decides.{nat_tests}
use Rattle.html_syntax.specs.Token.{Token}
use Rattle.html_syntax.specs.Token.Token.{Char}
use Rattle.html_syntax.specs.Characters.{is_letter}
use Rattle.html_syntax.specs.References.{begins_with}
use Rattle.html_syntax.specs.States.{State, replace_null}
use Rattle.html_syntax.specs.States.RawTextKind.{Script, Escaped}
use Rattle.html_syntax.specs.States.State.{Raw, RawLess, EscapeStart, EscapeStartDash, EscapedDash, EscapedDashDash, EscapedLess, DoubleStart, DoubleEscaped, DoubleDash, DoubleDashDash, DoubleLess, DoubleEnd}
use Rattle.html_syntax.specs.States.Action.{ReconsumeIn}
use Rattle.html_syntax.specs.Tokenizer.{look, look_again, step, read, tokens_at_end}
use Rattle.html_references.specs.Input.{input}
use Rattle.html_tokens.specs.Contents.{begins_with_name}
use Rattle.html_tokens.proofs.Runs.{reconsumed}
use Rattle.html_references.proofs.Stretches.{PassesWide, First, input-first, input-cons, input-nil, utf8_tail}
use Rattle.html_tokens.proofs.EndTags.{input-less, input-solidus, input-letter, raw_solidus}
use Rattle.html_tokens.proofs.DoubleEscapes.{no_double, starts, ends}

abbrev script : List ℕ
script = codes "script"

pub input-hyphen : (text : List ℕ) → input (45 ∷ text) ≡ 45 ∷ input text
input-hyphen text = input-cons 45 text (omega arith) (λ (e : 45 ≡ 13). omega arith)

pub input-bang : (text : List ℕ) → input (33 ∷ text) ≡ 33 ∷ input text
input-bang text = input-cons 33 text (omega arith) (λ (e : 33 ≡ 13). omega arith)

pub input-greater : (text : List ℕ) → input (62 ∷ text) ≡ 62 ∷ input text
input-greater text = input-cons 62 text (omega arith) (λ (e : 62 ≡ 13). omega arith)

-- ---- characters that one test tells

is_not : ℕ → ℕ → Bool
is_not x c = not (c == x)

wide_not : (x : ℕ) → x < 128 → PassesWide (is_not x)
unfolding is_not
wide_not x small c big = rw (ne_eqb c x (λ (e : c ≡ x). omega arith)) refl

first_not : (x b : ℕ) (bytes : List ℕ) → x < 128 → (x == 10) ≡ false → IsUtf8 (b ∷ bytes) → (b == x) ≡ false → First (b ∷ bytes) (is_not x)
unfolding is_not
first_not x b bytes small feed utf8 h =
    input-first (is_not x) (wide_not x small) (λ _. feed_passes) b bytes utf8 (rw h refl)
  where
    feed_passes : is_not x 10 ≡ true
    feed_passes = rw (ne_eqb 10 x (λ (e : 10 ≡ x). both_ways (x == 10) feed (grind (arith, nat_tests)))) refl

it_is_not : (x c : ℕ) → is_not x c ≡ true → (c == x) ≡ false
unfolding is_not
it_is_not x c h = not-true (c == x) h

-- ---- hyphens in an escape

-- A state of an escape with those after one hyphen and after two.
pub record Dashes (S D DD : State) : Type 0 where
  pub dash : (text : List ℕ) → read S 0 (45 ∷ text) ≡ Char 45 ∷ read D 0 text
  pub second : (text : List ℕ) → read D 0 (45 ∷ text) ≡ Char 45 ∷ read DD 0 text
  pub third : (text : List ℕ) → read DD 0 (45 ∷ text) ≡ Char 45 ∷ read DD 0 text
  pub other : (c : ℕ) (text : List ℕ) → (c == 45) ≡ false → read D 0 (c ∷ text) ≡ read S 0 (c ∷ text)
  pub unclosed : (c : ℕ) (text : List ℕ) → (c == 45) ≡ false → (c == 62) ≡ false → read DD 0 (c ∷ text) ≡ read S 0 (c ∷ text)
  pub over : read D 0 [] ≡ read S 0 []
  pub over_too : read DD 0 [] ≡ read D 0 []

escaped_dash : (last text : List ℕ) → read (Raw Escaped last) 0 (45 ∷ text) ≡ Char 45 ∷ read (EscapedDash last) 0 text
unfolding read step look_again look
escaped_dash last text = refl

escaped_second : (last text : List ℕ) → read (EscapedDash last) 0 (45 ∷ text) ≡ Char 45 ∷ read (EscapedDashDash last) 0 text
unfolding read step look_again look
escaped_second last text = refl

escaped_third : (last text : List ℕ) → read (EscapedDashDash last) 0 (45 ∷ text) ≡ Char 45 ∷ read (EscapedDashDash last) 0 text
unfolding read step look_again look
escaped_third last text = refl

escaped_other : (last : List ℕ) (c : ℕ) (text : List ℕ) → (c == 45) ≡ false → read (EscapedDash last) 0 (c ∷ text) ≡ read (Raw Escaped last) 0 (c ∷ text)
unfolding read step look_again look
escaped_other last c text h = rw h refl

escaped_unclosed : (last : List ℕ) (c : ℕ) (text : List ℕ) → (c == 45) ≡ false → (c == 62) ≡ false → read (EscapedDashDash last) 0 (c ∷ text) ≡ read (Raw Escaped last) 0 (c ∷ text)
unfolding read step look_again look
escaped_unclosed last c text h g = rw (h, g) refl

escaped_over : (last : List ℕ) → read (EscapedDash last) 0 [] ≡ read (Raw Escaped last) 0 []
unfolding read tokens_at_end
escaped_over last = refl

escaped_over_too : (last : List ℕ) → read (EscapedDashDash last) 0 [] ≡ read (EscapedDash last) 0 []
unfolding read tokens_at_end
escaped_over_too last = refl

pub escaped_dashes : (last : List ℕ) → Dashes (Raw Escaped last) (EscapedDash last) (EscapedDashDash last)
escaped_dashes last = record {
  dash = escaped_dash last;
  second = escaped_second last;
  third = escaped_third last;
  other = escaped_other last;
  unclosed = escaped_unclosed last;
  over = escaped_over last;
  over_too = escaped_over_too last;
}

double_dash : (last text : List ℕ) → read (DoubleEscaped last) 0 (45 ∷ text) ≡ Char 45 ∷ read (DoubleDash last) 0 text
unfolding read step look_again look
double_dash last text = refl

double_second : (last text : List ℕ) → read (DoubleDash last) 0 (45 ∷ text) ≡ Char 45 ∷ read (DoubleDashDash last) 0 text
unfolding read step look_again look
double_second last text = refl

double_third : (last text : List ℕ) → read (DoubleDashDash last) 0 (45 ∷ text) ≡ Char 45 ∷ read (DoubleDashDash last) 0 text
unfolding read step look_again look
double_third last text = refl

double_other : (last : List ℕ) (c : ℕ) (text : List ℕ) → (c == 45) ≡ false → read (DoubleDash last) 0 (c ∷ text) ≡ read (DoubleEscaped last) 0 (c ∷ text)
unfolding read step look_again look
double_other last c text h = rw h refl

double_unclosed : (last : List ℕ) (c : ℕ) (text : List ℕ) → (c == 45) ≡ false → (c == 62) ≡ false → read (DoubleDashDash last) 0 (c ∷ text) ≡ read (DoubleEscaped last) 0 (c ∷ text)
unfolding read step look_again look
double_unclosed last c text h g = rw (h, g) refl

double_over : (last : List ℕ) → read (DoubleDash last) 0 [] ≡ read (DoubleEscaped last) 0 []
unfolding read tokens_at_end
double_over last = refl

double_over_too : (last : List ℕ) → read (DoubleDashDash last) 0 [] ≡ read (DoubleDash last) 0 []
unfolding read tokens_at_end
double_over_too last = refl

pub double_dashes : (last : List ℕ) → Dashes (DoubleEscaped last) (DoubleDash last) (DoubleDashDash last)
double_dashes last = record {
  dash = double_dash last;
  second = double_second last;
  third = double_third last;
  other = double_other last;
  unclosed = double_unclosed last;
  over = double_over last;
  over_too = double_over_too last;
}

-- neither a hyphen nor a >
is_inner : ℕ → Bool
is_inner c = not (c == 45 || c == 62)

wide_inner : PassesWide is_inner
unfolding is_inner
wide_inner c big = grind (arith, nat_tests)

feed_inner : is_inner 13 ≡ true → is_inner 10 ≡ true
unfolding is_inner
feed_inner h = refl

first_inner : (b : ℕ) (bytes : List ℕ) → IsUtf8 (b ∷ bytes) → (b == 45) ≡ false → (b == 62) ≡ false → First (b ∷ bytes) is_inner
unfolding is_inner
first_inner b bytes utf8 h g = input-first is_inner wide_inner feed_inner b bytes utf8 (rw (h, g) refl)

inner : (c : ℕ) → is_inner c ≡ true → ((c == 45) ≡ false) × ((c == 62) ≡ false)
unfolding is_inner
inner c h = (grind (arith, nat_tests), grind (arith, nat_tests))

after_two : (S D DD : State) → Dashes S D DD → (bytes : List ℕ) → IsUtf8 bytes → begins_with (62 ∷ []) bytes ≡ false → read DD 0 (input bytes) ≡ read D 0 (input bytes)
after_two S D DD d [] utf8 h = rw input-nil d.over_too
after_two S D DD d (b ∷ bytes) utf8 h = elim (cases_Bool (b == 45)) [
  | inl is ↦
      let e : b ≡ 45 = eqb-true b 45 is in
      rw (e, input-hyphen bytes) (d.third (input bytes) ∙ sym (d.second (input bytes)))
  | inr other ↦
      let g : (b == 62) ≡ false = grind (arith, nat_tests) in
      let f = first_inner b bytes utf8 other g in
      let i = inner f.char f.passes in
      rw f.is (d.unclosed f.char f.rest i.0 i.1 ∙ sym (d.other f.char f.rest i.0))
]

after_one : (S D DD : State) → Dashes S D DD → (bytes : List ℕ) → IsUtf8 bytes → begins_with (45 ∷ 62 ∷ []) bytes ≡ false → read D 0 (input bytes) ≡ read S 0 (input bytes)
after_one S D DD d [] utf8 h = rw input-nil d.over
after_one S D DD d (b ∷ bytes) utf8 h = elim (cases_Bool (b == 45)) [
  | inl is ↦
      let e : b ≡ 45 = eqb-true b 45 is in
      let none : begins_with (62 ∷ []) bytes ≡ false = (rw e at h) in
      rw (e, input-hyphen bytes) (d.second (input bytes) ∙ ap (λ (l : List Token). Char 45 ∷ l) (after_two S D DD d bytes (utf8_tail b bytes (omega (arith, e)) utf8) none) ∙ sym (d.dash (input bytes)))
  | inr other ↦
      let f = first_not 45 b bytes (omega arith) refl utf8 other in
      rw f.is (d.other f.char f.rest (it_is_not 45 f.char f.passes))
]

-- a hyphen that ends no escape
pub hyphen_text : (S D DD : State) → Dashes S D DD → (bytes : List ℕ) → IsUtf8 bytes → begins_with (45 ∷ 45 ∷ 62 ∷ []) (45 ∷ bytes) ≡ false → read S 0 (input (45 ∷ bytes)) ≡ Char 45 ∷ read S 0 (input bytes)
hyphen_text S D DD d bytes utf8 h = ap (read S 0) (input-hyphen bytes) ∙ d.dash (input bytes) ∙ ap (λ (l : List Token). Char 45 ∷ l) (after_one S D DD d bytes utf8 h)

-- ---- a `<` in a script that is not escaped

script_nil : (last : List ℕ) → read (Raw Script last) 0 (60 ∷ []) ≡ Char 60 ∷ read (Raw Script last) 0 []
unfolding read step look_again look tokens_at_end
script_nil last = refl

script_less : (last text : List ℕ) → read (Raw Script last) 0 (60 ∷ text) ≡ read (RawLess Script last) 0 text
unfolding read step look_again look
script_less last text = refl

look_script_less : (last : List ℕ) (c : ℕ) (text : List ℕ) → (c == 47) ≡ false → (c == 33) ≡ false → look (RawLess Script last) c text ≡ ReconsumeIn (Raw Script last) (Char 60 ∷ [])
unfolding look
look_script_less last c text a b = rw (a, b) refl

script_bang : (last text : List ℕ) → read (Raw Script last) 0 (60 ∷ 33 ∷ text) ≡ Char 60 ∷ Char 33 ∷ read (EscapeStart last) 0 text
unfolding read step look_again look
script_bang last text = refl

pub script_keeps : (last : List ℕ) (c : ℕ) (text : List ℕ) → (c == 60) ≡ false → read (Raw Script last) 0 (c ∷ text) ≡ Char (replace_null c) ∷ read (Raw Script last) 0 text
unfolding read step look_again look
script_keeps last c text h = rw h refl

start_dash : (last text : List ℕ) → read (EscapeStart last) 0 (45 ∷ text) ≡ Char 45 ∷ read (EscapeStartDash last) 0 text
unfolding read step look_again look
start_dash last text = refl

look_start : (last : List ℕ) (c : ℕ) (text : List ℕ) → (c == 45) ≡ false → look (EscapeStart last) c text ≡ ReconsumeIn (Raw Script last) []
unfolding look
look_start last c text h = rw h refl

look_start_dash : (last : List ℕ) (c : ℕ) (text : List ℕ) → (c == 45) ≡ false → look (EscapeStartDash last) c text ≡ ReconsumeIn (Raw Script last) []
unfolding look
look_start_dash last c text h = rw h refl

start_over : (last : List ℕ) → (read (EscapeStart last) 0 [] ≡ read (Raw Script last) 0 []) × (read (EscapeStartDash last) 0 [] ≡ read (Raw Script last) 0 [])
unfolding read tokens_at_end
start_over last = (refl, refl)

-- after `<!-`, if no second hyphen follows
one_hyphen : (last bytes : List ℕ) → IsUtf8 bytes → begins_with (45 ∷ []) bytes ≡ false → read (EscapeStartDash last) 0 (input bytes) ≡ read (Raw Script last) 0 (input bytes)
one_hyphen last [] utf8 h = rw input-nil (start_over last).1
one_hyphen last (b ∷ bytes) utf8 h =
    let other : (b == 45) ≡ false = grind (arith, nat_tests) in
    let f = first_not 45 b bytes (omega arith) refl utf8 other in
    rw f.is (reconsumed (EscapeStartDash last) (Raw Script last) [] f.char f.rest (look_start_dash last f.char f.rest (it_is_not 45 f.char f.passes)))

-- after `<!`, if no two hyphens follow
no_hyphens : (last bytes : List ℕ) → IsUtf8 bytes → begins_with (45 ∷ 45 ∷ []) bytes ≡ false → read (EscapeStart last) 0 (input bytes) ≡ read (Raw Script last) 0 (input bytes)
no_hyphens last [] utf8 h = rw input-nil (start_over last).0
no_hyphens last (b ∷ bytes) utf8 h = elim (cases_Bool (b == 45)) [
  | inl is ↦
      let e : b ≡ 45 = eqb-true b 45 is in
      let none : begins_with (45 ∷ []) bytes ≡ false = (rw e at h) in
      rw (e, input-hyphen bytes) (start_dash last (input bytes) ∙ ap (λ (l : List Token). Char 45 ∷ l) (one_hyphen last bytes (utf8_tail b bytes (omega (arith, e)) utf8) none) ∙ sym (script_keeps last 45 (input bytes) refl))
  | inr other ↦
      let f = first_not 45 b bytes (omega arith) refl utf8 other in
      rw f.is (reconsumed (EscapeStart last) (Raw Script last) [] f.char f.rest (look_start last f.char f.rest (it_is_not 45 f.char f.passes)))
]

bang_text : (last bytes : List ℕ) → IsUtf8 bytes → begins_with (60 ∷ 33 ∷ 45 ∷ 45 ∷ []) (60 ∷ 33 ∷ bytes) ≡ false → read (Raw Script last) 0 (input (60 ∷ 33 ∷ bytes)) ≡ Char 60 ∷ read (Raw Script last) 0 (input (33 ∷ bytes))
bang_text last bytes utf8 h =
    rw (input-less (33 ∷ bytes), input-bang bytes) (
    script_bang last (input bytes)
    ∙ ap (λ (l : List Token). Char 60 ∷ Char 33 ∷ l) (no_hyphens last bytes utf8 h)
    ∙ ap (λ (l : List Token). Char 60 ∷ l) (sym (script_keeps last 33 (input bytes) refl)))

-- neither `/` nor `!`
is_unopened : ℕ → Bool
is_unopened c = not (c == 47 || c == 33)

wide_unopened : PassesWide is_unopened
unfolding is_unopened
wide_unopened c big = grind (arith, nat_tests)

feed_unopened : is_unopened 13 ≡ true → is_unopened 10 ≡ true
unfolding is_unopened
feed_unopened h = refl

first_unopened : (b : ℕ) (bytes : List ℕ) → IsUtf8 (b ∷ bytes) → (b == 47) ≡ false → (b == 33) ≡ false → First (b ∷ bytes) is_unopened
unfolding is_unopened
first_unopened b bytes utf8 h g = input-first is_unopened wide_unopened feed_unopened b bytes utf8 (rw (h, g) refl)

unopened : (c : ℕ) → is_unopened c ≡ true → ((c == 47) ≡ false) × ((c == 33) ≡ false)
unfolding is_unopened
unopened c h = (grind (arith, nat_tests), grind (arith, nat_tests))

less_other : (last : List ℕ) (b : ℕ) (bytes : List ℕ) → IsUtf8 (b ∷ bytes) → (b == 47) ≡ false → (b == 33) ≡ false → read (Raw Script last) 0 (input (60 ∷ b ∷ bytes)) ≡ Char 60 ∷ read (Raw Script last) 0 (input (b ∷ bytes))
less_other last b bytes utf8 h g =
    let f = first_unopened b bytes utf8 h g in
    let u = unopened f.char f.passes in
    ap (read (Raw Script last) 0) (input-less (b ∷ bytes))
    ∙ (rw f.is (script_less last (f.char ∷ f.rest) ∙ reconsumed (RawLess Script last) (Raw Script last) (Char 60 ∷ []) f.char f.rest (look_script_less last f.char f.rest u.0 u.1)))

pub less_text : (last bytes : List ℕ) → IsUtf8 bytes → begins_with_name (60 ∷ 47 ∷ last) (60 ∷ bytes) ≡ false → begins_with (60 ∷ 33 ∷ 45 ∷ 45 ∷ []) (60 ∷ bytes) ≡ false → read (Raw Script last) 0 (input (60 ∷ bytes)) ≡ Char 60 ∷ read (Raw Script last) 0 (input bytes)
less_text last [] utf8 h g = rw (input-less [], input-nil) (script_nil last)
less_text last (b ∷ bytes) utf8 h g = elim (cases_Bool (b == 47)) [
  | inl is ↦ slashed b bytes (eqb-true b 47 is) utf8 h
  | inr unslashed ↦ elim (cases_Bool (b == 33)) [
    | inl is ↦ banged b bytes (eqb-true b 33 is) utf8 g
    | inr other ↦ less_other last b bytes utf8 unslashed other
  ]
]
  where
    slashed : (b : ℕ) (bytes : List ℕ) → b ≡ 47 → IsUtf8 (b ∷ bytes) → begins_with_name (60 ∷ 47 ∷ last) (60 ∷ b ∷ bytes) ≡ false → read (Raw Script last) 0 (input (60 ∷ b ∷ bytes)) ≡ Char 60 ∷ read (Raw Script last) 0 (input (b ∷ bytes))
    slashed b bytes e utf8 h = rw e (raw_solidus Script last bytes (utf8_tail b bytes (omega (arith, e)) utf8) (subst (λ (x : ℕ). begins_with_name (60 ∷ 47 ∷ last) (60 ∷ x ∷ bytes) ≡ false) e h))

    banged : (b : ℕ) (bytes : List ℕ) → b ≡ 33 → IsUtf8 (b ∷ bytes) → begins_with (60 ∷ 33 ∷ 45 ∷ 45 ∷ []) (60 ∷ b ∷ bytes) ≡ false → read (Raw Script last) 0 (input (60 ∷ b ∷ bytes)) ≡ Char 60 ∷ read (Raw Script last) 0 (input (b ∷ bytes))
    banged b bytes e utf8 g = rw e (bang_text last bytes (utf8_tail b bytes (omega (arith, e)) utf8) (subst (λ (x : ℕ). begins_with (60 ∷ 33 ∷ 45 ∷ 45 ∷ []) (60 ∷ x ∷ bytes) ≡ false) e g))

-- ---- a `<` in an escaped script

escaped_nil : (last : List ℕ) → read (Raw Escaped last) 0 (60 ∷ []) ≡ Char 60 ∷ read (Raw Escaped last) 0 []
unfolding read step look_again look tokens_at_end
escaped_nil last = refl

escaped_less : (last text : List ℕ) → read (Raw Escaped last) 0 (60 ∷ text) ≡ read (EscapedLess last) 0 text
unfolding read step look_again look
escaped_less last text = refl

look_escaped_letter : (last : List ℕ) (c : ℕ) (text : List ℕ) → is_letter c ≡ true → look (EscapedLess last) c text ≡ ReconsumeIn (DoubleStart last []) (Char 60 ∷ [])
unfolding look
look_escaped_letter last c text h =
    let other : (c == 47) ≡ false = grind (arith, nat_tests) in
    rw (other, h) refl

look_escaped_other : (last : List ℕ) (c : ℕ) (text : List ℕ) → (c == 47) ≡ false → is_letter c ≡ false → look (EscapedLess last) c text ≡ ReconsumeIn (Raw Escaped last) (Char 60 ∷ [])
unfolding look
look_escaped_other last c text h g = rw (h, g) refl

-- neither `/` nor a letter
is_unbegun : ℕ → Bool
is_unbegun c = not (c == 47 || is_letter c)

wide_unbegun : PassesWide is_unbegun
unfolding is_unbegun
wide_unbegun c big = grind (arith, nat_tests)

feed_unbegun : is_unbegun 13 ≡ true → is_unbegun 10 ≡ true
unfolding is_unbegun
feed_unbegun h = refl

first_unbegun : (b : ℕ) (bytes : List ℕ) → IsUtf8 (b ∷ bytes) → (b == 47) ≡ false → is_letter b ≡ false → First (b ∷ bytes) is_unbegun
unfolding is_unbegun
first_unbegun b bytes utf8 h g = input-first is_unbegun wide_unbegun feed_unbegun b bytes utf8 (rw (h, g) refl)

unbegun : (c : ℕ) → is_unbegun c ≡ true → ((c == 47) ≡ false) × (is_letter c ≡ false)
unfolding is_unbegun
unbegun c h = (grind (arith, nat_tests), grind (arith, nat_tests))

pub escaped_letter : (last : List ℕ) (b : ℕ) (bytes : List ℕ) → is_letter b ≡ true → read (Raw Escaped last) 0 (input (60 ∷ b ∷ bytes)) ≡ Char 60 ∷ read (DoubleStart last []) 0 (input (b ∷ bytes))
escaped_letter last b bytes is =
    ap (read (Raw Escaped last) 0) (input-less (b ∷ bytes))
    ∙ (rw (input-letter b bytes is) (escaped_less last (b ∷ input bytes) ∙ reconsumed (EscapedLess last) (DoubleStart last []) (Char 60 ∷ []) b (input bytes) (look_escaped_letter last b (input bytes) is)))

escaped_unbegun : (last : List ℕ) (b : ℕ) (bytes : List ℕ) → IsUtf8 (b ∷ bytes) → (b == 47) ≡ false → is_letter b ≡ false → read (Raw Escaped last) 0 (input (60 ∷ b ∷ bytes)) ≡ Char 60 ∷ read (Raw Escaped last) 0 (input (b ∷ bytes))
escaped_unbegun last b bytes utf8 h g =
    let f = first_unbegun b bytes utf8 h g in
    let u = unbegun f.char f.passes in
    ap (read (Raw Escaped last) 0) (input-less (b ∷ bytes))
    ∙ (rw f.is (escaped_less last (f.char ∷ f.rest) ∙ reconsumed (EscapedLess last) (Raw Escaped last) (Char 60 ∷ []) f.char f.rest (look_escaped_other last f.char f.rest u.0 u.1)))

pub escaped_text : (last bytes : List ℕ) → IsUtf8 bytes → begins_with_name (60 ∷ 47 ∷ last) (60 ∷ bytes) ≡ false → begins_with_name (60 ∷ script) (60 ∷ bytes) ≡ false → read (Raw Escaped last) 0 (input (60 ∷ bytes)) ≡ Char 60 ∷ read (Raw Escaped last) 0 (input bytes)
escaped_text last [] utf8 h g = rw (input-less [], input-nil) (escaped_nil last)
escaped_text last (b ∷ bytes) utf8 h g = elim (cases_Bool (b == 47)) [
  | inl is ↦ slashed b bytes (eqb-true b 47 is) utf8 h
  | inr unslashed ↦ elim (cases_Bool (is_letter b)) [
    | inl is ↦ escaped_letter last b bytes is ∙ ap (λ (l : List Token). Char 60 ∷ l) (no_double (DoubleStart last) (DoubleEscaped last) (Raw Escaped last) (starts last) (b ∷ bytes) utf8 g)
    | inr other ↦ escaped_unbegun last b bytes utf8 unslashed other
  ]
]
  where
    slashed : (b : ℕ) (bytes : List ℕ) → b ≡ 47 → IsUtf8 (b ∷ bytes) → begins_with_name (60 ∷ 47 ∷ last) (60 ∷ b ∷ bytes) ≡ false → read (Raw Escaped last) 0 (input (60 ∷ b ∷ bytes)) ≡ Char 60 ∷ read (Raw Escaped last) 0 (input (b ∷ bytes))
    slashed b bytes e utf8 h = rw e (raw_solidus Escaped last bytes (utf8_tail b bytes (omega (arith, e)) utf8) (subst (λ (x : ℕ). begins_with_name (60 ∷ 47 ∷ last) (60 ∷ x ∷ bytes) ≡ false) e h))

-- ---- a `<` in a double escape

pub double_less : (last text : List ℕ) → read (DoubleEscaped last) 0 (60 ∷ text) ≡ Char 60 ∷ read (DoubleLess last) 0 text
unfolding read step look_again look
double_less last text = refl

pub double_solidus : (last text : List ℕ) → read (DoubleLess last) 0 (47 ∷ text) ≡ Char 47 ∷ read (DoubleEnd last []) 0 text
unfolding read step look_again look
double_solidus last text = refl

double_keeps_solidus : (last text : List ℕ) → read (DoubleEscaped last) 0 (47 ∷ text) ≡ Char 47 ∷ read (DoubleEscaped last) 0 text
unfolding read step look_again look
double_keeps_solidus last text = refl

double_less_nil : (last : List ℕ) → read (DoubleLess last) 0 [] ≡ read (DoubleEscaped last) 0 []
unfolding read tokens_at_end
double_less_nil last = refl

look_double_less : (last : List ℕ) (c : ℕ) (text : List ℕ) → (c == 47) ≡ false → look (DoubleLess last) c text ≡ ReconsumeIn (DoubleEscaped last) []
unfolding look
look_double_less last c text h = rw h refl

after_double_less : (last bytes : List ℕ) → IsUtf8 bytes → begins_with_name (60 ∷ 47 ∷ script) (60 ∷ bytes) ≡ false → read (DoubleLess last) 0 (input bytes) ≡ read (DoubleEscaped last) 0 (input bytes)
after_double_less last [] utf8 h = rw input-nil (double_less_nil last)
after_double_less last (b ∷ bytes) utf8 h = elim (cases_Bool (b == 47)) [
  | inl is ↦ slashed b bytes (eqb-true b 47 is) utf8 h
  | inr other ↦
      let f = first_not 47 b bytes (omega arith) refl utf8 other in
      rw f.is (reconsumed (DoubleLess last) (DoubleEscaped last) [] f.char f.rest (look_double_less last f.char f.rest (it_is_not 47 f.char f.passes)))
]
  where
    slashed : (b : ℕ) (bytes : List ℕ) → b ≡ 47 → IsUtf8 (b ∷ bytes) → begins_with_name (60 ∷ 47 ∷ script) (60 ∷ b ∷ bytes) ≡ false → read (DoubleLess last) 0 (input (b ∷ bytes)) ≡ read (DoubleEscaped last) 0 (input (b ∷ bytes))
    slashed b bytes e utf8 h =
        rw (e, input-solidus bytes) (
        double_solidus last (input bytes)
        ∙ ap (λ (l : List Token). Char 47 ∷ l) (no_double (DoubleEnd last) (Raw Escaped last) (DoubleEscaped last) (ends last) bytes (utf8_tail b bytes (omega (arith, e)) utf8) (subst (λ (x : ℕ). begins_with_name (60 ∷ 47 ∷ script) (60 ∷ x ∷ bytes) ≡ false) e h))
        ∙ sym (double_keeps_solidus last (input bytes)))

pub double_text : (last bytes : List ℕ) → IsUtf8 bytes → begins_with_name (60 ∷ 47 ∷ script) (60 ∷ bytes) ≡ false → read (DoubleEscaped last) 0 (input (60 ∷ bytes)) ≡ Char 60 ∷ read (DoubleEscaped last) 0 (input bytes)
double_text last bytes utf8 h =
    ap (read (DoubleEscaped last) 0) (input-less bytes) ∙ double_less last (input bytes) ∙ ap (λ (l : List Token). Char 60 ∷ l) (after_double_less last bytes utf8 h)
