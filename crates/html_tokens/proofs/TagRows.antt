-- What each state of a tag does with a character, and which of them read alike.
use Rattle.std.proofs.Common.{◌≡◌, ℕ, Bool, true, false, not, ◌||◌, ◌==◌, List, [], ◌∷◌, ◌++◌, refl, sym, ◌∙◌, arith, inl, inr}
use Rattle.std.proofs.lemmas.Bool.{cases_Bool, eqb-true}
use Rattle.std.proofs.lemmas.Bool.Decides.{nat_tests}
use Rattle.html_syntax.specs.Token.{Token}
use Rattle.html_syntax.specs.Characters.{is_space, lower}
use Rattle.html_syntax.specs.References.{reference}
use Rattle.html_syntax.specs.States.{Tag, keep, keep_flag, replace_null}
use Rattle.html_syntax.specs.States.State.{TagName, BeforeName, AttributeName, AfterName, BeforeValue, QuotedValue, UnquotedValue, AfterValue, SelfClosing}
use Rattle.html_syntax.specs.Tokenizer.{look, look_again, step, read, tokens_at_end}
use Rattle.html_tokens.specs.Tags.{tokens_after_tag}
use Rattle.html_tokens.proofs.Runs.{reconsumed}
use Rattle.html_tokens.proofs.Decoding.{Decodes}

-- ---- before an attribute's name

pub before_space : (t : Tag) (c : ℕ) (text : List ℕ) → is_space c ≡ true → read (BeforeName t) 0 (c ∷ text) ≡ read (BeforeName t) 0 text
unfolding read step look_again look
before_space t c text h = rw h refl

closing_end : (t : Tag) (text : List ℕ) → read (SelfClosing t) 0 (62 ∷ text) ≡ read (AfterName t []) 0 (62 ∷ text)
unfolding read step look_again look
closing_end t text = refl

before_after_end : (t : Tag) (text : List ℕ) → read (BeforeName t) 0 (62 ∷ text) ≡ read (AfterName t []) 0 (62 ∷ text)
unfolding look
before_after_end t text = reconsumed (BeforeName t) (AfterName t []) [] 62 text refl

closing_again : (t : Tag) (c : ℕ) (text : List ℕ) → (c == 62) ≡ false → read (SelfClosing t) 0 (c ∷ text) ≡ read (BeforeName t) 0 (c ∷ text)
unfolding look
closing_again t c text h = reconsumed (SelfClosing t) (BeforeName t) [] c text (rw h refl)

closing_nil : (t : Tag) → read (SelfClosing t) 0 [] ≡ read (BeforeName t) 0 []
unfolding read tokens_at_end
closing_nil t = refl

-- the flag is not kept
pub closing_before : (t : Tag) (text : List ℕ) → read (SelfClosing t) 0 text ≡ read (BeforeName t) 0 text
closing_before t [] = closing_nil t
closing_before t (c ∷ text) = elim (cases_Bool (c == 62)) [
  | inl is ↦
      let e : c ≡ 62 = eqb-true c 62 is in
      rw e (closing_end t text ∙ sym (before_after_end t text))
  | inr other ↦ closing_again t c text other
]

before_after_solidus : (t : Tag) (text : List ℕ) → read (BeforeName t) 0 (47 ∷ text) ≡ read (SelfClosing t) 0 text
unfolding read step look_again look
before_after_solidus t text = refl

pub before_solidus : (t : Tag) (text : List ℕ) → read (BeforeName t) 0 (47 ∷ text) ≡ read (BeforeName t) 0 text
before_solidus t text = before_after_solidus t text ∙ closing_before t text

emitted_end : (is_end : Bool) (name : List ℕ) (attributes : List Rattle.html_syntax.specs.Token.Attribute) (text : List ℕ)
    → (let t : Tag = record { is_end = is_end; name = name; attributes = attributes } in read (SelfClosing t) 0 (62 ∷ text) ≡ tokens_after_tag t text)
unfolding read step look_again look
emitted_end true name attributes text = refl
emitted_end false name attributes text = grind arith

pub before_end : (t : Tag) (text : List ℕ) → read (BeforeName t) 0 (62 ∷ text) ≡ tokens_after_tag t text
before_end t text = before_after_end t text ∙ sym (closing_end t text) ∙ emitted_end t.is_end t.name t.attributes text

pub before_nil : (t : Tag) → read (BeforeName t) 0 [] ≡ []
unfolding read tokens_at_end
before_nil t = refl

-- ---- the tag's name

-- what ends the name
abbrev pub is_name_end : ℕ → Bool
is_name_end c = is_space c || c == 47 || c == 62

name_space : (t : Tag) (c : ℕ) (text : List ℕ) → is_space c ≡ true → read (TagName t) 0 (c ∷ text) ≡ read (BeforeName t) 0 (c ∷ text)
unfolding read step look_again look
name_space t c text h = rw h refl

name_solidus : (t : Tag) (text : List ℕ) → read (TagName t) 0 (47 ∷ text) ≡ read (BeforeName t) 0 (47 ∷ text)
unfolding read step look_again look
name_solidus t text = refl

name_greater : (t : Tag) (text : List ℕ) → read (TagName t) 0 (62 ∷ text) ≡ read (SelfClosing t) 0 (62 ∷ text)
unfolding read step look_again look
name_greater t text = refl

pub name_nil : (t : Tag) → read (TagName t) 0 [] ≡ read (BeforeName t) 0 []
unfolding read tokens_at_end
name_nil t = refl

pub name_stops : (t : Tag) (c : ℕ) (text : List ℕ) → is_name_end c ≡ true → read (TagName t) 0 (c ∷ text) ≡ read (BeforeName t) 0 (c ∷ text)
name_stops t c text h = elim (cases_Bool (is_space c)) [
  | inl is ↦ name_space t c text is
  | inr unspaced ↦ elim (cases_Bool (c == 47)) [
    | inl is ↦
        let e : c ≡ 47 = eqb-true c 47 is in
        rw e (name_solidus t text)
    | inr other ↦
        let e : c ≡ 62 = eqb-true c 62 (rw (unspaced, other) at h) in
        rw e (name_greater t text ∙ closing_end t text ∙ sym (before_after_end t text))
  ]
]

-- ---- an attribute's name

-- what ends the name
abbrev pub is_attribute_end : ℕ → Bool
is_attribute_end c = is_space c || c == 47 || c == 62 || c == 61

pub before_equals : (t : Tag) (text : List ℕ) → read (BeforeName t) 0 (61 ∷ text) ≡ read (AttributeName t (61 ∷ [])) 0 text
unfolding read step look_again look
before_equals t text = refl

pub before_name : (t : Tag) (c : ℕ) (text : List ℕ) → is_attribute_end c ≡ false → read (BeforeName t) 0 (c ∷ text) ≡ read (AttributeName t []) 0 (c ∷ text)
unfolding look
before_name t c text h =
    let a : is_space c ≡ false = grind (arith, nat_tests) in
    let b : (c == 47) ≡ false = grind (arith, nat_tests) in
    let d : (c == 62) ≡ false = grind (arith, nat_tests) in
    let e : (c == 61) ≡ false = grind (arith, nat_tests) in
    reconsumed (BeforeName t) (AttributeName t []) [] c text (rw (a, b, d, e) refl)

pub attribute_keeps : (t : Tag) (kept : List ℕ) (c : ℕ) (text : List ℕ) → is_attribute_end c ≡ false → read (AttributeName t kept) 0 (c ∷ text) ≡ read (AttributeName t (kept ++ lower (replace_null c) ∷ [])) 0 text
unfolding read step look_again look
attribute_keeps t kept c text h =
    let a : is_space c ≡ false = grind (arith, nat_tests) in
    let b : (c == 47) ≡ false = grind (arith, nat_tests) in
    let d : (c == 62) ≡ false = grind (arith, nat_tests) in
    let e : (c == 61) ≡ false = grind (arith, nat_tests) in
    rw (a, b, d, e) refl

pub attribute_nil : (t : Tag) (n : List ℕ) → read (AttributeName t n) 0 [] ≡ read (AfterName t n) 0 []
unfolding read tokens_at_end
attribute_nil t n = refl

pub after_nil : (t : Tag) (n : List ℕ) → read (AfterName t n) 0 [] ≡ read (BeforeName (keep_flag t n)) 0 []
unfolding read tokens_at_end
after_nil t n = refl

attribute_equals : (t : Tag) (n text : List ℕ) → read (AttributeName t n) 0 (61 ∷ text) ≡ read (AfterName t n) 0 (61 ∷ text)
unfolding read step look_again look
attribute_equals t n text = refl

attribute_ended : (t : Tag) (n : List ℕ) (c : ℕ) (text : List ℕ) → (is_space c || c == 47 || c == 62) ≡ true → read (AttributeName t n) 0 (c ∷ text) ≡ read (AfterName t n) 0 (c ∷ text)
unfolding look
attribute_ended t n c text h = reconsumed (AttributeName t n) (AfterName t n) [] c text (rw h refl)

pub attribute_stops : (t : Tag) (n : List ℕ) (c : ℕ) (text : List ℕ) → is_attribute_end c ≡ true → read (AttributeName t n) 0 (c ∷ text) ≡ read (AfterName t n) 0 (c ∷ text)
attribute_stops t n c text h = elim (cases_Bool (c == 61)) [
  | inl is ↦
      let e : c ≡ 61 = eqb-true c 61 is in
      rw e (attribute_equals t n text)
  | inr other ↦ attribute_ended t n c text (grind (arith, nat_tests))
]

-- ---- after an attribute's name

pub after_space : (t : Tag) (n : List ℕ) (c : ℕ) (text : List ℕ) → is_space c ≡ true → read (AfterName t n) 0 (c ∷ text) ≡ read (AfterName t n) 0 text
unfolding read step look_again look
after_space t n c text h = rw h refl

pub after_equals : (t : Tag) (n text : List ℕ) → read (AfterName t n) 0 (61 ∷ text) ≡ read (BeforeValue t n) 0 text
unfolding read step look_again look
after_equals t n text = refl

after_solidus : (t : Tag) (n text : List ℕ) → read (AfterName t n) 0 (47 ∷ text) ≡ read (SelfClosing (keep_flag t n)) 0 text
unfolding read step look_again look
after_solidus t n text = refl

after_greater : (t : Tag) (n text : List ℕ) → read (AfterName t n) 0 (62 ∷ text) ≡ read (SelfClosing (keep_flag t n)) 0 (62 ∷ text)
unfolding read step look_again look
after_greater t n text = refl

after_name : (t : Tag) (n : List ℕ) (c : ℕ) (text : List ℕ) → is_attribute_end c ≡ false → read (AfterName t n) 0 (c ∷ text) ≡ read (AttributeName (keep_flag t n) []) 0 (c ∷ text)
unfolding look
after_name t n c text h =
    let a : is_space c ≡ false = grind (arith, nat_tests) in
    let b : (c == 47) ≡ false = grind (arith, nat_tests) in
    let d : (c == 62) ≡ false = grind (arith, nat_tests) in
    let e : (c == 61) ≡ false = grind (arith, nat_tests) in
    reconsumed (AfterName t n) (AttributeName (keep_flag t n) []) [] c text (rw (a, b, d, e) refl)

-- no `=` follows
pub after_other : (t : Tag) (n : List ℕ) (c : ℕ) (text : List ℕ) → is_space c ≡ false → (c == 61) ≡ false → read (AfterName t n) 0 (c ∷ text) ≡ read (BeforeName (keep_flag t n)) 0 (c ∷ text)
after_other t n c text unspaced unequal = elim (cases_Bool (c == 47)) [
  | inl is ↦
      let e : c ≡ 47 = eqb-true c 47 is in
      rw e (after_solidus t n text ∙ sym (before_after_solidus (keep_flag t n) text))
  | inr other ↦ elim (cases_Bool (c == 62)) [
    | inl is ↦
        let e : c ≡ 62 = eqb-true c 62 is in
        rw e (after_greater t n text ∙ closing_before (keep_flag t n) (62 ∷ text))
    | inr none ↦
        let name : is_attribute_end c ≡ false = rw (unspaced, other, none, unequal) refl in
        after_name t n c text name ∙ sym (before_name (keep_flag t n) c text name)
  ]
]

-- ---- values

pub value_space : (t : Tag) (n : List ℕ) (c : ℕ) (text : List ℕ) → is_space c ≡ true → read (BeforeValue t n) 0 (c ∷ text) ≡ read (BeforeValue t n) 0 text
unfolding read step look_again look
value_space t n c text h = rw h refl

pub value_quote : (t : Tag) (n : List ℕ) (quote : ℕ) (text : List ℕ) → (quote == 34 || quote == 39) ≡ true → read (BeforeValue t n) 0 (quote ∷ text) ≡ read (QuotedValue quote t n []) 0 text
unfolding read step look_again look
value_quote t n quote text h =
    let a : is_space quote ≡ false = grind (arith, nat_tests) in
    rw (a, h) refl

value_greater : (t : Tag) (n text : List ℕ) → read (BeforeValue t n) 0 (62 ∷ text) ≡ read (UnquotedValue t n []) 0 (62 ∷ text)
unfolding read step look_again look
value_greater t n text = refl

value_again : (t : Tag) (n : List ℕ) (c : ℕ) (text : List ℕ) → is_space c ≡ false → (c == 34 || c == 39) ≡ false → (c == 62) ≡ false → read (BeforeValue t n) 0 (c ∷ text) ≡ read (UnquotedValue t n []) 0 (c ∷ text)
unfolding look
value_again t n c text a b d = reconsumed (BeforeValue t n) (UnquotedValue t n []) [] c text (rw (a, b, d) refl)

pub value_other : (t : Tag) (n : List ℕ) (c : ℕ) (text : List ℕ) → is_space c ≡ false → (c == 34 || c == 39) ≡ false → read (BeforeValue t n) 0 (c ∷ text) ≡ read (UnquotedValue t n []) 0 (c ∷ text)
value_other t n c text a b = elim (cases_Bool (c == 62)) [
  | inl is ↦
      let e : c ≡ 62 = eqb-true c 62 is in
      rw e (value_greater t n text)
  | inr other ↦ value_again t n c text a b other
]

pub value_nil : (t : Tag) (n : List ℕ) → read (BeforeValue t n) 0 [] ≡ read (UnquotedValue t n []) 0 []
unfolding read tokens_at_end
value_nil t n = refl

-- ---- a quoted value

abbrev pub quoted : ℕ → Tag → List ℕ → List ℕ → ℕ → List ℕ → List Token
quoted quote t n kept passing text = read (QuotedValue quote t n kept) passing text

quoted_keeps : (quote : ℕ) (t : Tag) (n kept : List ℕ) (c : ℕ) (text : List ℕ) → not (c == quote) ≡ true → (c == 0x26) ≡ false → quoted quote t n kept 0 (c ∷ text) ≡ quoted quote t n (kept ++ replace_null c ∷ []) 0 text
unfolding read step look_again look
quoted_keeps quote t n kept c text h other =
    let unquoted : (c == quote) ≡ false = grind (arith, nat_tests) in
    rw (unquoted, other) refl

quoted_refers : (quote : ℕ) (t : Tag) (n kept text : List ℕ) (c : ℕ) → (38 == quote) ≡ false → (c == 0x26) ≡ true
    → quoted quote t n kept 0 (c ∷ text) ≡ quoted quote t n (kept ++ (reference true text).chars) (reference true text).len text
unfolding read step look_again look
quoted_refers quote t n kept text c other is =
    let e : c ≡ 38 = eqb-true c 38 is in
    rw (e, other) refl

pub quoted_decodes : (quote : ℕ) → (38 == quote) ≡ false → (t : Tag) (n : List ℕ) → Decodes (quoted quote t n) true (λ c. not (c == quote)) replace_null
unfolding read
quoted_decodes quote other t n = record { keeps = quoted_keeps quote t n; refers = λ kept text c. quoted_refers quote t n kept text c other; passes = λ kept k c text. refl }

pub quoted_nil : (quote : ℕ) (t : Tag) (n v : List ℕ) → quoted quote t n v 0 [] ≡ []
unfolding read tokens_at_end
quoted_nil quote t n v = refl

after_value_nil : (t : Tag) → read (AfterValue t) 0 [] ≡ read (BeforeName t) 0 []
unfolding read tokens_at_end
after_value_nil t = refl

after_value_ended : (t : Tag) (c : ℕ) (text : List ℕ) → is_name_end c ≡ true → read (AfterValue t) 0 (c ∷ text) ≡ read (TagName t) 0 (c ∷ text)
unfolding read step look_again look
after_value_ended t c text h = elim (cases_Bool (is_space c)) [
  | inl is ↦ rw is refl
  | inr unspaced ↦ elim (cases_Bool (c == 47)) [
    | inl is ↦ rw (unspaced, is) refl
    | inr other ↦
        let e : (c == 62) ≡ true = (rw (unspaced, other) at h) in
        rw (unspaced, other, e) refl
  ]
]

after_value_again : (t : Tag) (c : ℕ) (text : List ℕ) → is_name_end c ≡ false → read (AfterValue t) 0 (c ∷ text) ≡ read (BeforeName t) 0 (c ∷ text)
unfolding look
after_value_again t c text h =
    let a : is_space c ≡ false = grind (arith, nat_tests) in
    let b : (c == 47) ≡ false = grind (arith, nat_tests) in
    let d : (c == 62) ≡ false = grind (arith, nat_tests) in
    reconsumed (AfterValue t) (BeforeName t) [] c text (rw (a, b, d) refl)

after_value : (t : Tag) (text : List ℕ) → read (AfterValue t) 0 text ≡ read (BeforeName t) 0 text
after_value t [] = after_value_nil t
after_value t (c ∷ text) = elim (cases_Bool (is_name_end c)) [
  | inl is ↦ after_value_ended t c text is ∙ name_stops t c text is
  | inr other ↦ after_value_again t c text other
]

quoted_closes : (quote : ℕ) (t : Tag) (n v text : List ℕ) → (quote == quote) ≡ true → quoted quote t n v 0 (quote ∷ text) ≡ read (AfterValue (keep t n v)) 0 text
unfolding read step look_again look
quoted_closes quote t n v text h = rw h refl

pub quoted_end : (quote : ℕ) (t : Tag) (n v text : List ℕ) → (quote == quote) ≡ true → quoted quote t n v 0 (quote ∷ text) ≡ read (BeforeName (keep t n v)) 0 text
quoted_end quote t n v text h = quoted_closes quote t n v text h ∙ after_value (keep t n v) text

-- ---- an unquoted value

abbrev pub unquoted : Tag → List ℕ → List ℕ → ℕ → List ℕ → List Token
unquoted t n kept passing text = read (UnquotedValue t n kept) passing text

-- a character of the value
abbrev pub is_unquoted : ℕ → Bool
is_unquoted c = not (is_space c || c == 62)

unquoted_keeps : (t : Tag) (n kept : List ℕ) (c : ℕ) (text : List ℕ) → is_unquoted c ≡ true → (c == 0x26) ≡ false → unquoted t n kept 0 (c ∷ text) ≡ unquoted t n (kept ++ replace_null c ∷ []) 0 text
unfolding read step look_again look
unquoted_keeps t n kept c text h other =
    let a : is_space c ≡ false = grind (arith, nat_tests) in
    let d : (c == 62) ≡ false = grind (arith, nat_tests) in
    rw (a, other, d) refl

unquoted_refers : (t : Tag) (n kept text : List ℕ) (c : ℕ) → (c == 0x26) ≡ true → unquoted t n kept 0 (c ∷ text) ≡ unquoted t n (kept ++ (reference true text).chars) (reference true text).len text
unfolding read step look_again look
unquoted_refers t n kept text c is =
    let e : c ≡ 38 = eqb-true c 38 is in
    rw e refl

pub unquoted_decodes : (t : Tag) (n : List ℕ) → Decodes (unquoted t n) true is_unquoted replace_null
unfolding read
unquoted_decodes t n = record { keeps = unquoted_keeps t n; refers = unquoted_refers t n; passes = λ kept k c text. refl }

pub unquoted_nil : (t : Tag) (n v : List ℕ) → unquoted t n v 0 [] ≡ read (BeforeName (keep t n v)) 0 []
unfolding read tokens_at_end
unquoted_nil t n v = refl

unquoted_space : (t : Tag) (n v : List ℕ) (c : ℕ) (text : List ℕ) → is_space c ≡ true → unquoted t n v 0 (c ∷ text) ≡ read (BeforeName (keep t n v)) 0 (c ∷ text)
unfolding read step look_again look
unquoted_space t n v c text h = rw h refl

unquoted_greater : (t : Tag) (n v text : List ℕ) → unquoted t n v 0 (62 ∷ text) ≡ read (SelfClosing (keep t n v)) 0 (62 ∷ text)
unfolding read step look_again look
unquoted_greater t n v text = refl

pub unquoted_stops : (t : Tag) (n v : List ℕ) (c : ℕ) (text : List ℕ) → is_unquoted c ≡ false → unquoted t n v 0 (c ∷ text) ≡ read (BeforeName (keep t n v)) 0 (c ∷ text)
unquoted_stops t n v c text h = elim (cases_Bool (is_space c)) [
  | inl is ↦ unquoted_space t n v c text is
  | inr unspaced ↦
      let is : (c == 62) ≡ true = grind (arith, nat_tests) in
      let e : c ≡ 62 = eqb-true c 62 is in
      rw e (unquoted_greater t n v text ∙ closing_before (keep t n v) (62 ∷ text))
]
