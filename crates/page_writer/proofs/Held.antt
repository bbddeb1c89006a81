-- What a writer adds to a page.
use Rattle.std.proofs.Common.{◌≡◌, ℕ, Bool, true, false, eqb, cond, ◌&&◌, ◌||◌, List, [], ◌∷◌, ◌++◌, map, eqb-true, refl, sym, ap, subst, ◌∙◌, append_assoc, append-nil, encode_utf8_all, codes, chars, IsUtf8, Result, Ok, Err, is_ok, OnOk}
use Rattle.std.proofs.lemmas.Str.{encodes-append, scalars-chars}
use lib.Utf8.{scalar, scalars, encode}
use Rattle.html_syntax.specs.Token.{Attribute, Token}
use Rattle.html_syntax.specs.Token.Token.{Start, Doctype}
use Rattle.html_syntax.specs.Tokenizer.{tokens_of_bytes, has_name, same, replace_null}
use Rattle.page_writer.specs.Page.{IsWritable, spell, spell_char, spell_chars, spell_attributes, spell_token, are_attributes, are_distinct, MayStart, MayAppend, open_elements_after_token, MayAppendAll}
use Rattle.page_writer.specs.Bytes.{AreTexts}
use Rattle.html_rules.specs.Tables.{Name, is_attribute_name}
use Rattle.std.specs.List.{AllByRecursion, list_all}
use Rattle.html_rules.specs.Tokens.{text_tokens, replace_nulls}
use Rattle.page_writer.specs.Writer.{Page, page_of, IsPagePrefix}
use Rattle.html_rules.proofs.Facts.{and_true}
use Rattle.page_writer.proofs.Law.{law_of_bytes}

pub Leads-append : (inside : List (List ℕ)) (xs : List Token) (between : List (List ℕ)) (ys : List Token) (after : List (List ℕ)) → MayAppendAll inside xs between → MayAppendAll between ys after → MayAppendAll inside (xs ++ ys) after
unfolding MayAppendAll
Leads-append inside [] between ys after g h = subst (λ (i : List (List ℕ)). MayAppendAll i ys after) (sym g) h
Leads-append inside (x ∷ xs) between ys after g h = (g.0, Leads-append (open_elements_after_token inside x) xs between ys after g.1 h)

pub spell-append : (xs ys : List Token) → spell (xs ++ ys) ≡ spell xs ++ spell ys
unfolding spell
spell-append [] ys = refl
spell-append (x ∷ xs) ys = ap (λ (t : List ℕ). spell_token x ++ t) (spell-append xs ys) ∙ sym (append_assoc (spell_token x) (spell xs) (spell ys))

-- tokens that may come
pub record Adds (bytes : List ℕ) (ts : List Token) (new : List ℕ) (after : List (List ℕ)) : Type 0 where
  pub tokens : tokens_of_bytes new ≡ tokens_of_bytes bytes ++ ts
  pub held : IsPagePrefix new after

pub adds_all : (bytes : List ℕ) (inside : List (List ℕ)) (ts : List Token) (after : List (List ℕ)) → IsPagePrefix bytes inside → MayAppendAll inside ts after → Adds bytes ts (bytes ++ encode_utf8_all (spell ts)) after
adds_all bytes inside ts after held leads =
    let old = tokens_of_bytes bytes in
    let led = Leads-append [] old inside ts after held.led leads in
    let text : bytes ++ encode_utf8_all (spell ts) ≡ encode_utf8_all (spell (old ++ ts)) =
    ap (λ (b : List ℕ). b ++ encode_utf8_all (spell ts)) held.spelled ∙ sym (encodes-append (spell old) (spell ts)) ∙ ap encode_utf8_all (sym (spell-append old ts)) in
    let read : tokens_of_bytes (bytes ++ encode_utf8_all (spell ts)) ≡ old ++ ts = ap tokens_of_bytes text ∙ law_of_bytes (old ++ ts) after led in
    record {
      tokens = read;
      held = record {
        led = subst (λ (l : List Token). MayAppendAll [] l after) (sym read) led;
        spelled = text ∙ ap (λ (l : List Token). encode_utf8_all (spell l)) (sym read);
      };
    }

-- one token
pub adds : (bytes : List ℕ) (inside : List (List ℕ)) (t : Token) → IsPagePrefix bytes inside → MayAppend inside t → Adds bytes (t ∷ []) (bytes ++ encode_utf8_all (spell_token t)) (open_elements_after_token inside t)
unfolding spell MayAppendAll
adds bytes inside t held may =
    subst (λ (text : List ℕ). Adds bytes (t ∷ []) (bytes ++ encode_utf8_all text) (open_elements_after_token inside t)) (append-nil (spell_token t))
    (adds_all bytes inside (t ∷ []) (open_elements_after_token inside t) held (may, refl))

-- text
shown_is : (c : ℕ) → scalar c ≡ true → IsWritable (replace_null c)
shown_is c h = elim (eqb c 0) as (λ b. eqb c 0 ≡ b → IsWritable (cond b 0xFFFD c)) [ true ↦ λ e. (refl, refl) | false ↦ λ e. (rw e refl, h) ] refl

spell_shown : (c : ℕ) → spell_char (replace_null c) ≡ spell_char c
spell_shown c = elim (eqb c 0) as (λ b. eqb c 0 ≡ b → spell_char (cond b 0xFFFD c) ≡ spell_char c) [ true ↦ λ e. rw (eqb-true c 0 e) refl | false ↦ λ e. refl ] refl

pub text_leads : (inside : List (List ℕ)) (cs : List ℕ) → scalars cs ≡ true → MayAppendAll inside (text_tokens cs) inside
unfolding MayAppendAll
text_leads inside [] h = refl
text_leads inside (c ∷ cs) h = let both = and_true (scalar c) (scalars cs) h in (shown_is c both.0, text_leads inside cs both.1)

pub spell_text : (cs : List ℕ) → spell (text_tokens cs) ≡ spell_chars cs
unfolding spell
spell_text [] = refl
spell_text (c ∷ cs) = rw (spell_shown c, spell_text cs) refl

-- attributes
spell_shown_chars : (cs : List ℕ) → spell_chars (map replace_null cs) ≡ spell_chars cs
spell_shown_chars [] = refl
spell_shown_chars (c ∷ cs) = rw (spell_shown c, spell_shown_chars cs) refl

pub spell_shown_values : (attributes : List Attribute) → spell_attributes (replace_nulls attributes) ≡ spell_attributes attributes
spell_shown_values [] = refl
spell_shown_values (a ∷ rest) = rw (spell_shown_chars a.value, spell_shown_values rest) refl

shown_names : (attributes : List Attribute) → are_attributes (replace_nulls attributes) ≡ are_attributes attributes
shown_names [] = refl
shown_names (a ∷ rest) = ap (λ (b : Bool). is_attribute_name a.name && b) (shown_names rest)

shown_has_name : (name : List ℕ) (attributes : List Attribute) → has_name name (replace_nulls attributes) ≡ has_name name attributes
shown_has_name name [] = refl
shown_has_name name (a ∷ rest) = ap (λ (b : Bool). same a.name name || b) (shown_has_name name rest)

shown_distinct : (attributes : List Attribute) → are_distinct (replace_nulls attributes) ≡ are_distinct attributes
shown_distinct [] = refl
shown_distinct (a ∷ rest) = rw (shown_has_name a.name rest, shown_distinct rest) refl

shown_value : (cs : List ℕ) → scalars cs ≡ true → AllByRecursion IsWritable (map replace_null cs)
shown_value [] h = tt
shown_value (c ∷ cs) h = let both = and_true (scalar c) (scalars cs) h in (shown_is c both.0, shown_value cs both.1)

shown_all : (attributes : List Attribute) → AreTexts attributes → AllByRecursion (λ a. AllByRecursion IsWritable a.value) (replace_nulls attributes)
unfolding AreTexts
shown_all [] h = tt
shown_all (a ∷ rest) h =
    let both = and_true (scalars a.value) (list_all (λ (b : Attribute). scalars b.value) rest) h in (shown_value a.value both.0, shown_all rest both.1)

-- a start tag whose values are texts
pub start_may : (inside : List Name) (name : Name) (attributes : List Attribute) → MayStart inside name attributes → AreTexts attributes → MayAppend inside (Start name (replace_nulls attributes))
start_may inside name attributes may texts =
    ((may.0, may.1, shown_names attributes ∙ may.2, shown_distinct attributes ∙ may.3), shown_all attributes texts)

pub spell_shown_start : (name : Name) (attributes : List Attribute) → encode_utf8_all (spell_token (Start name attributes)) ≡ encode_utf8_all (spell_token (Start name (replace_nulls attributes)))
spell_shown_start name attributes = ap (λ (s : List ℕ). encode_utf8_all (60 ∷ name ++ s ++ 62 ∷ [])) (sym (spell_shown_values attributes))

pub no_tokens : tokens_of_bytes [] ≡ []
unfolding spell MayAppendAll
no_tokens = law_of_bytes [] [] refl

pub held_nothing : IsPagePrefix [] []
unfolding spell MayAppendAll
held_nothing = record { led = subst (λ (l : List Token). MayAppendAll [] l []) (sym no_tokens) refl; spelled = ap (λ (l : List Token). encode_utf8_all (spell l)) (sym no_tokens) }

-- ---- what a call leaves

pub on_ok : {T E : Type 0} (r : Result T E) (P : Type 0) → (is_ok r ≡ true → P) → OnOk r P
on_ok (Ok x) P h = h refl
on_ok (Err e) P h = tt

pub from_ok : {T E : Type 0} (r : Result T E) (P : Type 0) → OnOk r P → is_ok r ≡ true → P
from_ok (Ok x) P h e = h
from_ok (Err x) P h e = absurd cc

pub doctype_adds : (bytes : List ℕ) (opened : List (List ℕ)) → IsPagePrefix bytes opened → MayAppend opened Doctype → Adds bytes (Doctype ∷ []) (bytes ++ codes "<!DOCTYPE html>") opened
unfolding encode
doctype_adds bytes opened held may = adds bytes opened Doctype held may

pub text_adds : (bytes : List ℕ) (opened : List (List ℕ)) (text : List ℕ) → IsPagePrefix bytes opened → IsUtf8 text → Adds bytes (text_tokens (chars text)) (bytes ++ encode_utf8_all (spell_chars (chars text))) opened
text_adds bytes opened text held utf8 =
    subst (λ (s : List ℕ). Adds bytes (text_tokens (chars text)) (bytes ++ encode_utf8_all s) opened) (spell_text (chars text))
    (adds_all bytes opened (text_tokens (chars text)) opened held (text_leads opened (chars text) (scalars-chars text utf8)))

-- both goals of a call that adds tokens and opens nothing
pub record Leaves (r : Bool) (new : List ℕ) (opened : List (List ℕ)) (ts : List Token) (self : Page) : Type 0 where
  pub held : IsPagePrefix new opened
  pub page : r ≡ true → page_of new opened ≡ record { written = self.written ++ ts; opened = self.opened }

pub leaves : (r : Bool) (bytes new more : List ℕ) (opened : List (List ℕ)) (ts : List Token) (self : Page) → page_of bytes opened ≡ self → new ≡ cond r (bytes ++ more) bytes → IsPagePrefix bytes opened → Adds bytes ts (bytes ++ more) opened → Leaves r new opened ts self
leaves true bytes new more opened ts self is e held a = record {
  held = subst (λ (b : List ℕ). IsPagePrefix b opened) (sym e) a.held;
  page = λ _. ap (λ (b : List ℕ). page_of b opened) e ∙ ap (λ (l : List Token). record { written = l; opened = opened }) a.tokens ∙ ap (λ (p : Page). record { written = p.written ++ ts; opened = p.opened }) is;
}
leaves false bytes new more opened ts self is e held a = record { held = subst (λ (b : List ℕ). IsPagePrefix b opened) (sym e) held; page = λ h. absurd cc }
