-- What a call leaves that opens or closes an element.
use Rattle.std.proofs.Common.{◌≡◌, ℕ, ◌<◌, Bool, true, false, cond, List, [], ◌∷◌, ◌++◌, length, map, reverse, IsTrue, refl, sym, ap, subst, ◌∙◌, encode_utf8_all, chars, IsUtf8, string_bytes, String, arith, Option, Some, option_to_list}
use Rattle.std.proofs.lemmas.List.{reverse-append, map-append, length-reverse, length-map}
use Rattle.std.proofs.lemmas.Str.{encodes-chars, encode_ascii}
use lib.Utf8.{encodes}
use Rattle.html_syntax.specs.Token.{Token, Attribute}
use Rattle.html_syntax.specs.Token.Token.{Start, End, Char, Comment, Doctype}
use Rattle.html_syntax.specs.Tokenizer.{tokens_of_bytes}
use Rattle.html_syntax.specs.References.{is_between}
use Rattle.html_rules.specs.Tables.{is_element, is_void}
use Rattle.page_writer.specs.Page.{spell_token, MayAppend, outer, open_elements_after_token, MayAppendAll}
use Rattle.page_writer.specs.Writer.{Page, page_of, names_of, with_token, IsPagePrefix, innermost}
use Rattle.html_rules.proofs.Facts.{and_true, same-refl}
use Rattle.page_writer.proofs.Names.{is_name, is_name_char, name_chars, name_char, element_name, letter_char}
use Rattle.page_writer.proofs.Held.{adds}

pub record Moves (r : Bool) (new : List ℕ) (names : List (List ℕ)) (t : Token) (self : Page) : Type 0 where
  pub held : IsPagePrefix new names
  pub page : r ≡ true → page_of new names ≡ with_token self t

pub moves : (r : Bool) (bytes new more : List ℕ) (opened names after : List (List ℕ)) (t : Token) (self : Page)
    → page_of bytes opened ≡ self → new ≡ cond r (bytes ++ more) bytes → names ≡ cond r after opened → after ≡ open_elements_after_token opened t
    → more ≡ encode_utf8_all (spell_token t) → IsPagePrefix bytes opened → (r ≡ true → MayAppend opened t) → Moves r new names t self
moves true bytes new more opened names after t self is e n a m held may =
    let d = adds bytes opened t held (may refl) in
    let b : new ≡ bytes ++ encode_utf8_all (spell_token t) = e ∙ ap (λ (x : List ℕ). bytes ++ x) m in
    let k : names ≡ open_elements_after_token opened t = n ∙ a in
    record {
      held = subst (λ (x : List ℕ). IsPagePrefix x names) (sym b) (subst (λ (x : List (List ℕ)). IsPagePrefix (bytes ++ encode_utf8_all (spell_token t)) x) (sym k) d.held);
      page = λ _. ap (λ (x : List ℕ). page_of x names) b ∙ ap (λ (l : List Token). record { written = l; opened = names }) d.tokens ∙ ap (λ (x : List (List ℕ)). record { written = tokens_of_bytes bytes ++ t ∷ []; opened = x }) k ∙ ap (λ (p : Page). with_token p t) is;
    }
moves false bytes new more opened names after t self is e n a m held may = record {
  held = subst (λ (x : List ℕ). IsPagePrefix x names) (sym e) (subst (λ (x : List (List ℕ)). IsPagePrefix bytes x) (sym n) held);
  page = λ h. absurd cc;
}

-- ---- names

ascii_encodes : (cs : List ℕ) → name_chars cs ≡ true → encode_utf8_all cs ≡ cs
ascii_encodes [] h = refl
ascii_encodes (c ∷ cs) h =
    let both = and_true (is_name_char c) (name_chars cs) h in
    ap (λ (x : List ℕ). x ++ encode_utf8_all cs) (encode_ascii c (name_char c both.0).scalar) ∙ ap (λ (x : List ℕ). c ∷ x) (ascii_encodes cs both.1)

name_is_ascii : (cs : List ℕ) → is_name cs ≡ true → encode_utf8_all cs ≡ cs
name_is_ascii [] h = refl
name_is_ascii (c ∷ cs) h =
    let both = and_true (is_between 97 122 c) (name_chars cs) h in
    ap (λ (x : List ℕ). x ++ encode_utf8_all cs) (encode_ascii c (letter_char c both.0).in_name.scalar) ∙ ap (λ (x : List ℕ). c ∷ x) (ascii_encodes cs both.1)

-- the bytes of an element's name are its characters
pub name_bytes : (bs : List ℕ) → IsUtf8 bs → is_element (chars bs) ≡ true → chars bs ≡ bs
name_bytes bs utf8 h = sym (name_is_ascii (chars bs) (element_name (chars bs) h)) ∙ encodes-chars bs utf8

pub names_of_push : {Z : Type 0} (items : List (String Z)) (s : String Z) → names_of (items ++ s ∷ []) ≡ chars (string_bytes s) ∷ names_of items
names_of_push items s = ap reverse (map-append (λ (x : String _). chars (string_bytes x)) items (s ∷ [])) ∙ reverse-append (map (λ (x : String _). chars (string_bytes x)) items) (chars (string_bytes s) ∷ [])

pub names_if : {Z : Type 0} (r : Bool) (items new : List (String Z)) (s : String Z) (name : List ℕ) → new ≡ cond r (items ++ s ∷ []) items → string_bytes s ≡ name → names_of new ≡ cond r (chars name ∷ names_of items) (names_of items)
names_if true items new s name e n = ap names_of e ∙ names_of_push items s ∙ ap (λ (x : List ℕ). chars x ∷ names_of items) n
names_if false items new s name e n = ap names_of e

-- ---- the start of an element

pub opens_nothing : (bs : List ℕ) (r : Bool) (opened : List (List ℕ)) (attributes : List Attribute) → r ≡ is_void bs → r ≡ true → chars bs ≡ bs → opened ≡ open_elements_after_token opened (Start (chars bs) attributes)
opens_nothing bs r opened attributes e h n =
    let v : is_void (chars bs) ≡ true = ap is_void n ∙ sym e ∙ h in
    rw v refl

pub opens_it : (bs : List ℕ) (r : Bool) (opened : List (List ℕ)) (attributes : List Attribute) → r ≡ is_void bs → r ≡ false → chars bs ≡ bs → (chars bs ∷ opened) ≡ open_elements_after_token opened (Start (chars bs) attributes)
opens_it bs r opened attributes e h n =
    let v : is_void (chars bs) ≡ false = ap is_void n ∙ sym e ∙ h in
    rw v refl

-- ---- the end of an element

abbrev AreElements : List (List ℕ) → Type 0
AreElements [] = Unit {0}
AreElements (n ∷ names) = IsTrue (is_element n) × AreElements names

cond_elements : (b : Bool) (inside : List (List ℕ)) (name : List ℕ) → AreElements inside → IsTrue (is_element name) → AreElements (cond b inside (name ∷ inside))
cond_elements true inside name a h = a
cond_elements false inside name a h = (h, a)

outer_elements : (inside : List (List ℕ)) → AreElements inside → AreElements (outer inside)
outer_elements [] a = tt
outer_elements (n ∷ names) a = a.1

elements_stay : (inside : List (List ℕ)) (t : Token) → AreElements inside → MayAppend inside t → AreElements (open_elements_after_token inside t)
elements_stay inside (Start name attributes) a may = cond_elements (is_void name) inside name a may.0.0
elements_stay inside (End name) a may = outer_elements inside a
elements_stay inside (Char c) a may = a
elements_stay inside (Comment text) a may = a
elements_stay inside Doctype a may = a

elements_led : (inside : List (List ℕ)) (ts : List Token) (after : List (List ℕ)) → AreElements inside → MayAppendAll inside ts after → AreElements after
unfolding MayAppendAll
elements_led inside [] after a h = subst AreElements h a
elements_led inside (t ∷ ts) after a h = elements_led (open_elements_after_token inside t) ts after (elements_stay inside t a h.0) h.1

end_may : (opened : List (List ℕ)) → AreElements opened → 0 < length opened → MayAppend opened (End (innermost opened))
end_may [] a h = absurd (omega arith)
end_may (n ∷ names) a h = (a.0, same-refl n)

pub may_end : (bytes : List ℕ) (opened : List (List ℕ)) → IsPagePrefix bytes opened → 0 < length opened → MayAppend opened (End (innermost opened))
may_end bytes opened held h = end_may opened (elements_led [] (tokens_of_bytes bytes) opened tt held.led) h

pub either : {X : Type 0} (r : Bool) (x : X) → x ≡ cond r x x
either true x = refl
either false x = refl

pub length-names_of : {Z : Type 0} (items : List (String Z)) → length (names_of items) ≡ length items
length-names_of items = length-reverse (map (λ (s : String _). chars (string_bytes s)) items) ∙ length-map items (λ (s : String _). chars (string_bytes s))

-- the last name was taken off
pub popped : {Z : Type 0} (items new : List (String Z)) (r : Option (String Z)) (x : String Z) → items ≡ new ++ option_to_list r → r ≡ Some x → names_of items ≡ chars (string_bytes x) ∷ names_of new
popped items new r x e is = ap names_of (e ∙ ap (λ (o : Option (String _)). new ++ option_to_list o) is) ∙ names_of_push new x
