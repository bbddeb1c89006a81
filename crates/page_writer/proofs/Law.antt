-- A written page reads as the tokens that were written.
use Rattle.std.proofs.Common.{◌≡◌, ℕ, Bool, true, false, not, ◌&&◌, ◌||◌, ◌==◌, eqb, cond, List, [], ◌∷◌, ◌++◌, codes, IsTrue, refl, sym, ap, subst, ◌∙◌, arith, encode_utf8_all}
use Rattle.std.proofs.lemmas.Bool.Decides.{nat_tests}
use Rattle.std.proofs.lemmas.Str.{utf8_lossy-IsUtf8, chars-encodes}
use lib.Utf8.{scalar, scalars, encodes}
use Rattle.std.specs.List.{list_all, AllByRecursion}
use Rattle.html_syntax.specs.Token.{Attribute, Token}
use Rattle.html_syntax.specs.Token.Token.{Start, End, Char, Comment, Doctype}
use Rattle.html_syntax.specs.Tokenizer.{State, tokens_at_end, read, state_after_start, is_among, same, raw_names, normalize_newlines, tokens, tokens_of_bytes}
use Rattle.html_syntax.specs.Tokenizer.RawTextKind.{Rcdata}
use Rattle.html_syntax.specs.Tokenizer.State.{Data, Raw}
use Rattle.html_syntax.specs.References.{is_between}
use Rattle.page_writer.specs.Page.{IsWritable, spell_char, spell_chars, spell_attribute, spell_attributes, spell_token, spell, takes_tags, MayAppend, open_elements_after_token, MayAppendAll}
use Rattle.html_rules.specs.Tables.{is_element, is_text_only, is_void, message_elements, frame_elements, text_only_elements, message_void_elements, frame_void_elements}
use Rattle.page_writer.proofs.Distinct.{AreAttributes, attributes_of}
use Rattle.html_rules.proofs.Facts.{same-true, among_all, and_true, no_of}
use Rattle.page_writer.proofs.Names.{is_name, is_name_char, name_chars, element_name, attribute_name, spelled}
use Rattle.page_writer.proofs.Names.Spelled.{is_lt, is_gt, is_amp, is_quot, is_cr, itself}
use Rattle.page_writer.proofs.Reading.{not_nul, data_char, text_char, start_reads, end_reads, title_end, textarea_end, doctype_reads}

-- the state of the tokenizer if these elements are open
abbrev state_in : List (List ℕ) → State
state_in [] = Data
state_in (name ∷ names) = cond (is_text_only name) (Raw Rcdata name) Data

-- only the innermost element may be text alone
abbrev IsStack : List (List ℕ) → Type 0
IsStack [] = Unit {0}
IsStack (name ∷ names) = IsTrue (takes_tags names) × IsStack names

in_data : (inside : List (List ℕ)) → IsTrue (takes_tags inside) → state_in inside ≡ Data
in_data [] h = refl
in_data (name ∷ names) h = rw (no_of (is_text_only name) h) refl

nothing_at_end : (inside : List (List ℕ)) → read (state_in inside) 0 [] ≡ []
unfolding tokens_at_end read
nothing_at_end [] = refl
nothing_at_end (name ∷ names) = elim (is_text_only name) as (λ b. read (cond b (Raw Rcdata name) Data) 0 [] ≡ []) [ true ↦ refl | false ↦ refl ]

-- what the table says of each element: it isn't raw, and none is void and text
abbrev isnt_raw : List ℕ → Bool
isnt_raw name = not (is_among raw_names name) && (not (same (codes "script") name) && (not (same (codes "plaintext") name) && not (is_void name && is_text_only name)))

not_raw : (name : List ℕ) → is_element name ≡ true → isnt_raw name ≡ true
unfolding is_element message_elements frame_elements is_text_only text_only_elements is_void message_void_elements frame_void_elements
not_raw name h = among_all isnt_raw (message_elements ++ frame_elements) name refl h

state_after : (name : List ℕ) → is_element name ≡ true → state_after_start name ≡ cond (is_text_only name) (Raw Rcdata name) Data
unfolding is_text_only text_only_elements
state_after name h =
    let a = and_true (not (is_among raw_names name)) _ (not_raw name h) in
    let b = and_true (not (same (codes "script") name)) _ a.1 in
    let c = and_true (not (same (codes "plaintext") name)) _ b.1 in
    rw (no_of (is_among raw_names name) a.0, no_of (same (codes "script") name) b.0, no_of (same (codes "plaintext") name) c.0) refl

not_both : (a b : Bool) → not (a && b) ≡ true → a ≡ true → b ≡ false
not_both true b h e = no_of b h
not_both false b h e = absurd cc

void_isnt_text : (name : List ℕ) → is_element name ≡ true → is_void name ≡ true → is_text_only name ≡ false
void_isnt_text name h v =
    let a = and_true (not (is_among raw_names name)) _ (not_raw name h) in
    let b = and_true (not (same (codes "script") name)) _ a.1 in
    let c = and_true (not (same (codes "plaintext") name)) _ b.1 in
    not_both (is_void name) (is_text_only name) c.1 v

-- the state after a start tag, and that the stack stays one
opens : (inside : List (List ℕ)) (name : List ℕ) → is_element name ≡ true → IsTrue (takes_tags inside) → IsStack inside → (state_after_start name ≡ state_in (cond (is_void name) inside (name ∷ inside))) × IsStack (cond (is_void name) inside (name ∷ inside))
opens inside name h takes stack =
    elim (is_void name) as (λ b. is_void name ≡ b → (state_after_start name ≡ state_in (cond b inside (name ∷ inside))) × IsStack (cond b inside (name ∷ inside))) [
      | true ↦ λ v. (state_after name h ∙ ap (λ (b : Bool). cond b (Raw Rcdata name) Data) (void_isnt_text name h v) ∙ sym (in_data inside takes), stack)
      | false ↦ λ v. (state_after name h, (takes, stack))
    ] refl

-- the end of an element whose content is text alone
or_cases : (a b : Bool) → (a || (b || false)) ≡ true → (P : Type 0) → (a ≡ true → P) → (b ≡ true → P) → P
or_cases true b h P f g = f refl
or_cases false true h P f g = g refl
or_cases false false h P f g = absurd cc

text_end : (name rest : List ℕ) → is_text_only name ≡ true → read (Raw Rcdata name) 0 (spell_token (End name) ++ rest) ≡ End name ∷ read Data 0 rest
unfolding is_text_only text_only_elements
text_end name rest h =
    or_cases (same (codes "title") name) (same (codes "textarea") name) h _
    (λ e. subst (λ (n : List ℕ). read (Raw Rcdata n) 0 (spell_token (End n) ++ rest) ≡ End n ∷ read Data 0 rest) (same-true (codes "title") name e) (title_end rest))
    (λ e. subst (λ (n : List ℕ). read (Raw Rcdata n) 0 (spell_token (End n) ++ rest) ≡ End n ∷ read Data 0 rest) (same-true (codes "textarea") name e) (textarea_end rest))

any_end : (name rest : List ℕ) → is_element name ≡ true → read (cond (is_text_only name) (Raw Rcdata name) Data) 0 (spell_token (End name) ++ rest) ≡ End name ∷ read Data 0 rest
any_end name rest h =
    elim (is_text_only name) as (λ b. is_text_only name ≡ b → read (cond b (Raw Rcdata name) Data) 0 (spell_token (End name) ++ rest) ≡ End name ∷ read Data 0 rest) [
      | true ↦ λ e. text_end name rest e
      | false ↦ λ e. end_reads name rest (element_name name h)
    ] refl

any_char : (inside : List (List ℕ)) (c : ℕ) (rest : List ℕ) → eqb c 0 ≡ false → read (state_in inside) 0 (spell_char c ++ rest) ≡ Char c ∷ read (state_in inside) 0 rest
any_char [] c rest h = data_char c rest h
any_char (name ∷ names) c rest h =
    elim (is_text_only name) as (λ b. read (cond b (Raw Rcdata name) Data) 0 (spell_char c ++ rest) ≡ Char c ∷ read (cond b (Raw Rcdata name) Data) 0 rest) [
      | true ↦ text_char name c rest h
      | false ↦ data_char c rest h
    ]

-- what was written is read
pub reads_as : (inside : List (List ℕ)) (ts : List Token) (after : List (List ℕ)) → IsStack inside → MayAppendAll inside ts after → read (state_in inside) 0 (spell ts) ≡ ts
unfolding spell MayAppendAll
reads_as inside [] after stack h = nothing_at_end inside
reads_as inside (Start name attributes ∷ ts) after stack h =
    let may = h.0.0 in
    let o = opens inside name may.0 may.1 stack in
    ap (λ (s : State). read s 0 (spell (Start name attributes ∷ ts))) (in_data inside may.1)
    ∙ start_reads name attributes (spell ts) (element_name name may.0) (attributes_of [] attributes may.2 may.3 h.0.1)
    ∙ ap (λ (s : State). Start name attributes ∷ read s 0 (spell ts)) o.0
    ∙ ap (λ (l : List Token). Start name attributes ∷ l) (reads_as (cond (is_void name) inside (name ∷ inside)) ts after o.1 h.1)
reads_as [] (End name ∷ ts) after stack h = absurd cc
reads_as (inner ∷ names) (End name ∷ ts) after stack h =
    let e : inner ≡ name = same-true inner name h.0.1 in
    ap (λ (n : List ℕ). read (cond (is_text_only n) (Raw Rcdata n) Data) 0 (spell (End name ∷ ts))) e
    ∙ any_end name (spell ts) h.0.0
    ∙ ap (λ (s : State). End name ∷ read s 0 (spell ts)) (sym (in_data names stack.0))
    ∙ ap (λ (l : List Token). End name ∷ l) (reads_as names ts after stack.1 h.1)
reads_as inside (Char c ∷ ts) after stack h =
    any_char inside c (spell ts) (not_nul c h.0) ∙ ap (λ (l : List Token). Char c ∷ l) (reads_as inside ts after stack h.1)
reads_as inside (Comment text ∷ ts) after stack h = absurd h.0
reads_as inside (Doctype ∷ ts) after stack h =
    ap (λ (s : State). read s 0 (spell (Doctype ∷ ts))) (in_data inside h.0)
    ∙ doctype_reads (spell ts)
    ∙ ap (λ (s : State). Doctype ∷ read s 0 (spell ts)) (sym (in_data inside h.0))
    ∙ ap (λ (l : List Token). Doctype ∷ l) (reads_as inside ts after stack h.1)

-- ---- the characters of a page: scalar values, and no CR

abbrev page_char : ℕ → Bool
page_char c = scalar c && not (c == 13)

abbrev page_chars : List ℕ → Bool
page_chars cs = list_all page_char cs

all_append : (xs ys : List ℕ) → page_chars xs ≡ true → page_chars ys ≡ true → page_chars (xs ++ ys) ≡ true
all_append [] ys g h = h
all_append (x ∷ xs) ys g h =
    let both = and_true (page_char x) (page_chars xs) g in
    rw (both.0, all_append xs ys both.1 h) refl

name_page_char : (c : ℕ) → is_name_char c ≡ true → page_char c ≡ true
name_page_char c h = grind (arith, nat_tests)

name_page_chars : (cs : List ℕ) → name_chars cs ≡ true → page_chars cs ≡ true
name_page_chars [] h = refl
name_page_chars (c ∷ cs) h =
    let both = and_true (is_name_char c) (name_chars cs) h in
    rw (name_page_char c both.0, name_page_chars cs both.1) refl

name_page : (name : List ℕ) → is_name name ≡ true → page_chars name ≡ true
name_page [] h = refl
name_page (c ∷ cs) h =
    let both = and_true (is_between 97 122 c) (name_chars cs) h in
    let first : page_char c ≡ true = name_page_char c (grind (arith, nat_tests)) in
    rw (first, name_page_chars cs both.1) refl

char_page : (c : ℕ) → IsWritable c → page_chars (spell_char c) ≡ true
char_page c h =
    elim (spelled c) [
      | is_lt e ↦ rw e refl
      | is_gt e ↦ rw e refl
      | is_amp e ↦ rw e refl
      | is_quot e ↦ rw e refl
      | is_cr e ↦ rw e refl
      | itself lt gt amp quot cr ↦ rw (lt, gt, amp, quot, cr, not_nul c h, h.1, cr) refl
    ]

chars_page : (cs : List ℕ) → AllByRecursion IsWritable cs → page_chars (spell_chars cs) ≡ true
chars_page [] h = refl
chars_page (c ∷ cs) h = all_append (spell_char c) (spell_chars cs) (char_page c h.0) (chars_page cs h.1)

attributes_page : (earlier more : List Attribute) → AreAttributes earlier more → page_chars (spell_attributes more) ≡ true
attributes_page earlier [] h = refl
attributes_page earlier (a ∷ more) h =
    all_append (spell_attribute a) (spell_attributes more)
    (all_append (a.name ++ codes "=\"" ++ spell_chars a.value) (34 ∷ []) (all_append (a.name ++ codes "=\"") (spell_chars a.value) (all_append a.name (codes "=\"") (name_page a.name (attribute_name a.name h.0)) refl) (chars_page a.value h.2)) refl)
    (attributes_page (earlier ++ a ∷ []) more h.3)

token_page : (inside : List (List ℕ)) (t : Token) → MayAppend inside t → page_chars (spell_token t) ≡ true
token_page inside (Start name attributes) h =
    all_append (name ++ spell_attributes attributes) (62 ∷ []) (all_append name (spell_attributes attributes) (name_page name (element_name name h.0.0)) (attributes_page [] attributes (attributes_of [] attributes h.0.2 h.0.3 h.1))) refl
token_page inside (End name) h = all_append name (62 ∷ []) (name_page name (element_name name h.0)) refl
token_page inside (Char c) h = char_page c h
token_page inside (Comment text) h = refl
token_page inside Doctype h = refl

pub spell_page : (inside : List (List ℕ)) (ts : List Token) (after : List (List ℕ)) → MayAppendAll inside ts after → page_chars (spell ts) ≡ true
unfolding spell MayAppendAll
spell_page inside [] after h = refl
spell_page inside (t ∷ ts) after h = all_append (spell_token t) (spell ts) (token_page inside t h.0) (spell_page (open_elements_after_token inside t) ts after h.1)

no_newline : (cs : List ℕ) → page_chars cs ≡ true → normalize_newlines false cs ≡ cs
unfolding normalize_newlines
no_newline [] h = refl
no_newline (c ∷ cs) h =
    let both = and_true (page_char c) (page_chars cs) h in
    let one = and_true (scalar c) (not (eqb c 13)) both.0 in
    rw (no_of (eqb c 13) one.1, no_newline cs both.1) refl

all_scalars : (cs : List ℕ) → page_chars cs ≡ true → scalars cs ≡ true
all_scalars [] h = refl
all_scalars (c ∷ cs) h =
    let both = and_true (page_char c) (page_chars cs) h in
    let one = and_true (scalar c) (not (eqb c 13)) both.0 in
    rw (one.0, all_scalars cs both.1) refl

-- ---- the law

pub law : (ts : List Token) (after : List (List ℕ)) → MayAppendAll [] ts after → tokens (spell ts) ≡ ts
unfolding tokens
law ts after h = ap (λ (text : List ℕ). read Data 0 text) (no_newline (spell ts) (spell_page [] ts after h)) ∙ reads_as [] ts after tt h

pub law_of_bytes : (ts : List Token) (after : List (List ℕ)) → MayAppendAll [] ts after → tokens_of_bytes (encode_utf8_all (spell ts)) ≡ ts
unfolding tokens_of_bytes
law_of_bytes ts after h =
    let fine = all_scalars (spell ts) (spell_page [] ts after h) in
    rw (utf8_lossy-IsUtf8 (encodes (spell ts)) (spell ts, (fine, refl)), chars-encodes (spell ts) fine) (law ts after h)
