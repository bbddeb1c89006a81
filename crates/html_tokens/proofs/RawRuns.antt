-- Runs of characters in the content of an element.
use Rattle.std.proofs.Common.{◌≡◌, ℕ, suc, ◌≤◌, Bool, true, false, not, ◌==◌, List, [], ◌∷◌, ◌++◌, length, map, drop, refl, sym, ap, subst, ◌∙◌, append-nil, arith, inl, inr, IsUtf8, codes}
use Rattle.std.proofs.lemmas.Bool.{cases_Bool, eqb-true, not-true}
use Rattle.std.proofs.lemmas.Bool.Decides.{nat_tests}
use Rattle.std.proofs.lemmas.List.{map-append, drop_all}
use Rattle.std.specs.List.{list_all}
use Rattle.html_syntax.specs.Token.{Token}
use Rattle.html_syntax.specs.Token.Token.{Char}
use Rattle.html_syntax.specs.References.{reference}
use Rattle.html_syntax.specs.States.{RawTextKind, State, is_script, replace_null}
use Rattle.html_syntax.specs.States.RawTextKind.{Rcdata, Rawtext, Script, Escaped}
use Rattle.html_syntax.specs.States.State.{Data, Raw, RawLess, Plaintext}
use Rattle.html_syntax.specs.States.Action.{ReconsumeIn}
use Rattle.html_syntax.specs.Tokenizer.{look, look_again, step, read, tokens_at_end, chars}
use Rattle.html_references.specs.Input.{input, decode_references, read_as}
use Rattle.html_tokens.specs.Scanned.{element_name, raw_text_kind}
use Rattle.html_tokens.specs.Contents.{content_read_as, begins_with_name, begins_end_tag}
use Rattle.html_tokens.specs.Cuts.{LacksByte, BeginsWithByte}
use Rattle.html_tokens.specs.declared.mode.Content.{Content}
use Rattle.html_tokens.specs.declared.mode.Content.TheVariants as content
use Rattle.html_tokens.proofs.Runs.{emits, emits-more, reconsumed, run}
use Rattle.html_tokens.proofs.Marks.{Marks, begins_marked}
use Rattle.html_tokens.proofs.Decoding.{Decodes, decoded_run, decoded-append}
use Rattle.html_tokens.proofs.TextRuns.{is_plain, all_plain, less_stops}
use Rattle.html_references.proofs.Stretches.{PassesWide, First, input-first, input-nil, input-append, utf8_tail}
use Rattle.html_tokens.proofs.EndTags.{IsWord, closed, raw_solidus, input-less}

abbrev pub is_escaped : RawTextKind → Bool
is_escaped Rcdata = false
is_escaped Rawtext = false
is_escaped Script = false
is_escaped Escaped = true

pub raw_nil : (k : RawTextKind) (last : List ℕ) → read (Raw k last) 0 [] ≡ read Data 0 []
unfolding read tokens_at_end
raw_nil k last = refl

less_nil : (k : RawTextKind) (last : List ℕ) → read (Raw k last) 0 (60 ∷ []) ≡ Char 60 ∷ read (Raw k last) 0 []
unfolding read step look_again look tokens_at_end
less_nil Rcdata last = refl
less_nil Rawtext last = refl
less_nil Script last = refl
less_nil Escaped last = refl

pub raw_less : (k : RawTextKind) (last text : List ℕ) → is_escaped k ≡ false → read (Raw k last) 0 (60 ∷ text) ≡ read (RawLess k last) 0 text
unfolding read step look_again look
raw_less Rcdata last text h = refl
raw_less Rawtext last text h = refl
raw_less Script last text h = refl
raw_less Escaped last text h = absurd cc

look_less : (k : RawTextKind) (last : List ℕ) (c : ℕ) (text : List ℕ) → is_script k ≡ false → (c == 47) ≡ false → look (RawLess k last) c text ≡ ReconsumeIn (Raw k last) (Char 60 ∷ [])
unfolding look
look_less k last c text h a = rw (h, a) refl

pub is_unslashed : ℕ → Bool
is_unslashed c = not (c == 47)

wide_unslashed : PassesWide is_unslashed
unfolding is_unslashed
wide_unslashed c big = grind (arith, nat_tests)

no_return_unslashed : is_unslashed 13 ≡ true → is_unslashed 10 ≡ true
unfolding is_unslashed
no_return_unslashed h = refl

first_unslashed : (b : ℕ) (bytes : List ℕ) → IsUtf8 (b ∷ bytes) → (b == 47) ≡ false → First (b ∷ bytes) is_unslashed
unfolding is_unslashed
first_unslashed b bytes utf8 h = input-first is_unslashed wide_unslashed no_return_unslashed b bytes utf8 (rw h refl)

no_solidus : (c : ℕ) → is_unslashed c ≡ true → (c == 47) ≡ false
unfolding is_unslashed
no_solidus c h = not-true (c == 47) h

less_other : (k : RawTextKind) (last : List ℕ) (b : ℕ) (bytes : List ℕ) → is_script k ≡ false → is_escaped k ≡ false → IsUtf8 (b ∷ bytes) → (b == 47) ≡ false
    → read (Raw k last) 0 (60 ∷ input (b ∷ bytes)) ≡ Char 60 ∷ read (Raw k last) 0 (input (b ∷ bytes))
less_other k last b bytes plain unescaped utf8 h =
    let f = first_unslashed b bytes utf8 h in
    rw f.is (raw_less k last (f.char ∷ f.rest) unescaped ∙ reconsumed (RawLess k last) (Raw k last) (Char 60 ∷ []) f.char f.rest (look_less k last f.char f.rest plain (no_solidus f.char f.passes)))

less_solidus : (k : RawTextKind) (last : List ℕ) (b : ℕ) (bytes : List ℕ) → b ≡ 47 → IsUtf8 (b ∷ bytes) → begins_with_name (60 ∷ 47 ∷ last) (60 ∷ b ∷ bytes) ≡ false
    → read (Raw k last) 0 (input (60 ∷ b ∷ bytes)) ≡ Char 60 ∷ read (Raw k last) 0 (input (b ∷ bytes))
less_solidus k last b bytes e utf8 h =
    rw e (raw_solidus k last bytes (utf8_tail b bytes (omega (arith, e)) utf8) (subst (λ (x : ℕ). begins_with_name (60 ∷ 47 ∷ last) (60 ∷ x ∷ bytes) ≡ false) e h))

-- a `<` that begins no end tag of the element
less_text : (k : RawTextKind) (last tail : List ℕ) → is_script k ≡ false → is_escaped k ≡ false → IsUtf8 tail → begins_with_name (60 ∷ 47 ∷ last) (60 ∷ tail) ≡ false
    → read (Raw k last) 0 (input (60 ∷ tail)) ≡ Char 60 ∷ read (Raw k last) 0 (input tail)
less_text k last [] plain unescaped utf8 h = rw (input-less [], input-nil) (less_nil k last)
less_text k last (b ∷ bytes) plain unescaped utf8 h = elim (cases_Bool (b == 47)) [
  | inl is ↦ less_solidus k last b bytes (eqb-true b 47 is) utf8 h
  | inr other ↦ ap (read (Raw k last) 0) (input-less (b ∷ bytes)) ∙ less_other k last b bytes plain unescaped utf8 other
]

-- ---- RCDATA

rcdata_keeps : (last kept : List ℕ) (c : ℕ) (text : List ℕ) → is_plain c ≡ true → (c == 0x26) ≡ false → emits (Raw Rcdata last) kept 0 (c ∷ text) ≡ emits (Raw Rcdata last) (kept ++ replace_null c ∷ []) 0 text
unfolding read step look_again look
rcdata_keeps last kept c text h other =
    let less : (c == 60) ≡ false = not-true (c == 60) h in
    rw (other, less) (emits-more (Raw Rcdata last) kept (replace_null c ∷ []) 0 text)

rcdata_refers : (last kept text : List ℕ) (c : ℕ) → (c == 0x26) ≡ true → emits (Raw Rcdata last) kept 0 (c ∷ text) ≡ emits (Raw Rcdata last) (kept ++ (reference false text).chars) (reference false text).len text
unfolding read step look_again look
rcdata_refers last kept text c is = rw is (emits-more (Raw Rcdata last) kept (reference false text).chars (reference false text).len text)

rcdata_passes : (last kept : List ℕ) (n c : ℕ) (text : List ℕ) → emits (Raw Rcdata last) kept (suc n) (c ∷ text) ≡ emits (Raw Rcdata last) kept n text
unfolding read
rcdata_passes last kept n c text = refl

rcdata_decodes : (last : List ℕ) → Decodes (emits (Raw Rcdata last)) false is_plain replace_null
rcdata_decodes last = record { keeps = rcdata_keeps last; refers = rcdata_refers last; passes = rcdata_passes last }

abbrev rcdata_of : List ℕ → List ℕ
rcdata_of text = decode_references false replace_null 0 text

rcdata_piece : (last kept xs ys : List ℕ) → IsUtf8 xs → LacksByte 60 xs → BeginsWithByte 60 ys → emits (Raw Rcdata last) kept 0 (input (xs ++ ys)) ≡ emits (Raw Rcdata last) (kept ++ rcdata_of (input xs)) 0 (input ys)
rcdata_piece last kept xs ys utf8 lacks begins =
    ap (emits (Raw Rcdata last) kept 0) (input-append xs ys utf8 (begins_marked 60 (omega arith) (λ (e : 60 ≡ 10). omega arith) ys begins))
    ∙ decoded_run (emits (Raw Rcdata last)) false is_plain replace_null (rcdata_decodes last) kept (input xs) (input ys) (all_plain xs utf8 lacks) (less_stops ys begins)

-- a `<` that begins no end tag of this name
abbrev pub Unclosing : List ℕ → List ℕ → Type 0
Unclosing last text = begins_with_name (60 ∷ 47 ∷ last) text ≡ false

raw_here : (k : RawTextKind) (last kept tail : List ℕ) → is_script k ≡ false → is_escaped k ≡ false → IsUtf8 tail → Unclosing last (60 ∷ tail) → emits (Raw k last) kept 0 (input (60 ∷ tail)) ≡ emits (Raw k last) (kept ++ 60 ∷ []) 0 (input tail)
raw_here k last kept tail plain unescaped utf8 h =
    ap (λ (l : List Token). chars kept ++ l) (less_text k last tail plain unescaped utf8 h) ∙ emits-more (Raw k last) kept (60 ∷ []) 0 (input tail)

rcdata_less : (text : List ℕ) → rcdata_of (60 ∷ text) ≡ 60 ∷ rcdata_of text
unfolding decode_references
rcdata_less text = refl

rcdata_joins : (xs ys : List ℕ) → rcdata_of (xs ++ 60 ∷ ys) ≡ rcdata_of xs ++ 60 ∷ rcdata_of ys
rcdata_joins xs ys = decoded-append false replace_null xs (60 ∷ ys) refl ∙ ap (λ (l : List ℕ). rcdata_of xs ++ l) (rcdata_less ys)

rcdata_marks : (last : List ℕ) → Marks (emits (Raw Rcdata last)) 60 rcdata_of (Unclosing last)
rcdata_marks last = record {
  small = omega arith;
  no_feed = λ (e : 60 ≡ 10). omega arith;
  no_return = λ (e : 60 ≡ 13). omega arith;
  piece = rcdata_piece last;
  here = λ kept tail utf8 h. raw_here Rcdata last kept tail refl refl utf8 h;
  joins = rcdata_joins;
}

-- ---- RAWTEXT

rawtext_keeps : (last kept : List ℕ) (c : ℕ) (text : List ℕ) → is_plain c ≡ true → emits (Raw Rawtext last) kept 0 (c ∷ text) ≡ emits (Raw Rawtext last) (kept ++ replace_null c ∷ []) 0 text
unfolding read step look_again look
rawtext_keeps last kept c text h =
    let less : (c == 60) ≡ false = not-true (c == 60) h in
    rw less (emits-more (Raw Rawtext last) kept (replace_null c ∷ []) 0 text)

rawtext_piece : (last kept xs ys : List ℕ) → IsUtf8 xs → LacksByte 60 xs → BeginsWithByte 60 ys → emits (Raw Rawtext last) kept 0 (input (xs ++ ys)) ≡ emits (Raw Rawtext last) (kept ++ map replace_null (input xs)) 0 (input ys)
rawtext_piece last kept xs ys utf8 lacks begins =
    ap (emits (Raw Rawtext last) kept 0) (input-append xs ys utf8 (begins_marked 60 (omega arith) (λ (e : 60 ≡ 10). omega arith) ys begins))
    ∙ run (emits (Raw Rawtext last)) is_plain replace_null (rawtext_keeps last) kept (input xs) (input ys) (all_plain xs utf8 lacks)

pub shown_joins : (xs ys : List ℕ) → map replace_null (xs ++ 60 ∷ ys) ≡ map replace_null xs ++ 60 ∷ map replace_null ys
shown_joins xs ys = map-append replace_null xs (60 ∷ ys)

rawtext_marks : (last : List ℕ) → Marks (emits (Raw Rawtext last)) 60 (map replace_null) (Unclosing last)
rawtext_marks last = record {
  small = omega arith;
  no_feed = λ (e : 60 ≡ 10). omega arith;
  no_return = λ (e : 60 ≡ 13). omega arith;
  piece = rawtext_piece last;
  here = λ kept tail utf8 h. raw_here Rawtext last kept tail refl refl utf8 h;
  joins = shown_joins;
}

-- ---- the elements

abbrev pub inside : Content → State
inside c = Raw (raw_text_kind c) (element_name c)

-- a `<` that begins no end tag of the element
abbrev pub GoesOn : Content → List ℕ → Type 0
GoesOn c text = begins_end_tag c text ≡ false

pub content_marks : (c : Content) → is_script (raw_text_kind c) ≡ false → Marks (emits (inside c)) 60 (read_as (content_read_as c)) (GoesOn c)
content_marks content.Title h = rcdata_marks (codes "title")
content_marks content.Textarea h = rcdata_marks (codes "textarea")
content_marks content.Style h = rawtext_marks (codes "style")
content_marks content.Xmp h = rawtext_marks (codes "xmp")
content_marks content.Iframe h = rawtext_marks (codes "iframe")
content_marks content.Noembed h = rawtext_marks (codes "noembed")
content_marks content.Noframes h = rawtext_marks (codes "noframes")
content_marks content.Script h = absurd cc

pub word_of : (c : Content) → IsWord (element_name c)
word_of content.Title = refl
word_of content.Textarea = refl
word_of content.Style = refl
word_of content.Xmp = refl
word_of content.Iframe = refl
word_of content.Noembed = refl
word_of content.Noframes = refl
word_of content.Script = refl

-- the content ends at its end tag
pub content_closed : (c : Content) (bytes : List ℕ) → begins_end_tag c bytes ≡ true → read (inside c) 0 (input bytes) ≡ read Data 0 (input bytes)
content_closed c bytes h = closed (raw_text_kind c) (element_name c) bytes (word_of c) h

-- and at the end of the text
pub content_over : (c : Content) (rest : List ℕ) (at : ℕ) → length rest ≤ at → read (inside c) 0 (input (drop at rest)) ≡ read Data 0 (input (drop at rest))
content_over c rest at over = rw (drop_all at rest over, input-nil) (raw_nil (raw_text_kind c) (element_name c))

-- ---- plaintext

plaintext_keeps : (kept : List ℕ) (c : ℕ) (text : List ℕ) → true ≡ true → emits Plaintext kept 0 (c ∷ text) ≡ emits Plaintext (kept ++ replace_null c ∷ []) 0 text
unfolding read step look_again look
plaintext_keeps kept c text h = emits-more Plaintext kept (replace_null c ∷ []) 0 text

plaintext_nil : read Plaintext 0 [] ≡ []
unfolding read tokens_at_end
plaintext_nil = refl

all_true : (text : List ℕ) → list_all (λ c. true) text ≡ true
all_true [] = refl
all_true (c ∷ text) = all_true text

plaintext_run : (text : List ℕ) → read Plaintext 0 text ≡ chars (map replace_null text)
plaintext_run text =
    ap (read Plaintext 0) (sym (append-nil text))
    ∙ run (emits Plaintext) (λ c. true) replace_null plaintext_keeps [] text [] (all_true text)
    ∙ ap (λ (l : List Token). chars (map replace_null text) ++ l) plaintext_nil
    ∙ append-nil (chars (map replace_null text))

pub plaintext_read : (bytes : List ℕ) → read Plaintext 0 (input bytes) ≡ chars (map replace_null (input bytes))
plaintext_read bytes = plaintext_run (input bytes)
