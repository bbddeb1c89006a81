-- End tags in the content of an element, and texts that only seem to be one.
use Rattle.std.proofs.Common.{◌≡◌, ◌≢◌, nat_lt, ℕ, suc, ◌<◌, Bool, true, false, not, ◌&&◌, ◌||◌, ◌==◌, List, [], ◌∷◌, ◌++◌, length, map, drop, refl, sym, ap, subst, ◌∙◌, append_assoc, append-nil, arith, inl, inr, IsUtf8}
use Rattle.std.proofs.lemmas.Bool.{cases_Bool, and_parts, eqb-true, both_ways, not-true, and_from}
use Rattle.std.proofs.lemmas.Bool.Decides.{nat_tests}
use Rattle.std.proofs.lemmas.List.{map-append}
use Rattle.std.proofs.lemmas.Slice.Eq.{bytes_eq-Decides}
use Rattle.std.specs.List.{list_all}
use Rattle.html_syntax.specs.Token.{Token}
use Rattle.html_syntax.specs.Token.Token.{Char}
use Rattle.html_syntax.specs.Characters.{is_letter, is_space, lower}
use Rattle.html_syntax.specs.References.{begins_with}
use Rattle.html_syntax.specs.States.{Tag, RawTextKind, same, replace_null, new_tag, with_name_char}
use Rattle.html_syntax.specs.States.RawTextKind.{Rcdata, Rawtext, Script, Escaped}
use Rattle.html_syntax.specs.States.State.{Data, EndTagOpen, Raw, RawEndOpen, RawEndName, TagName}
use Rattle.html_syntax.specs.States.Action.{ReconsumeIn}
use Rattle.html_syntax.specs.Tokenizer.{look, look_again, step, read, tokens_at_end, chars, normalize_newlines}
use Rattle.std.specs.Str.{chars as text_chars}
use Rattle.html_references.specs.Input.{input}
use Rattle.html_tokens.specs.Contents.{ends_name, begins_with_name}
use Rattle.html_tokens.proofs.Runs.{emits-more, reconsumed}
use Rattle.html_references.proofs.Stretches.{PassesWide, First, input-first, input-cons, input-nil, utf8_tail}

-- ---- letters

pub letter_small : (b : ℕ) → is_letter b ≡ true → b < 128
letter_small b h = grind (arith, nat_tests)

pub letter_no_return : (b : ℕ) → is_letter b ≡ true → b ≢ 13
letter_no_return b h = λ (e : b ≡ 13). grind (arith, nat_tests)

pub letter_shown : (b : ℕ) → is_letter b ≡ true → replace_null b ≡ b
letter_shown b h =
    let other : (b == 0) ≡ false = grind (arith, nat_tests) in
    rw other refl

pub input-letter : (b : ℕ) (bytes : List ℕ) → is_letter b ≡ true → input (b ∷ bytes) ≡ b ∷ input bytes
input-letter b bytes h = input-cons b bytes (letter_small b h) (letter_no_return b h)

-- ---- a character that is read as itself in each kind of content

pub raw_keeps : (k : RawTextKind) (last : List ℕ) (c : ℕ) (text : List ℕ) → (c == 38) ≡ false → (c == 60) ≡ false → (c == 45) ≡ false → read (Raw k last) 0 (c ∷ text) ≡ Char (replace_null c) ∷ read (Raw k last) 0 text
unfolding read step look_again look
raw_keeps Rcdata last c text a b d = rw (a, b) refl
raw_keeps Rawtext last c text a b d = rw b refl
raw_keeps Script last c text a b d = rw b refl
raw_keeps Escaped last c text a b d = rw (b, d) refl

letter_kept : (k : RawTextKind) (last : List ℕ) (c : ℕ) (text : List ℕ) → is_letter c ≡ true → read (Raw k last) 0 (c ∷ text) ≡ Char c ∷ read (Raw k last) 0 text
letter_kept k last c text h =
    let a : (c == 38) ≡ false = grind (arith, nat_tests) in
    let b : (c == 60) ≡ false = grind (arith, nat_tests) in
    let d : (c == 45) ≡ false = grind (arith, nat_tests) in
    raw_keeps k last c text a b d ∙ ap (λ (x : ℕ). Char x ∷ read (Raw k last) 0 text) (letter_shown c h)

pub solidus_kept : (k : RawTextKind) (last text : List ℕ) → read (Raw k last) 0 (47 ∷ text) ≡ Char 47 ∷ read (Raw k last) 0 text
solidus_kept k last text = raw_keeps k last 47 text refl refl refl

-- ---- the name of an end tag, a character at a time

name_nil : (k : RawTextKind) (last letters : List ℕ) → read (RawEndName k last letters) 0 [] ≡ chars (60 ∷ 47 ∷ letters) ++ read (Raw k last) 0 []
unfolding read tokens_at_end
name_nil k last letters = sym (append-nil (chars (60 ∷ 47 ∷ letters)))

name_letter : (k : RawTextKind) (last letters : List ℕ) (c : ℕ) (text : List ℕ) → is_letter c ≡ true → read (RawEndName k last letters) 0 (c ∷ text) ≡ read (RawEndName k last (letters ++ c ∷ [])) 0 text
unfolding read step look_again look
name_letter k last letters c text h = rw h refl

look_other : (k : RawTextKind) (last letters : List ℕ) (c : ℕ) (text : List ℕ) → is_letter c ≡ false → same last (map lower letters) ≡ false → look (RawEndName k last letters) c text ≡ ReconsumeIn (Raw k last) (chars (60 ∷ 47 ∷ letters))
unfolding look
look_other k last letters c text h g = rw (h, g) refl

look_unended : (k : RawTextKind) (last letters : List ℕ) (c : ℕ) (text : List ℕ) → is_letter c ≡ false → is_space c ≡ false → (c == 47) ≡ false → (c == 62) ≡ false → same last (map lower letters) ≡ true → look (RawEndName k last letters) c text ≡ ReconsumeIn (Raw k last) (chars (60 ∷ 47 ∷ letters))
unfolding look
look_unended k last letters c text h s a b g = rw (h, g, s, a, b) refl

pub is_unnamed : ℕ → Bool
is_unnamed c = not (is_letter c)

pub is_unended : ℕ → Bool
is_unended c = not (is_letter c || is_space c || c == 13 || c == 47 || c == 62)

-- ---- a name that is another

-- Whatever is left of the last start tag's name after these letters, the text does not begin with it.
pub Fails : List ℕ → List ℕ → List ℕ → Type 0
Fails last letters bytes = (w : List ℕ) → last ≡ map lower letters ++ w → begins_with_name w bytes ≡ false

pub fails_on : (last letters : List ℕ) (b : ℕ) (bytes : List ℕ) → Fails last letters (b ∷ bytes) → Fails last (letters ++ b ∷ []) bytes
unfolding Fails
fails_on last letters b bytes h w e =
    let split : last ≡ map lower letters ++ lower b ∷ w = e ∙ ap (λ (l : List ℕ). l ++ w) (map-append lower letters (b ∷ [])) ∙ append_assoc (map lower letters) (lower b ∷ []) w in
    let no = h (lower b ∷ w) split in
    let itself : (lower b == lower b) ≡ true = grind (arith, nat_tests) in
    (rw itself at no)

-- a character that is no letter, if the name is another
pub record Unended (c : ℕ) : Type 0 where
  pub unnamed : is_letter c ≡ false
  pub unspaced : is_space c ≡ false
  pub unslashed : (c == 47) ≡ false
  pub unclosed : (c == 62) ≡ false

pub unended : (c : ℕ) → is_unended c ≡ true → Unended c
unfolding is_unended
unended c h = record {
  unnamed = grind (arith, nat_tests);
  unspaced = grind (arith, nat_tests);
  unslashed = grind (arith, nat_tests);
  unclosed = grind (arith, nat_tests);
}

pub is_unended_from : (b : ℕ) (bytes : List ℕ) → is_letter b ≡ false → ends_name (b ∷ bytes) ≡ false → is_unended b ≡ true
unfolding is_unended
is_unended_from b bytes h g = grind (arith, nat_tests)

wide_unended : PassesWide is_unended
unfolding is_unended
wide_unended c big = grind (arith, nat_tests)

no_return_unended : is_unended 13 ≡ true → is_unended 10 ≡ true
unfolding is_unended
no_return_unended h = absurd cc

pub first_unended : (b : ℕ) (bytes : List ℕ) → IsUtf8 (b ∷ bytes) → is_unended b ≡ true → First (b ∷ bytes) is_unended
first_unended b bytes utf8 h = input-first is_unended wide_unended no_return_unended b bytes utf8 h

wide_unnamed : PassesWide is_unnamed
unfolding is_unnamed
wide_unnamed c big = grind (arith, nat_tests)

no_return_unnamed : is_unnamed 13 ≡ true → is_unnamed 10 ≡ true
unfolding is_unnamed
no_return_unnamed h = refl

pub first_unnamed : (b : ℕ) (bytes : List ℕ) → IsUtf8 (b ∷ bytes) → is_letter b ≡ false → First (b ∷ bytes) is_unnamed
unfolding is_unnamed
first_unnamed b bytes utf8 h = input-first is_unnamed wide_unnamed no_return_unnamed b bytes utf8 (rw h refl)

pub no_letter : (c : ℕ) → is_unnamed c ≡ true → is_letter c ≡ false
unfolding is_unnamed
no_letter c h = not-true (is_letter c) h

-- The tokens of a text that goes on with the name of an end tag, and is text itself.
abbrev IsText : RawTextKind → List ℕ → List ℕ → List ℕ → Type 0
IsText k last letters bytes = read (RawEndName k last letters) 0 (input bytes) ≡ chars (60 ∷ 47 ∷ letters) ++ read (Raw k last) 0 (input bytes)

other_name : (k : RawTextKind) (last letters : List ℕ) (b : ℕ) (bytes : List ℕ) → IsUtf8 (b ∷ bytes) → is_letter b ≡ false → same last (map lower letters) ≡ false → IsText k last letters (b ∷ bytes)
other_name k last letters b bytes utf8 h part =
    let f = first_unnamed b bytes utf8 h in
    rw f.is (reconsumed (RawEndName k last letters) (Raw k last) (chars (60 ∷ 47 ∷ letters)) f.char f.rest (look_other k last letters f.char f.rest (no_letter f.char f.passes) part))

goes_on : (k : RawTextKind) (last letters : List ℕ) (b : ℕ) (bytes : List ℕ) → IsUtf8 (b ∷ bytes) → is_unended b ≡ true → same last (map lower letters) ≡ true → IsText k last letters (b ∷ bytes)
goes_on k last letters b bytes utf8 h whole =
    let f = first_unended b bytes utf8 h in
    let u = unended f.char f.passes in
    rw f.is (reconsumed (RawEndName k last letters) (Raw k last) (chars (60 ∷ 47 ∷ letters)) f.char f.rest (look_unended k last letters f.char f.rest u.unnamed u.unspaced u.unslashed u.unclosed whole))

whole_name : (last letters : List ℕ) → same last (map lower letters) ≡ true → last ≡ map lower letters ++ []
whole_name last letters h = sym ((bytes_eq-Decides (map lower letters) last).0 h) ∙ sym (append-nil (map lower letters))

letter_on : (k : RawTextKind) (last letters : List ℕ) (b : ℕ) (bytes : List ℕ) → is_letter b ≡ true → IsText k last (letters ++ b ∷ []) bytes → IsText k last letters (b ∷ bytes)
letter_on k last letters b bytes is h =
    rw (input-letter b bytes is) (
    name_letter k last letters b (input bytes) is
    ∙ h
    ∙ sym (emits-more (Raw k last) (60 ∷ 47 ∷ letters) (b ∷ []) 0 (input bytes))
    ∙ ap (λ (l : List Token). chars (60 ∷ 47 ∷ letters) ++ l) (sym (letter_kept k last b (input bytes) is)))

pub fails_here : (last letters : List ℕ) (b : ℕ) (bytes : List ℕ) → Fails last letters (b ∷ bytes) → same last (map lower letters) ≡ true → ends_name (b ∷ bytes) ≡ false
unfolding Fails
fails_here last letters b bytes h whole = h [] (whole_name last letters whole)

end_fails : (k : RawTextKind) (last letters bytes : List ℕ) → IsUtf8 bytes → Fails last letters bytes → IsText k last letters bytes
end_fails k last letters [] utf8 h = rw input-nil (name_nil k last letters)
end_fails k last letters (b ∷ bytes) utf8 h = elim (cases_Bool (is_letter b)) [
  | inl is ↦ letter_on k last letters b bytes is (end_fails k last (letters ++ b ∷ []) bytes (utf8_tail b bytes (letter_small b is) utf8) (fails_on last letters b bytes h))
  | inr unnamed ↦ elim (cases_Bool (same last (map lower letters))) [
    | inl whole ↦ goes_on k last letters b bytes utf8 (is_unended_from b bytes unnamed (fails_here last letters b bytes h whole)) whole
    | inr part ↦ other_name k last letters b bytes utf8 unnamed part
  ]
]

-- ---- a `</` that ends nothing

pub fails_at : (last bytes : List ℕ) → begins_with_name (60 ∷ 47 ∷ last) (60 ∷ 47 ∷ bytes) ≡ false → Fails last [] bytes
unfolding Fails
fails_at last bytes h w e = subst (λ (l : List ℕ). begins_with_name l bytes ≡ false) e h

open_nil : (k : RawTextKind) (last : List ℕ) → read (RawEndOpen k last) 0 [] ≡ chars (60 ∷ 47 ∷ []) ++ read (Raw k last) 0 []
unfolding read tokens_at_end
open_nil k last = refl

look_open_letter : (k : RawTextKind) (last : List ℕ) (c : ℕ) (text : List ℕ) → is_letter c ≡ true → look (RawEndOpen k last) c text ≡ ReconsumeIn (RawEndName k last []) []
unfolding look
look_open_letter k last c text h = rw h refl

look_open_other : (k : RawTextKind) (last : List ℕ) (c : ℕ) (text : List ℕ) → is_letter c ≡ false → look (RawEndOpen k last) c text ≡ ReconsumeIn (Raw k last) (chars (60 ∷ 47 ∷ []))
unfolding look
look_open_other k last c text h = rw h refl

abbrev IsOpenText : RawTextKind → List ℕ → List ℕ → Type 0
IsOpenText k last bytes = read (RawEndOpen k last) 0 (input bytes) ≡ chars (60 ∷ 47 ∷ []) ++ read (Raw k last) 0 (input bytes)

pub open_fails : (k : RawTextKind) (last bytes : List ℕ) → IsUtf8 bytes → begins_with_name (60 ∷ 47 ∷ last) (60 ∷ 47 ∷ bytes) ≡ false → IsOpenText k last bytes
open_fails k last [] utf8 h = rw input-nil (open_nil k last)
open_fails k last (b ∷ bytes) utf8 h = elim (cases_Bool (is_letter b)) [
  | inl is ↦
      ap (read (RawEndOpen k last) 0) (input-letter b bytes is)
      ∙ reconsumed (RawEndOpen k last) (RawEndName k last []) [] b (input bytes) (look_open_letter k last b (input bytes) is)
      ∙ ap (read (RawEndName k last []) 0) (sym (input-letter b bytes is))
      ∙ end_fails k last [] (b ∷ bytes) utf8 (fails_at last (b ∷ bytes) h)
  | inr other ↦
      let f = first_unnamed b bytes utf8 other in
      rw f.is (reconsumed (RawEndOpen k last) (Raw k last) (chars (60 ∷ 47 ∷ [])) f.char f.rest (look_open_other k last f.char f.rest (no_letter f.char f.passes)))
]

-- a `</` that ends nothing is text
pub solidus_fails : (k : RawTextKind) (last bytes : List ℕ) → IsUtf8 bytes → begins_with_name (60 ∷ 47 ∷ last) (60 ∷ 47 ∷ bytes) ≡ false → read (RawEndOpen k last) 0 (input bytes) ≡ Char 60 ∷ read (Raw k last) 0 (47 ∷ input bytes)
solidus_fails k last bytes utf8 h = open_fails k last bytes utf8 h ∙ ap (λ (l : List Token). Char 60 ∷ l) (sym (solidus_kept k last (input bytes)))

-- ---- an end tag

-- an end tag of these letters
abbrev pub end_named : List ℕ → Tag
end_named letters = record { is_end = true; name = map lower letters; attributes = [] }

-- The name of the end tag goes on with the same text in both states.
abbrev IsName : RawTextKind → List ℕ → List ℕ → List ℕ → Type 0
IsName k last letters bytes = read (RawEndName k last letters) 0 (input bytes) ≡ read (TagName (end_named letters)) 0 (input bytes)

name_space : (k : RawTextKind) (last letters : List ℕ) (c : ℕ) (text : List ℕ) → is_space c ≡ true → is_letter c ≡ false → same last (map lower letters) ≡ true → read (RawEndName k last letters) 0 (c ∷ text) ≡ read (TagName (end_named letters)) 0 (c ∷ text)
unfolding read step look_again look
name_space k last letters c text s h g = rw (h, g, s) refl

name_solidus : (k : RawTextKind) (last letters : List ℕ) (text : List ℕ) → same last (map lower letters) ≡ true → read (RawEndName k last letters) 0 (47 ∷ text) ≡ read (TagName (end_named letters)) 0 (47 ∷ text)
unfolding read step look_again look
name_solidus k last letters text g = rw g refl

name_greater : (k : RawTextKind) (last letters : List ℕ) (text : List ℕ) → same last (map lower letters) ≡ true → read (RawEndName k last letters) 0 (62 ∷ text) ≡ read (TagName (end_named letters)) 0 (62 ∷ text)
unfolding read step look_again look
name_greater k last letters text g = rw g refl

-- a carriage return is a line feed, and with the one that follows it
pub return_first : (bytes : List ℕ) → (rest : List ℕ) × (input (13 ∷ bytes) ≡ 10 ∷ rest)
unfolding input normalize_newlines text_chars
return_first [] = ([], refl)
return_first (b ∷ bytes) = (normalize_newlines true (text_chars (b ∷ bytes)), refl)

space_small : (b : ℕ) → is_space b ≡ true → (b < 128) × (b ≢ 13) × (is_letter b ≡ false)
space_small b h = (grind (arith, nat_tests), (λ (e : b ≡ 13). grind (arith, nat_tests)), grind (arith, nat_tests))

last_of : (b : ℕ) (bytes : List ℕ) → ends_name (b ∷ bytes) ≡ true → is_space b ≡ false → (b == 13) ≡ false → (b == 47) ≡ false → b ≡ 62
last_of b bytes h s r d = eqb-true b 62 (grind (arith, nat_tests))

name_ends : (k : RawTextKind) (last letters : List ℕ) (b : ℕ) (bytes : List ℕ) → ends_name (b ∷ bytes) ≡ true → same last (map lower letters) ≡ true → IsName k last letters (b ∷ bytes)
name_ends k last letters b bytes h g = elim (cases_Bool (is_space b)) [
  | inl space ↦
      let small = space_small b space in
      rw (input-cons b bytes small.0 small.1) (name_space k last letters b (input bytes) space small.2 g)
  | inr unspaced ↦ elim (cases_Bool (b == 13)) [
    | inl is ↦
        let e : b ≡ 13 = eqb-true b 13 is in
        let f = return_first bytes in
        rw (e, f.1) (name_space k last letters 10 f.0 refl refl g)
    | inr other ↦ elim (cases_Bool (b == 47)) [
      | inl is ↦
          let e : b ≡ 47 = eqb-true b 47 is in
          rw (e, input-cons 47 bytes (omega arith) (λ (x : 47 ≡ 13). omega arith)) (name_solidus k last letters (input bytes) g)
      | inr unslashed ↦
          let e : b ≡ 62 = last_of b bytes h unspaced other unslashed in
          rw (e, input-cons 62 bytes (omega arith) (λ (x : 62 ≡ 13). omega arith)) (name_greater k last letters (input bytes) g)
    ]
  ]
]

tag_letter : (letters : List ℕ) (c : ℕ) (text : List ℕ) → is_letter c ≡ true → read (TagName (end_named letters)) 0 (c ∷ text) ≡ read (TagName (with_name_char (end_named letters) (replace_null c))) 0 text
unfolding read step look_again look
tag_letter letters c text h =
    let s : is_space c ≡ false = grind (arith, nat_tests) in
    let a : (c == 47) ≡ false = grind (arith, nat_tests) in
    let b : (c == 62) ≡ false = grind (arith, nat_tests) in
    rw (s, a, b) refl

named_letter : (letters : List ℕ) (c : ℕ) → is_letter c ≡ true → with_name_char (end_named letters) (replace_null c) ≡ end_named (letters ++ c ∷ [])
named_letter letters c h =
    ap (λ (x : ℕ). with_name_char (end_named letters) x) (letter_shown c h)
    ∙ ap (λ (l : List ℕ). record { is_end = true; name = l; attributes = [] }) (sym (map-append lower letters (c ∷ [])))

name_on : (k : RawTextKind) (last letters : List ℕ) (b : ℕ) (bytes : List ℕ) → is_letter b ≡ true → IsName k last (letters ++ b ∷ []) bytes → IsName k last letters (b ∷ bytes)
name_on k last letters b bytes is h =
    rw (input-letter b bytes is) (
    name_letter k last letters b (input bytes) is
    ∙ h
    ∙ ap (λ (t : Tag). read (TagName t) 0 (input bytes)) (sym (named_letter letters b is))
    ∙ sym (tag_letter letters b (input bytes) is))

pub lowered_letter : (x b : ℕ) → is_letter x ≡ true → (x == lower b) ≡ true → is_letter b ≡ true
lowered_letter x b h e =
    let is : x ≡ lower b = eqb-true x (lower b) e in
    grind (arith, nat_tests)

name_read : (k : RawTextKind) (last letters w bytes : List ℕ) → list_all is_letter w ≡ true → last ≡ map lower letters ++ w → begins_with_name w bytes ≡ true → IsName k last letters bytes
name_read k last letters [] [] all e h = absurd cc
name_read k last letters [] (b ∷ bytes) all e h =
    let g : last ≡ map lower letters = e ∙ append-nil (map lower letters) in
    name_ends k last letters b bytes h ((bytes_eq-Decides (map lower letters) last).1 (sym g))
name_read k last letters (x ∷ w) [] all e h = absurd cc
name_read k last letters (x ∷ w) (b ∷ bytes) all e h =
    let both = and_parts (x == lower b && begins_with w (map lower bytes)) (ends_name (drop (length w) bytes)) h in
    let parts = and_parts (x == lower b) (begins_with w (map lower bytes)) both.0 in
    let letters_all = and_parts (is_letter x) (list_all is_letter w) all in
    let is : x ≡ lower b = eqb-true x (lower b) parts.0 in
    let split : last ≡ map lower (letters ++ b ∷ []) ++ w =
    e ∙ ap (λ (y : ℕ). map lower letters ++ y ∷ w) is ∙ sym (append_assoc (map lower letters) (lower b ∷ []) w) ∙ ap (λ (l : List ℕ). l ++ w) (sym (map-append lower letters (b ∷ []))) in
    name_on k last letters b bytes (lowered_letter x b letters_all.0 parts.0)
    (name_read k last (letters ++ b ∷ []) w bytes letters_all.1 split (and_from (begins_with w (map lower bytes)) (ends_name (drop (length w) bytes)) parts.1 both.1))

-- a name, which has a letter
abbrev pub IsWord : List ℕ → Type 0
IsWord [] = ⊥
IsWord (x ∷ w) = list_all is_letter (x ∷ w) ≡ true

end_letter : (c : ℕ) (text : List ℕ) → is_letter c ≡ true → look EndTagOpen c text ≡ ReconsumeIn (TagName (new_tag true)) []
unfolding look
end_letter c text h = rw h refl

-- after `</`
pub end_read : (k : RawTextKind) (last bytes : List ℕ) → IsWord last → begins_with_name (60 ∷ 47 ∷ last) (60 ∷ 47 ∷ bytes) ≡ true → read (RawEndOpen k last) 0 (input bytes) ≡ read EndTagOpen 0 (input bytes)
end_read k [] bytes word h = absurd word
end_read k (x ∷ w) [] word h = absurd cc
end_read k (x ∷ w) (b ∷ bytes) word h =
    let both = and_parts (x == lower b && begins_with w (map lower bytes)) (ends_name (drop (length w) bytes)) h in
    let parts = and_parts (x == lower b) (begins_with w (map lower bytes)) both.0 in
    let is = lowered_letter x b (and_parts (is_letter x) (list_all is_letter w) word).0 parts.0 in
    ap (read (RawEndOpen k (x ∷ w)) 0) (input-letter b bytes is)
    ∙ reconsumed (RawEndOpen k (x ∷ w)) (RawEndName k (x ∷ w) []) [] b (input bytes) (look_open_letter k (x ∷ w) b (input bytes) is)
    ∙ ap (read (RawEndName k (x ∷ w) []) 0) (sym (input-letter b bytes is))
    ∙ name_read k (x ∷ w) [] (x ∷ w) (b ∷ bytes) word refl h
    ∙ ap (read (TagName (new_tag true)) 0) (input-letter b bytes is)
    ∙ sym (reconsumed EndTagOpen (TagName (new_tag true)) [] b (input bytes) (end_letter b (input bytes) is))
    ∙ ap (read EndTagOpen 0) (sym (input-letter b bytes is))

-- ---- what the text begins with

pub input-less : (text : List ℕ) → input (60 ∷ text) ≡ 60 ∷ input text
input-less text = input-cons 60 text (omega arith) (λ (e : 60 ≡ 13). omega arith)

pub input-solidus : (text : List ℕ) → input (47 ∷ text) ≡ 47 ∷ input text
input-solidus text = input-cons 47 text (omega arith) (λ (e : 47 ≡ 13). omega arith)

-- a character that is no letter is read as it is written
pub unlowered : (x b : ℕ) → nat_lt x 97 ≡ true → (x == lower b) ≡ true → is_letter x ≡ false → b ≡ x
unlowered x b small e h =
    let is : x ≡ lower b = eqb-true x (lower b) e in
    eqb-true b x (grind (arith, nat_tests))

-- the two characters that open an end tag
pub opens : (last bytes : List ℕ) → begins_with_name (60 ∷ 47 ∷ last) bytes ≡ true → (rest : List ℕ) × (bytes ≡ 60 ∷ 47 ∷ rest)
opens last [] h = absurd cc
opens last (b ∷ []) h =
    let both = and_parts (60 == lower b && false) (ends_name (drop (suc (length last)) [])) h in
    absurd (both_ways false refl (and_parts (60 == lower b) false both.0).1)
opens last (b ∷ d ∷ bytes) h =
    let both = and_parts (60 == lower b && (47 == lower d && begins_with last (map lower bytes))) (ends_name (drop (length last) bytes)) h in
    let one = and_parts (60 == lower b) (47 == lower d && begins_with last (map lower bytes)) both.0 in
    let two = and_parts (47 == lower d) (begins_with last (map lower bytes)) one.1 in
    let x : b ≡ 60 = unlowered 60 b refl one.0 refl in
    let y : d ≡ 47 = unlowered 47 d refl two.0 refl in
    (bytes, ap (λ (c : ℕ). c ∷ d ∷ bytes) x ∙ ap (λ (c : ℕ). 60 ∷ c ∷ bytes) y)

data_opened : (text : List ℕ) → read Data 0 (60 ∷ 47 ∷ text) ≡ read EndTagOpen 0 text
unfolding read step look_again look
data_opened text = refl

raw_opened : (k : RawTextKind) (last text : List ℕ) → read (Raw k last) 0 (60 ∷ 47 ∷ text) ≡ read (RawEndOpen k last) 0 text
unfolding read step look_again look
raw_opened Rcdata last text = refl
raw_opened Rawtext last text = refl
raw_opened Script last text = refl
raw_opened Escaped last text = refl

-- an end tag of the last start tag's name is read as between other tags
pub closed : (k : RawTextKind) (last bytes : List ℕ) → IsWord last → begins_with_name (60 ∷ 47 ∷ last) bytes ≡ true → read (Raw k last) 0 (input bytes) ≡ read Data 0 (input bytes)
closed k last bytes word h =
    let o = opens last bytes h in
    let front : input bytes ≡ 60 ∷ 47 ∷ input o.0 = ap input o.1 ∙ input-less (47 ∷ o.0) ∙ ap (λ (l : List ℕ). 60 ∷ l) (input-solidus o.0) in
    rw front (raw_opened k last (input o.0) ∙ end_read k last o.0 word (subst (λ (l : List ℕ). begins_with_name (60 ∷ 47 ∷ last) l ≡ true) o.1 h) ∙ sym (data_opened (input o.0)))

-- a `</` that opens no such end tag is text
pub raw_solidus : (k : RawTextKind) (last bytes : List ℕ) → IsUtf8 bytes → begins_with_name (60 ∷ 47 ∷ last) (60 ∷ 47 ∷ bytes) ≡ false → read (Raw k last) 0 (input (60 ∷ 47 ∷ bytes)) ≡ Char 60 ∷ read (Raw k last) 0 (input (47 ∷ bytes))
raw_solidus k last bytes utf8 h =
    rw (input-less (47 ∷ bytes), input-solidus bytes) (raw_opened k last (input bytes) ∙ solidus_fails k last bytes utf8 h)
