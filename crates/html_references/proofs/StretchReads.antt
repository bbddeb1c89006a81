-- The characters of a stretch, from its beginning on.
use Rattle.std.proofs.Common.{◌≡◌, ℕ, zero, suc, ◌<◌, ◌≤◌, Bool, true, false, not, ◌||◌, ◌==◌, List, [], ◌∷◌, ◌++◌, length, map, take, drop, refl, sym, ap, subst, ◌∙◌, append_assoc, append-nil, arith, inl, inr, IsUtf8, IsCharBoundary, get_or}
use Rattle.std.proofs.lemmas.Bool.{cases_Bool, and_parts, and_from, eqb-true, eqb-false}
use Rattle.std.proofs.lemmas.Bool.Decides.{nat_tests}
use Rattle.std.proofs.lemmas.List.{map-append, take-append-drop, drop_all}
use Rattle.std.specs.List.{list_all}
use Rattle.std.specs.Str.{chars}
use Rattle.html_syntax.specs.References.{Reference, reference}
use Rattle.html_syntax.specs.States.{replace_null}
use Rattle.html_references.specs.Input.{input, decode_references, read_as, in_attribute, null_read_as, line_end_len, is_special}
use Rattle.html_references.specs.declared.references.Reference.{Reference as HeldReference}
use Rattle.html_references.specs.CodeReferences.{reference_of}
use Rattle.std.proofs.lemmas.Str.{IsCharBoundary-from_drop, IsCharBoundary-after_ascii, chars-append, chars_past_char, chars-nil, IsUtf8-encode, IsUtf8-take}
use Rattle.std.specs.Char.{IsScalar}
use lib.Utf8.{encode}
use Rattle.html_references.specs.declared.stretch.ReadAs.{ReadAs}
use Rattle.html_references.specs.declared.stretch.ReadAs.TheVariants as reads
use Rattle.html_references.proofs.Stops.{reference-len}
use Rattle.html_references.proofs.Stretches.{input-cons, input-nil, input-append_plain, input-plain, input-return_feed, input-return_alone, BeginsNoFeed, all-chars, utf8_tail}
use Rattle.html_references.proofs.ReferenceBytes.{same_reference}

-- ---- characters that are read as themselves

abbrev pub is_plain : ℕ → Bool
is_plain c = not (c == 38 || c == 13 || c == 0)

decoded-plain : (a : Bool) (plain : ℕ → ℕ) → ((c : ℕ) → is_plain c ≡ true → plain c ≡ c) → (cs more : List ℕ) → list_all is_plain cs ≡ true
    → decode_references a plain 0 (cs ++ more) ≡ cs ++ decode_references a plain 0 more
unfolding decode_references
decoded-plain a plain same [] more h = refl
decoded-plain a plain same (c ∷ cs) more h =
    let parts = and_parts (is_plain c) (list_all is_plain cs) h in
    let p = parts.0 in
    let other : (c == 38) ≡ false = grind (arith, nat_tests) in
    rw (other, same c p) (ap (λ (l : List ℕ). c ∷ l) (decoded-plain a plain same cs more parts.1))

shown-plain : (c : ℕ) → is_plain c ≡ true → replace_null c ≡ c
shown-plain c h =
    let other : (c == 0) ≡ false = grind (arith, nat_tests) in
    rw other refl

map_shown-plain : (cs : List ℕ) → list_all is_plain cs ≡ true → map replace_null cs ≡ cs
map_shown-plain [] h = refl
map_shown-plain (c ∷ cs) h =
    let parts = and_parts (is_plain c) (list_all is_plain cs) h in
    rw (shown-plain c parts.0) (ap (λ (l : List ℕ). c ∷ l) (map_shown-plain cs parts.1))

read_as-plain : (r : ReadAs) (cs more : List ℕ) → list_all is_plain cs ≡ true → read_as r (cs ++ more) ≡ cs ++ read_as r more
read_as-plain reads.Text cs more h = decoded-plain false (λ c. c) (λ c _. refl) cs more h
read_as-plain reads.Rcdata cs more h = decoded-plain false replace_null shown-plain cs more h
read_as-plain reads.Value cs more h = decoded-plain true replace_null shown-plain cs more h
read_as-plain reads.Raw cs more h = map-append replace_null cs more ∙ ap (λ (l : List ℕ). l ++ map replace_null more) (map_shown-plain cs h)

weaker : (p q : ℕ → Bool) → ((c : ℕ) → p c ≡ true → q c ≡ true) → (cs : List ℕ) → list_all p cs ≡ true → list_all q cs ≡ true
weaker p q f [] h = refl
weaker p q f (c ∷ cs) h =
    let parts = and_parts (p c) (list_all p cs) h in
    and_from (q c) (list_all q cs) (f c parts.0) (weaker p q f cs parts.1)

-- a prefix of such characters
pub plain_front : (r : ReadAs) (xs ys : List ℕ) → IsUtf8 xs → list_all is_plain xs ≡ true → read_as r (input (xs ++ ys)) ≡ chars xs ++ read_as r (input ys)
plain_front r xs ys utf8 h =
    let no_return : list_all (λ c. not (c == 13)) xs ≡ true = weaker is_plain (λ c. not (c == 13)) (λ c p. grind (arith, nat_tests)) xs h in
    ap (read_as r) (input-append_plain xs ys utf8 no_return ∙ ap (λ (l : List ℕ). l ++ input ys) (input-plain xs utf8 no_return))
    ∙ read_as-plain r (chars xs) (input ys) (all-chars is_plain (λ c big. grind (arith, nat_tests)) xs utf8 h)

-- the text after a prefix of such characters
pub plain_then : (r : ReadAs) (bytes : List ℕ) (n : ℕ) → IsUtf8 bytes → IsCharBoundary bytes n → list_all is_plain (take n bytes) ≡ true
    → chars (take n bytes) ++ read_as r (input (drop n bytes)) ≡ read_as r (input bytes)
plain_then r bytes n utf8 at h =
    sym (plain_front r (take n bytes) (drop n bytes) (IsUtf8-take bytes n utf8 at) h)
    ∙ ap (λ (l : List ℕ). read_as r (input l)) (take-append-drop n bytes)

-- ---- line ends and U+0000

read_as-feed : (r : ReadAs) (text : List ℕ) → read_as r (10 ∷ text) ≡ 10 ∷ read_as r text
unfolding decode_references
read_as-feed reads.Text text = refl
read_as-feed reads.Rcdata text = refl
read_as-feed reads.Value text = refl
read_as-feed reads.Raw text = refl

pub return_feed : (r : ReadAs) (text : List ℕ) → read_as r (input (13 ∷ 10 ∷ text)) ≡ 10 ∷ read_as r (input text)
return_feed r text = ap (read_as r) (input-return_feed text) ∙ read_as-feed r (input text)

pub return_alone : (r : ReadAs) (text : List ℕ) → IsUtf8 text → BeginsNoFeed text → read_as r (input (13 ∷ text)) ≡ 10 ∷ read_as r (input text)
return_alone r text utf8 h = ap (read_as r) (input-return_alone text utf8 h) ∙ read_as-feed r (input text)

read_as-null : (r : ReadAs) (text : List ℕ) → read_as r (0 ∷ text) ≡ null_read_as r ∷ read_as r text
unfolding decode_references
read_as-null reads.Text text = refl
read_as-null reads.Rcdata text = refl
read_as-null reads.Value text = refl
read_as-null reads.Raw text = refl

pub null_here : (r : ReadAs) (text : List ℕ) → read_as r (input (0 ∷ text)) ≡ null_read_as r ∷ read_as r (input text)
null_here r text = ap (read_as r) (input-cons 0 text (omega arith) (λ (e : 0 ≡ 13). omega arith)) ∙ read_as-null r (input text)

-- ---- references

decoded-drop : (a : Bool) (plain : ℕ → ℕ) (n : ℕ) (cs : List ℕ) → n ≤ length cs → decode_references a plain n cs ≡ decode_references a plain 0 (drop n cs)
unfolding decode_references
decoded-drop a plain zero cs le = refl
decoded-drop a plain (suc n) [] le = absurd (omega arith)
decoded-drop a plain (suc n) (c ∷ cs) le = decoded-drop a plain n cs (omega arith)

decoded-ampersand : (a : Bool) (plain : ℕ → ℕ) (text : List ℕ) → decode_references a plain 0 (38 ∷ text) ≡ (reference a text).chars ++ decode_references a plain (reference a text).len text
unfolding decode_references
decoded-ampersand a plain text = refl

referred : (a : Bool) (plain : ℕ → ℕ) (text : List ℕ) → IsUtf8 text
    → decode_references a plain 0 (input (38 ∷ text)) ≡ (reference a text).chars ++ decode_references a plain 0 (input (drop (reference a text).len text))
referred a plain text utf8 =
    let s = same_reference a text utf8 in
    let r = reference a text in
    ap (decode_references a plain 0) (input-cons 38 text (omega arith) (λ (e : 38 ≡ 13). omega arith))
    ∙ decoded-ampersand a plain (input text)
    ∙ ap (λ (x : Reference). x.chars ++ decode_references a plain x.len (input text)) s.is
    ∙ ap (λ (l : List ℕ). r.chars ++ l) (decoded-drop a plain r.len (input text) (omega (arith, ap (λ (x : Reference). x.len) s.is, reference-len a (input text))) ∙ ap (decode_references a plain 0) s.rest)

-- the text reads references
abbrev pub Refers : ReadAs → Type 0
Refers reads.Text = Unit {0}
Refers reads.Rcdata = Unit {0}
Refers reads.Value = Unit {0}
Refers reads.Raw = ⊥

pub reference_here : (r : ReadAs) (text : List ℕ) → IsUtf8 text → Refers r
    → read_as r (input (38 ∷ text)) ≡ (reference (in_attribute r) text).chars ++ read_as r (input (drop (reference (in_attribute r) text).len text))
reference_here reads.Text text utf8 h = referred false (λ c. c) text utf8
reference_here reads.Rcdata text utf8 h = referred false replace_null text utf8
reference_here reads.Value text utf8 h = referred true replace_null text utf8
reference_here reads.Raw text utf8 h = absurd h

pub ampersand_here : (text : List ℕ) → read_as reads.Raw (input (38 ∷ text)) ≡ 38 ∷ read_as reads.Raw (input text)
ampersand_here text = ap (map replace_null) (input-cons 38 text (omega arith) (λ (e : 38 ≡ 13). omega arith))

-- ---- the stretches that the code reads

pub found_reads : (r : ReadAs) (f : HeldReference) (text : List ℕ) → IsUtf8 text → Refers r → reference_of f ≡ reference (in_attribute r) text
    → read_as r (input (38 ∷ text)) ≡ f.character ∷ read_as r (input (drop f.len text))
found_reads r f text utf8 h e = reference_here r text utf8 h ∙ ap (λ (x : Reference). x.chars ++ read_as r (input (drop x.len text))) (sym e)

pub found_boundary : (a : Bool) (f : HeldReference) (text : List ℕ) → IsUtf8 text → reference_of f ≡ reference a text → IsCharBoundary text f.len
found_boundary a f text utf8 e =
    let s = same_reference a text utf8 in
    subst (λ (x : Reference). IsCharBoundary text x.len) (sym e) (IsCharBoundary-from_drop text (reference a text).len s.within s.utf8)

pub line_end_reads : (r : ReadAs) (text : List ℕ) → IsUtf8 text → read_as r (input (13 ∷ text)) ≡ 10 ∷ read_as r (input (drop (line_end_len text) (13 ∷ text)))
line_end_reads r [] utf8 = return_alone r [] utf8 tt
line_end_reads r (b ∷ text) utf8 = elim (cases_Bool (b == 10)) [
  | inl is ↦
      let e : b ≡ 10 = eqb-true b 10 is in
      rw e (return_feed r text)
  | inr other ↦ rw other (return_alone r (b ∷ text) utf8 (eqb-false b 10 other))
]

pub line_end_boundary : (text : List ℕ) → IsUtf8 (13 ∷ text) → IsCharBoundary (13 ∷ text) (line_end_len text)
line_end_boundary [] utf8 = IsCharBoundary-after_ascii (13 ∷ []) 0 utf8 (omega arith) (omega arith)
line_end_boundary (b ∷ text) utf8 = elim (cases_Bool (b == 10)) [
  | inl is ↦
      let e : b ≡ 10 = eqb-true b 10 is in
      rw e (IsCharBoundary-after_ascii (13 ∷ 10 ∷ text) 1 (rw e at utf8) (omega arith) (omega arith))
  | inr other ↦ rw other (IsCharBoundary-after_ascii (13 ∷ b ∷ text) 0 utf8 (omega arith) (omega arith))
]

small_special : (b : ℕ) → is_special b ≡ true → b < 128
small_special b h = grind (arith, nat_tests)

pub special_cut : (rest : List ℕ) → IsUtf8 rest → 0 < length rest → is_special (get_or rest 0 0) ≡ true → IsCharBoundary rest 1
special_cut rest utf8 some special = IsCharBoundary-after_ascii rest 0 utf8 some (small_special (get_or rest 0 0) special)

pub null_first : (r : ReadAs) (rest : List ℕ) → 0 < length rest → get_or rest 0 0 ≡ 0 → read_as r (input rest) ≡ null_read_as r ∷ read_as r (input (drop 1 rest))
null_first r [] some e = absurd (omega arith)
null_first r (b ∷ rest) some e = rw e (null_here r rest)

is_return : (b : ℕ) → is_special b ≡ true → (b ≡ 38 → ⊥) → (b ≡ 0 → ⊥) → b ≡ 13
is_return b special x y = grind (arith, nat_tests)

pub return_first : (r : ReadAs) (rest : List ℕ) → IsUtf8 rest → 0 < length rest → is_special (get_or rest 0 0) ≡ true → (get_or rest 0 0 ≡ 38 → ⊥) → (get_or rest 0 0 ≡ 0 → ⊥)
    → read_as r (input rest) ≡ 10 ∷ read_as r (input (drop (line_end_len (drop 1 rest)) rest))
return_first r [] utf8 some special x y = absurd (omega arith)
return_first r (b ∷ rest) utf8 some special x y =
    let e = is_return b special x y in
    rw e (line_end_reads r rest (utf8_tail 13 rest (omega arith) (rw e at utf8)))

pub return_boundary : (rest : List ℕ) → IsUtf8 rest → 0 < length rest → is_special (get_or rest 0 0) ≡ true → (get_or rest 0 0 ≡ 38 → ⊥) → (get_or rest 0 0 ≡ 0 → ⊥)
    → IsCharBoundary rest (line_end_len (drop 1 rest))
return_boundary [] utf8 some special x y = absurd (omega arith)
return_boundary (b ∷ rest) utf8 some special x y =
    let e = is_return b special x y in
    rw e (line_end_boundary rest (rw e at utf8))

-- ---- the characters that the code appends

pub front_added : (r : ReadAs) (old new rest : List ℕ) (n : ℕ) → IsUtf8 old → IsUtf8 rest → IsCharBoundary rest n → list_all is_plain (take n rest) ≡ true → new ≡ old ++ take n rest
    → chars new ++ read_as r (input (drop n rest)) ≡ chars old ++ read_as r (input rest)
front_added r old new rest n old_utf8 utf8 cut plain adds =
    ap (λ (l : List ℕ). chars l ++ read_as r (input (drop n rest))) adds
    ∙ ap (λ (l : List ℕ). l ++ read_as r (input (drop n rest))) (chars-append old (take n rest) old_utf8)
    ∙ append_assoc (chars old) (chars (take n rest)) (read_as r (input (drop n rest)))
    ∙ ap (λ (l : List ℕ). chars old ++ l) (sym (plain_front r (take n rest) (drop n rest) (IsUtf8-take rest n utf8 cut) plain) ∙ ap (λ (l : List ℕ). read_as r (input l)) (take-append-drop n rest))

pub chars-push : (bs : List ℕ) (c : ℕ) → IsUtf8 bs → IsScalar c → chars (bs ++ encode c) ≡ chars bs ++ c ∷ []
chars-push bs c utf8 scalar =
    chars-append bs (encode c) utf8
    ∙ ap (λ (l : List ℕ). chars bs ++ l) (chars_past_char (encode c) [] c (IsUtf8-encode c scalar) (sym (append-nil (encode c))) ∙ ap (λ (l : List ℕ). c ∷ l) chars-nil)

pub character_added : (r : ReadAs) (old new rest : List ℕ) (n c : ℕ) → chars new ≡ chars old ++ c ∷ [] → read_as r (input rest) ≡ c ∷ read_as r (input (drop n rest))
    → chars new ++ read_as r (input (drop n rest)) ≡ chars old ++ read_as r (input rest)
character_added r old new rest n c adds reads =
    ap (λ (l : List ℕ). l ++ read_as r (input (drop n rest))) adds
    ∙ append_assoc (chars old) (c ∷ []) (read_as r (input (drop n rest)))
    ∙ ap (λ (l : List ℕ). chars old ++ l) (sym reads)

none_decoded : (a : Bool) (plain : ℕ → ℕ) → decode_references a plain 0 [] ≡ []
unfolding decode_references
none_decoded a plain = refl

pub nothing_left : (r : ReadAs) (rest : List ℕ) (at : ℕ) → length rest ≤ at → read_as r (input (drop at rest)) ≡ []
nothing_left r rest at le = ap (λ (l : List ℕ). read_as r (input l)) (drop_all at rest le) ∙ ap (read_as r) input-nil ∙ nothing r
  where
    nothing : (r : ReadAs) → read_as r [] ≡ []
    nothing reads.Text = none_decoded false (λ c. c)
    nothing reads.Rcdata = none_decoded false replace_null
    nothing reads.Value = none_decoded true replace_null
    nothing reads.Raw = refl

-- a stretch that is all such characters
pub plain_all : (r : ReadAs) (bytes : List ℕ) (n : ℕ) → IsUtf8 bytes → IsCharBoundary bytes n → list_all is_plain (take n bytes) ≡ true → length bytes ≤ n → chars (take n bytes) ≡ read_as r (input bytes)
plain_all r bytes n utf8 at h all =
    sym (append-nil (chars (take n bytes))) ∙ ap (λ (l : List ℕ). chars (take n bytes) ++ l) (sym (nothing_left r bytes n all)) ∙ plain_then r bytes n utf8 at h
