-- The bytes of what is spelled.
use Rattle.std.proofs.Common.{◌≡◌, ℕ, ◌+◌, ◌<◌, ◌≤◌, Bool, true, false, not, cond, Option, Some, None, eqb, ltb, ◌||◌, ◌&&◌, ◌==◌, inl, inr, ne_eqb, suc, List, [], ◌∷◌, ◌++◌, length, take, drop, get_or, slice_index_or, refl, sym, ap, ◌∙◌, append_assoc, append-nil, codes, chars, encode_utf8_all, IsUtf8, arith, Result, Ok, Err, OnOk}
use Rattle.std.proofs.lemmas.List.{at_drop_more, take_more, flat_map_more}
use Rattle.std.proofs.lemmas.Bool.{cases_lt, cases_eq}
use Rattle.std.proofs.lemmas.Str.{encodes-append, encodes-chars, encode_ascii, scalars-chars}
use Rattle.std.proofs.lemmas.Grind.{flat_map-append}
use Rattle.std.proofs.lemmas.Bool.Decides.{nat_tests}
use Rattle.std.proofs.lemmas.List.Folds.{list_all_more}
use Rattle.std.specs.List.{flat_map, AllByRecursion}
use Rattle.html_syntax.specs.Token.{Attribute, name_at, value_at, no_attribute}
use Rattle.html_syntax.specs.Token.Token.{Start, End}
use Rattle.page_writer.specs.Page.{spell_char, spell_chars, spell_attribute, spell_attributes, spell_token}
use Rattle.page_writer.specs.Bytes.{spell_byte, spell_bytes, attribute_bytes, Extends, AreTexts}
use Rattle.page_writer.proofs.Names.{spelled}
use Rattle.page_writer.proofs.Names.Spelled.{is_lt, is_gt, is_amp, is_quot, is_cr, itself}
use Rattle.std.specs.Option.{is_some}
use lib.Utf8.{encode, encodes, scalars}

-- ---- bytes in front

pub Extends-same : (old new : List ℕ) → new ≡ old → Extends old new
Extends-same old new e = record { more = []; is = e ∙ sym (append-nil old) }

pub Extends-trans : (a b c : List ℕ) → Extends a b → Extends b c → Extends a c
Extends-trans a b c g h =
    record { more = g.more ++ h.more; is = h.is ∙ ap (λ (x : List ℕ). x ++ h.more) g.is ∙ append_assoc a g.more h.more }

-- ---- the bytes of a text

pub spell_bytes-append : (xs ys : List ℕ) → spell_bytes (xs ++ ys) ≡ spell_bytes xs ++ spell_bytes ys
unfolding spell_bytes
spell_bytes-append xs ys = flat_map-append spell_byte xs ys

-- a number from 128 on is spelled as itself
high_char : (c : ℕ) → 128 ≤ c → spell_char c ≡ c ∷ []
high_char c h = grind (arith, nat_tests)

high_byte : (b : ℕ) → 128 ≤ b → spell_byte b ≡ b ∷ []
high_byte b h = let e : eqb b 0 ≡ false = grind (arith, nat_tests) in
    ap (λ (t : Bool). cond t (0xEF ∷ 0xBF ∷ 0xBD ∷ []) (spell_char b)) e ∙ high_char b h

high_bytes : (bs : List ℕ) → AllByRecursion (λ b. 128 ≤ b) bs → spell_bytes bs ≡ bs
unfolding spell_bytes
high_bytes [] h = refl
high_bytes (b ∷ bs) h = ap (λ (x : List ℕ). x ++ spell_bytes bs) (high_byte b h.0) ∙ ap (λ (x : List ℕ). b ∷ x) (high_bytes bs h.1)

-- the bytes of a character from 128 on are such
encode_high : (c : ℕ) → 128 ≤ c → AllByRecursion (λ b. 128 ≤ b) (encode c)
unfolding encode
encode_high c h =
    let e : ltb c 128 ≡ false = grind (arith, nat_tests) in
    elim (cases_lt c 2048) [
      | inl two ↦ let f : ltb c 2048 ≡ true = grind (arith, nat_tests) in rw (e, f) (omega arith, (omega arith, tt))
      | inr more ↦
          let f : ltb c 2048 ≡ false = grind (arith, nat_tests) in
          elim (cases_lt c 65536) [
            | inl three ↦ let g : ltb c 65536 ≡ true = grind (arith, nat_tests) in rw (e, f, g) (omega arith, (omega arith, (omega arith, tt)))
            | inr four ↦ let g : ltb c 65536 ≡ false = grind (arith, nat_tests) in rw (e, f, g) (omega arith, (omega arith, (omega arith, (omega arith, tt))))
          ]
    ]

low_itself : (c : ℕ) → c < 128 → eqb c 0 ≡ false → eqb c 60 ≡ false → eqb c 62 ≡ false → eqb c 38 ≡ false → eqb c 34 ≡ false → eqb c 13 ≡ false → spell_bytes (c ∷ []) ≡ encode_utf8_all (spell_char c)
unfolding spell_bytes
low_itself c h nul lt gt amp quot cr = rw (nul, lt, gt, amp, quot, cr, encode_ascii c h) refl

low_char : (c : ℕ) → c < 128 → spell_bytes (c ∷ []) ≡ encode_utf8_all (spell_char c)
unfolding spell_bytes encode
low_char c h =
    elim (cases_eq c 0) [
      | inl e ↦ rw e refl
      | inr ne ↦
          let nul : eqb c 0 ≡ false = ne_eqb c 0 ne in
          elim (spelled c) [
            | is_lt e ↦ rw e refl
            | is_gt e ↦ rw e refl
            | is_amp e ↦ rw e refl
            | is_quot e ↦ rw e refl
            | is_cr e ↦ rw e refl
            | itself lt gt amp quot cr ↦ low_itself c h nul lt gt amp quot cr
          ]
    ]

one_char : (c : ℕ) → spell_bytes (encode c) ≡ encode_utf8_all (spell_char c)
one_char c =
    elim (cases_lt c 128) [
      | inl low ↦ ap spell_bytes (encode_ascii c low) ∙ low_char c low
      | inr high ↦ high_bytes (encode c) (encode_high c high) ∙ sym (append-nil (encode c)) ∙ ap encode_utf8_all (sym (high_char c high))
    ]

encodes-spelled : (cs : List ℕ) → spell_bytes (encodes cs) ≡ encode_utf8_all (spell_chars cs)
unfolding spell_bytes
encodes-spelled [] = refl
encodes-spelled (c ∷ cs) =
    spell_bytes-append (encode c) (encodes cs)
    ∙ ap (λ (x : List ℕ). x ++ spell_bytes (encodes cs)) (one_char c)
    ∙ ap (λ (x : List ℕ). encode_utf8_all (spell_char c) ++ x) (encodes-spelled cs)
    ∙ sym (encodes-append (spell_char c) (spell_chars cs))

-- a text is written byte by byte
pub text_bytes : (bytes : List ℕ) → IsUtf8 bytes → spell_bytes bytes ≡ encode_utf8_all (spell_chars (chars bytes))
text_bytes bytes utf8 = ap spell_bytes (sym (encodes-chars bytes utf8)) ∙ encodes-spelled (chars bytes)

or3_false : (x y z : Bool) → ((x || y) || z) ≡ false → (x ≡ false) × (y ≡ false) × (z ≡ false)
or3_false true y z h = cc
or3_false false true z h = cc
or3_false false false true h = cc
or3_false false false false h = (refl, refl, refl)

-- a byte that none of six tests finds is spelled as itself
pub plain_byte : (b : ℕ) → (not ((b == 60 || b == 62) || b == 38) && not ((b == 34 || b == 13) || b == 0)) ≡ true → spell_byte b ≡ b ∷ []
plain_byte b none = go ((b == 60 || b == 62) || b == 38) ((b == 34 || b == 13) || b == 0) refl refl none
  where
    go : (x y : Bool) → ((b == 60 || b == 62) || b == 38) ≡ x → ((b == 34 || b == 13) || b == 0) ≡ y → (not x && not y) ≡ true → spell_byte b ≡ b ∷ []
    go true y ex ey h = cc
    go false true ex ey h = cc
    go false false ex ey h =
        let e0 = or3_false (b == 60) (b == 62) (b == 38) ex in
        let e1 = or3_false (b == 34) (b == 13) (b == 0) ey in
        rw (e1.2, e0.0, e0.1, e0.2, e1.0, e1.1) refl

-- ---- loops

-- one plain byte more
pub plain_step : (bs : List ℕ) (i : ℕ) (all plain : Bool) → i < length bs → (all ≡ true → spell_bytes (take i bs) ≡ take i bs) → (plain ≡ true → spell_byte (get_or bs i 0) ≡ get_or bs i 0 ∷ []) → (all && plain) ≡ true → spell_bytes (take (i + 1) bs) ≡ take (i + 1) bs
unfolding spell_bytes
plain_step bs i false plain lt before now both = cc
plain_step bs i true false lt before now both = cc
plain_step bs i true true lt before now both =
    let b = get_or bs i 0 in
    let split : take (i + 1) bs ≡ take i bs ++ b ∷ [] = take_more bs i 0 lt in
    let one : spell_bytes (b ∷ []) ≡ b ∷ [] = append-nil (spell_byte b) ∙ now refl in
    ap spell_bytes split ∙ spell_bytes-append (take i bs) (b ∷ []) ∙ ap (λ (x : List ℕ). x ++ spell_bytes (b ∷ [])) (before refl) ∙ ap (λ (x : List ℕ). take i bs ++ x) one ∙ sym split

-- a text of plain bytes is written as it is
pub plain_text : (bytes old new : List ℕ) → IsUtf8 bytes → spell_bytes bytes ≡ bytes → new ≡ old ++ bytes → new ≡ old ++ encode_utf8_all (spell_chars (chars bytes))
plain_text bytes old new utf8 plain e = e ∙ ap (λ (x : List ℕ). old ++ x) (sym plain ∙ text_bytes bytes utf8)

pub each_step : (bs : List ℕ) (i : ℕ) (old now new : List ℕ) → i < length bs → now ≡ old ++ spell_bytes (take i bs) → new ≡ now ++ spell_byte (get_or bs i 0) → new ≡ old ++ spell_bytes (take (i + 1) bs)
unfolding spell_bytes
each_step bs i old now new lt held e =
    e ∙ ap (λ (x : List ℕ). x ++ spell_byte (get_or bs i 0)) held
    ∙ flat_map_more spell_byte old (take i bs) (get_or bs i 0)
    ∙ ap (λ (x : List ℕ). old ++ flat_map spell_byte x) (sym (take_more bs i 0 lt))

pub chunk_step : (all chunk rest now new old : List ℕ) → all ≡ chunk ++ rest → new ≡ now ++ spell_bytes chunk → now ++ spell_bytes all ≡ old → new ++ spell_bytes rest ≡ old
chunk_step all chunk rest now new old parts e held =
    ap (λ (x : List ℕ). x ++ spell_bytes rest) e ∙ append_assoc now (spell_bytes chunk) (spell_bytes rest)
    ∙ ap (λ (x : List ℕ). now ++ x) (sym (spell_bytes-append chunk rest) ∙ ap spell_bytes (sym parts)) ∙ held

pub chunks_done : (rest new old text : List ℕ) → IsUtf8 text → length rest ≡ 0 → new ++ spell_bytes rest ≡ old ++ spell_bytes text → new ≡ old ++ encode_utf8_all (spell_chars (chars text))
unfolding spell_bytes
chunks_done [] new old text utf8 none held = sym (append-nil new) ∙ held ∙ ap (λ (x : List ℕ). old ++ x) (text_bytes text utf8)
chunks_done (b ∷ rest) new old text utf8 none held = absurd (omega arith)

pub on_ok_map : {T E : Type 0} (r : Result T E) (P Q : Type 0) → (P → Q) → OnOk r P → OnOk r Q
on_ok_map (Ok x) P Q f h = f h
on_ok_map (Err e) P Q f h = tt

-- ---- tags

-- each of the pieces joined
pub attribute_written : (name value o0 o1 o2 o3 o4 o5 : List ℕ)
    → o1 ≡ o0 ++ codes " " → o2 ≡ o1 ++ name → o3 ≡ o2 ++ codes "=\"" → o4 ≡ o3 ++ encode_utf8_all (spell_chars (chars value)) → o5 ≡ o4 ++ codes "\""
    → o5 ≡ o0 ++ attribute_bytes name (chars value)
unfolding attribute_bytes
attribute_written name value o0 o1 o2 o3 o4 o5 e1 e2 e3 e4 e5 = rw (e5, e4, e3, e2, e1) (simp append_assoc)

regroup : (n v : List ℕ) → ((n ++ (61 ∷ 34 ∷ [])) ++ v) ++ 34 ∷ [] ≡ n ++ (61 ∷ 34 ∷ (v ++ 34 ∷ []))
regroup n v = simp append_assoc

attribute_encodes : (a : Attribute) → encode_utf8_all (spell_attribute a) ≡ 32 ∷ (encode_utf8_all a.name ++ (61 ∷ 34 ∷ (encode_utf8_all (spell_chars a.value) ++ 34 ∷ [])))
unfolding encode
attribute_encodes a =
    let v = encode_utf8_all (spell_chars a.value) in
    ap (λ (t : List ℕ). 32 ∷ t)
    (encodes-append (a.name ++ codes "=\"" ++ spell_chars a.value) (34 ∷ [])
    ∙ ap (λ (t : List ℕ). t ++ 34 ∷ []) (encodes-append (a.name ++ codes "=\"") (spell_chars a.value) ∙ ap (λ (t : List ℕ). t ++ v) (encodes-append a.name (codes "=\"")))
    ∙ regroup (encode_utf8_all a.name) v)

attribute_is : (a : Attribute) → encode_utf8_all (spell_attribute a) ≡ attribute_bytes (encode_utf8_all a.name) a.value
unfolding attribute_bytes
attribute_is a = attribute_encodes a ∙ ap (λ (t : List ℕ). 32 ∷ t) (sym (regroup (encode_utf8_all a.name) (encode_utf8_all (spell_chars a.value))))

pub attributes_step : (as_list : List Attribute) (i : ℕ) (o o1 all name value : List ℕ) → i < length as_list
    → name ≡ encode_utf8_all (name_at as_list i) → chars value ≡ value_at as_list i
    → o1 ≡ o ++ attribute_bytes name (chars value)
    → o ++ encode_utf8_all (spell_attributes (drop i as_list)) ≡ all → o1 ++ encode_utf8_all (spell_attributes (drop (i + 1) as_list)) ≡ all
attributes_step as_list i o o1 all name value lt en ev e1 held =
    let a : Attribute = slice_index_or as_list i no_attribute in
    let rest = drop (i + 1) as_list in
    let split = at_drop_more (λ (l : List Attribute). o ++ encode_utf8_all (spell_attributes l)) as_list i no_attribute lt in
    let written : o1 ≡ o ++ encode_utf8_all (spell_attribute a) = e1 ∙ ap (λ (x : List ℕ). o ++ x) (ap (λ (n : List ℕ). attribute_bytes n (chars value)) en ∙ ap (λ (v : List ℕ). attribute_bytes (encode_utf8_all a.name) v) ev ∙ sym (attribute_is a)) in
    rw written (append_assoc o _ _ ∙ ap (λ (b : List ℕ). o ++ b) (sym (encodes-append (spell_attribute a) (spell_attributes rest))) ∙ sym split ∙ held)

pub texts_step : (as_list : List Attribute) (i : ℕ) (value : List ℕ) → i < length as_list → IsUtf8 value → chars value ≡ value_at as_list i
    → AreTexts (take i as_list) → AreTexts (take (i + 1) as_list)
unfolding AreTexts
texts_step as_list i value lt utf8 ev held =
    let fine : scalars (value_at as_list i) ≡ true = ap scalars (sym ev) ∙ scalars-chars value utf8 in
    rw (list_all_more (λ (a : Attribute). scalars a.value) as_list i no_attribute lt, held, fine) refl

pub end_bytes : (name o0 o1 o2 o3 : List ℕ) → IsUtf8 name → o1 ≡ o0 ++ codes "</" → o2 ≡ o1 ++ name → o3 ≡ o2 ++ codes ">" → o3 ≡ o0 ++ encode_utf8_all (spell_token (End (chars name)))
unfolding encode
end_bytes name o0 o1 o2 o3 utf8 e1 e2 e3 =
    let all : encode_utf8_all (chars name ++ 62 ∷ []) ≡ name ++ 62 ∷ [] = encodes-append (chars name) (62 ∷ []) ∙ ap (λ (t : List ℕ). t ++ 62 ∷ []) (encodes-chars name utf8) in
    rw (e3, e2, e1, all) (simp append_assoc)

pub start_bytes : (name : List ℕ) (attributes : List Attribute) (o0 o1 o2 o3 o4 : List ℕ) → IsUtf8 name → o1 ≡ o0 ++ codes "<" → o2 ≡ o1 ++ name → o3 ≡ o2 ++ encode_utf8_all (spell_attributes attributes) → o4 ≡ o3 ++ codes ">"
    → o4 ≡ o0 ++ encode_utf8_all (spell_token (Start (chars name) attributes))
unfolding encode
start_bytes name attributes o0 o1 o2 o3 o4 utf8 e1 e2 e3 e4 =
    let all : encode_utf8_all (chars name ++ spell_attributes attributes ++ 62 ∷ []) ≡ (name ++ encode_utf8_all (spell_attributes attributes)) ++ 62 ∷ [] =
    encodes-append (chars name ++ spell_attributes attributes) (62 ∷ [])
    ∙ ap (λ (t : List ℕ). t ++ 62 ∷ []) (encodes-append (chars name) (spell_attributes attributes) ∙ ap (λ (t : List ℕ). t ++ encode_utf8_all (spell_attributes attributes)) (encodes-chars name utf8)) in
    rw (e4, e3, e2, e1, all) (simp append_assoc)

pub Extends-if : (grew : Bool) (old new more : List ℕ) → new ≡ cond grew (old ++ more) old → Extends old new
Extends-if true old new more e = record { more = more; is = e }
Extends-if false old new more e = Extends-same old new e
