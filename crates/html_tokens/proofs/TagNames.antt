-- The names of tags and of attributes.
use Rattle.std.proofs.Common.{◌≡◌, ◌≢◌, ℕ, zero, suc, ◌+◌, ◌<◌, true, false, ◌==◌, List, [], ◌∷◌, ◌++◌, map, take, drop, refl, sym, ap, ◌∙◌, append_assoc, append-nil, arith, inl, inr, IsUtf8, IsCharBoundary}
use Rattle.std.proofs.lemmas.Bool.{cases_Bool, eqb-true, ne_eqb}
use Rattle.std.proofs.lemmas.Bool.Decides.{nat_tests}
use Rattle.std.specs.List.{prefix_len}
use Rattle.html_syntax.specs.Characters.{is_space, lower}
use Rattle.html_syntax.specs.States.{Tag, replace_null, keep, keep_flag}
use Rattle.html_syntax.specs.States.State.{TagName, BeforeName, AttributeName, AfterName}
use Rattle.html_syntax.specs.Tokenizer.{look, look_again, step, read}
use Rattle.html_references.specs.Input.{input}
use Rattle.html_tokens.specs.Tags.{in_class, read_name, BeginsAttribute, extend_name}
use Rattle.html_tokens.specs.declared.tags.Class.TheVariants as class
use Rattle.html_tokens.proofs.Runs.{Reader, Keeps}
use Rattle.html_references.proofs.Stretches.{input-cons, input-first, utf8_tail}
use Rattle.html_tokens.proofs.TagRows.{is_name_end, is_attribute_end, name_stops, name_nil, before_equals, before_name, attribute_keeps, attribute_nil, attribute_stops, after_nil}
use Rattle.html_tokens.proofs.TagRuns.{IsWide, Leaves, kept, prefix_outside, at_stop, at_first, next_boundary}

spelt : ℕ → ℕ
spelt c = lower (replace_null c)

twice : (cs : List ℕ) → map spelt cs ≡ map lower (map replace_null cs)
unfolding spelt
twice [] = refl
twice (c ∷ cs) = ap (λ (l : List ℕ). lower (replace_null c) ∷ l) (twice cs)

-- ---- the tag's name

abbrev with_name : Tag → List ℕ → Tag
with_name t name = record { is_end = t.is_end; name = name; attributes = t.attributes }

abbrev naming : Tag → Reader
naming t k passing text = read (TagName (with_name t (t.name ++ k))) passing text

name_row : (t : Tag) (c : ℕ) (text : List ℕ) → is_name_end c ≡ false → read (TagName t) 0 (c ∷ text) ≡ read (TagName (with_name t (t.name ++ spelt c ∷ []))) 0 text
unfolding read step look_again look spelt
name_row t c text h =
    let a : is_space c ≡ false = grind (arith, nat_tests) in
    let b : (c == 47) ≡ false = grind (arith, nat_tests) in
    let d : (c == 62) ≡ false = grind (arith, nat_tests) in
    rw (a, b, d) refl

naming_keeps : (t : Tag) → Keeps (naming t) (in_class class.TagName) spelt
naming_keeps t k c text h =
    name_row (with_name t (t.name ++ k)) c text (grind (arith, nat_tests)) ∙ ap (λ (l : List ℕ). read (TagName (with_name t l)) 0 text) (append_assoc t.name k (spelt c ∷ []))

pub name_wide : IsWide (in_class class.TagName)
name_wide = record { wide = λ c big. grind (arith, nat_tests); no_return = refl }

name_leaves : Leaves (in_class class.TagName) is_name_end
name_leaves = record { small = λ b h. grind (arith, nat_tests); passes = λ b h other. grind (arith, nat_tests); feed = refl }

pub tag_named : (t : Tag) (bytes : List ℕ) → IsUtf8 bytes
    → read (TagName t) 0 (input bytes) ≡ read (BeforeName (extend_name t (input (take (prefix_len (in_class class.TagName) bytes) bytes)))) 0 (input (drop (prefix_len (in_class class.TagName) bytes) bytes))
tag_named t bytes utf8 =
    let n = prefix_len (in_class class.TagName) bytes in
    let named = extend_name t (input (take n bytes)) in
    ap (λ (l : List ℕ). read (TagName (with_name t l)) 0 (input bytes)) (sym (append-nil t.name))
    ∙ kept (naming t) (in_class class.TagName) spelt name_wide (naming_keeps t) [] bytes utf8
    ∙ ap (λ (l : List ℕ). read (TagName (with_name t (t.name ++ l))) 0 (input (drop n bytes))) (twice (input (take n bytes)))
    ∙ at_stop (read (TagName named) 0) (read (BeforeName named) 0) (in_class class.TagName) is_name_end (record { ends = name_nil named; here = name_stops named }) name_leaves (drop n bytes) (prefix_outside (in_class class.TagName) bytes)

-- ---- an attribute's name

abbrev naming_attribute : Tag → Reader
naming_attribute t k passing text = read (AttributeName t k) passing text

attribute_spelt : (t : Tag) → Keeps (naming_attribute t) (in_class class.AttributeName) spelt
unfolding spelt
attribute_spelt t k c text h = attribute_keeps t k c text (grind (arith, nat_tests))

attribute_wide : IsWide (in_class class.AttributeName)
attribute_wide = record { wide = λ c big. grind (arith, nat_tests); no_return = refl }

attribute_leaves : Leaves (in_class class.AttributeName) is_attribute_end
attribute_leaves = record { small = λ b h. grind (arith, nat_tests); passes = λ b h other. grind (arith, nat_tests); feed = refl }

-- from a part of the name on
named_on : (t : Tag) (k bytes : List ℕ) → IsUtf8 bytes
    → read (AttributeName t k) 0 (input bytes)
    ≡ read (AfterName t (k ++ read_name (take (prefix_len (in_class class.AttributeName) bytes) bytes))) 0 (input (drop (prefix_len (in_class class.AttributeName) bytes) bytes))
named_on t k bytes utf8 =
    let n = prefix_len (in_class class.AttributeName) bytes in
    let name = k ++ read_name (take n bytes) in
    kept (naming_attribute t) (in_class class.AttributeName) spelt attribute_wide (attribute_spelt t) k bytes utf8
    ∙ ap (λ (l : List ℕ). read (AttributeName t (k ++ l)) 0 (input (drop n bytes))) (twice (input (take n bytes)))
    ∙ at_stop (read (AttributeName t name) 0) (read (AfterName t name) 0) (in_class class.AttributeName) is_attribute_end (record { ends = attribute_nil t name; here = attribute_stops t name }) attribute_leaves (drop n bytes)
    (prefix_outside (in_class class.AttributeName) bytes)

one : (n : ℕ) → 1 + n ≡ suc n
one n = omega arith

begins_equals : (t : Tag) (bytes : List ℕ) → IsUtf8 bytes
    → read (BeforeName t) 0 (input (61 ∷ bytes))
    ≡ read (AfterName t (read_name (61 ∷ take (prefix_len (in_class class.AttributeName) bytes) bytes))) 0 (input (drop (prefix_len (in_class class.AttributeName) bytes) bytes))
begins_equals t bytes utf8 =
    let n = prefix_len (in_class class.AttributeName) bytes in
    let equals : (l : List ℕ) → input (61 ∷ l) ≡ 61 ∷ input l = λ l. input-cons 61 l (omega arith) (λ (e : 61 ≡ 13). omega arith) in
    ap (read (BeforeName t) 0) (equals bytes)
    ∙ before_equals t (input bytes)
    ∙ named_on t (61 ∷ []) bytes utf8
    ∙ ap (λ (l : List ℕ). read (AfterName t (map lower (map replace_null l))) 0 (input (drop n bytes))) (sym (equals (take n bytes)))

begins_name : (t : Tag) (b : ℕ) (bytes : List ℕ) → IsUtf8 (b ∷ bytes) → in_class class.AttributeName b ≡ true
    → read (BeforeName t) 0 (input (b ∷ bytes))
    ≡ read (AfterName t (read_name (b ∷ take (prefix_len (in_class class.AttributeName) bytes) bytes))) 0 (input (drop (prefix_len (in_class class.AttributeName) bytes) bytes))
begins_name t b bytes utf8 h =
    let count : prefix_len (in_class class.AttributeName) (b ∷ bytes) ≡ suc (prefix_len (in_class class.AttributeName) bytes) = (rw h (one (prefix_len (in_class class.AttributeName) bytes))) in
    at_first (read (BeforeName t) 0) (read (AttributeName t []) 0) (in_class class.AttributeName) (record { ends = sym (attribute_nil t [] ∙ after_nil t []); here = λ c text x. before_name t c text (grind (arith, nat_tests)) }) attribute_wide.wide refl b bytes utf8 h
    ∙ named_on t [] (b ∷ bytes) utf8
    ∙ ap (λ (k : ℕ). read (AfterName t (read_name (take k (b ∷ bytes)))) 0 (input (drop k (b ∷ bytes)))) count

pub attribute_named : (t : Tag) (b : ℕ) (bytes : List ℕ) → IsUtf8 (b ∷ bytes) → in_class class.Gap b ≡ false → b ≢ 62
    → read (BeforeName t) 0 (input (b ∷ bytes))
    ≡ read (AfterName t (read_name (take (1 + prefix_len (in_class class.AttributeName) bytes) (b ∷ bytes)))) 0 (input (drop (1 + prefix_len (in_class class.AttributeName) bytes) (b ∷ bytes)))
attribute_named t b bytes utf8 gap open_tag = rw (one (prefix_len (in_class class.AttributeName) bytes)) (elim (cases_Bool (b == 61)) [
  | inl is ↦
      let e : b ≡ 61 = eqb-true b 61 is in
      rw e (begins_equals t bytes (utf8_tail b bytes (omega (arith, e)) utf8))
  | inr other ↦
      let unclosed : (b == 62) ≡ false = ne_eqb b 62 open_tag in
      begins_name t b bytes utf8 (grind (arith, nat_tests))
])

pub attribute_boundary : (b : ℕ) (bytes : List ℕ) → IsCharBoundary (b ∷ bytes) (1 + prefix_len (in_class class.AttributeName) bytes)
attribute_boundary b bytes = next_boundary (in_class class.AttributeName) attribute_wide.wide b bytes

-- a name is not empty
pub named_flag : (t : Tag) (b : ℕ) (bytes : List ℕ) (n : ℕ) → 0 < n → IsUtf8 (take n (b ∷ bytes)) → keep_flag t (read_name (take n (b ∷ bytes))) ≡ keep t (read_name (take n (b ∷ bytes))) []
named_flag t b bytes zero some utf8 = absurd (omega arith)
named_flag t b bytes (suc n) some utf8 =
    let f = input-first (λ c. true) (λ c big. refl) (λ h. refl) b (take n bytes) utf8 refl in
    rw f.is refl

-- the end of the name of an attribute
pub record Named (rest : List ℕ) (n : ℕ) : Type 0 where
  pub boundary : IsCharBoundary rest n
  pub reads : (t : Tag) → read (BeforeName t) 0 (input rest) ≡ read (AfterName t (read_name (take n rest))) 0 (input (drop n rest))

pub named : (rest : List ℕ) (n : ℕ) → IsUtf8 rest → BeginsAttribute rest → n ≡ prefix_len (in_class class.AttributeName) (drop 1 rest) → Named rest (1 + n)
named [] n utf8 begins e = absurd begins
named (b ∷ bytes) n utf8 begins e = rw e record { boundary = attribute_boundary b bytes; reads = λ t. attribute_named t b bytes utf8 begins.0 begins.1 }
