-- What the tokenizer reads of a written page.
use Rattle.std.proofs.Common.{◌≡◌, ℕ, true, false, eqb, List, [], ◌∷◌, ◌++◌, codes, refl, sym, ap, ◌∙◌, append_assoc}
use Rattle.std.proofs.lemmas.List.{append-nil}
use Rattle.std.specs.List.{AllByRecursion}
use Rattle.html_syntax.specs.Token.{Attribute}
use Rattle.html_syntax.specs.Token.Token.{Start, End, Char, Doctype}
use Rattle.html_syntax.specs.References.{reference}
use Rattle.html_syntax.specs.Tokenizer.{Tag, has_name, state_after_start, look, look_again, step, read, keep}
use Rattle.html_syntax.specs.Tokenizer.RawTextKind.{Rcdata}
use Rattle.html_syntax.specs.Tokenizer.State.{Data, Raw, TagName, BeforeName, AttributeName, QuotedValue, AfterValue}
use Rattle.page_writer.specs.Page.{spell_attributes, spell_token, spell_char, spell_chars, IsWritable}
use Rattle.page_writer.proofs.Distinct.{AreAttributes}
use Rattle.html_syntax.specs.References.{is_between}
use Rattle.html_rules.proofs.Facts.{and_true, no_of}
use Rattle.page_writer.proofs.Names.{attribute_name, Letter, letter_char, is_name, NameChar, name_char, is_name_char, name_chars, spelled}
use Rattle.page_writer.proofs.Names.Spelled.{is_lt, is_gt, is_amp, is_quot, is_cr, itself}

-- ---- characters

pub not_nul : (c : ℕ) → IsWritable c → eqb c 0 ≡ false
not_nul c h = no_of (eqb c 0) h.0

pub data_char : (c : ℕ) (rest : List ℕ) → eqb c 0 ≡ false → read Data 0 (spell_char c ++ rest) ≡ Char c ∷ read Data 0 rest
unfolding read step look_again look reference
data_char c rest h =
    elim (spelled c) [
      | is_lt e ↦ rw e refl
      | is_gt e ↦ rw e refl
      | is_amp e ↦ rw e refl
      | is_quot e ↦ rw e refl
      | is_cr e ↦ rw e refl
      | itself lt gt amp quot cr ↦ rw (lt, gt, amp, quot, cr, h, amp, lt) refl
    ]

pub text_char : (last : List ℕ) (c : ℕ) (rest : List ℕ) → eqb c 0 ≡ false → read (Raw Rcdata last) 0 (spell_char c ++ rest) ≡ Char c ∷ read (Raw Rcdata last) 0 rest
unfolding read step look_again look reference
text_char last c rest h =
    elim (spelled c) [
      | is_lt e ↦ rw e refl
      | is_gt e ↦ rw e refl
      | is_amp e ↦ rw e refl
      | is_quot e ↦ rw e refl
      | is_cr e ↦ rw e refl
      | itself lt gt amp quot cr ↦ rw (lt, gt, amp, quot, cr, h, amp, lt, h) refl
    ]

value_char : (tag : Tag) (name value : List ℕ) (c : ℕ) (rest : List ℕ) → eqb c 0 ≡ false → read (QuotedValue 34 tag name value) 0 (spell_char c ++ rest) ≡ read (QuotedValue 34 tag name (value ++ c ∷ [])) 0 rest
unfolding read step look_again look reference
value_char tag name value c rest h =
    elim (spelled c) [
      | is_lt e ↦ rw e refl
      | is_gt e ↦ rw e refl
      | is_amp e ↦ rw e refl
      | is_quot e ↦ rw e refl
      | is_cr e ↦ rw e refl
      | itself lt gt amp quot cr ↦ rw (lt, gt, amp, quot, cr, h, quot, amp, h) refl
    ]

value_chars : (tag : Tag) (name value cs rest : List ℕ) → AllByRecursion IsWritable cs → read (QuotedValue 34 tag name value) 0 (spell_chars cs ++ rest) ≡ read (QuotedValue 34 tag name (value ++ cs)) 0 rest
value_chars tag name value [] rest h = rw append-nil refl
value_chars tag name value (c ∷ cs) rest h =
    rw (append_assoc (spell_char c) (spell_chars cs) rest)
    (value_char tag name value c (spell_chars cs ++ rest) (not_nul c h.0)
    ∙ value_chars tag name (value ++ c ∷ []) cs rest h.1
    ∙ ap (λ (v : List ℕ). read (QuotedValue 34 tag name v) 0 rest) (append_assoc value (c ∷ []) cs))

-- ---- names

abbrev named : Tag → List ℕ → Tag
named tag cs = record { is_end = tag.is_end; name = tag.name ++ cs; attributes = tag.attributes }

tag_char : (tag : Tag) (c : ℕ) (rest : List ℕ) → NameChar c → read (TagName tag) 0 (c ∷ rest) ≡ read (TagName (named tag (c ∷ []))) 0 rest
unfolding read step look_again look
tag_char tag c rest h = rw (h.space, h.slash, h.gt, h.nul, h.lowered) refl

tag_chars : (tag : Tag) (cs rest : List ℕ) → name_chars cs ≡ true → read (TagName tag) 0 (cs ++ rest) ≡ read (TagName (named tag cs)) 0 rest
tag_chars tag [] rest h = rw append-nil refl
tag_chars tag (c ∷ cs) rest h =
    let both = and_true (is_name_char c) (name_chars cs) h in
    tag_char tag c (cs ++ rest) (name_char c both.0)
    ∙ tag_chars (named tag (c ∷ [])) cs rest both.1
    ∙ ap (λ (n : List ℕ). read (TagName (record { is_end = tag.is_end; name = n; attributes = tag.attributes })) 0 rest) (append_assoc tag.name (c ∷ []) cs)

attribute_char : (tag : Tag) (name : List ℕ) (c : ℕ) (rest : List ℕ) → NameChar c → read (AttributeName tag name) 0 (c ∷ rest) ≡ read (AttributeName tag (name ++ c ∷ [])) 0 rest
unfolding read step look_again look
attribute_char tag name c rest h = rw (h.space, h.slash, h.gt, h.equals, h.nul, h.lowered) refl

attribute_chars : (tag : Tag) (name cs rest : List ℕ) → name_chars cs ≡ true → read (AttributeName tag name) 0 (cs ++ rest) ≡ read (AttributeName tag (name ++ cs)) 0 rest
attribute_chars tag name [] rest h = rw append-nil refl
attribute_chars tag name (c ∷ cs) rest h =
    let both = and_true (is_name_char c) (name_chars cs) h in
    attribute_char tag name c (cs ++ rest) (name_char c both.0)
    ∙ attribute_chars tag (name ++ c ∷ []) cs rest both.1
    ∙ ap (λ (n : List ℕ). read (AttributeName tag n) 0 rest) (append_assoc name (c ∷ []) cs)

-- ---- attributes

-- the name of the first attribute begins after a space
first_char : (tag : Tag) (c : ℕ) (rest : List ℕ) → NameChar c → read (BeforeName tag) 0 (c ∷ rest) ≡ read (AttributeName tag (c ∷ [])) 0 rest
unfolding read step look_again look
first_char tag c rest h = rw (h.space, h.slash, h.gt, h.equals, h.space, h.slash, h.gt, h.equals, h.nul, h.lowered) refl

abbrev start_tag : List ℕ → List Attribute → Tag
start_tag name attributes = record { is_end = false; name = name; attributes = attributes }

space_after_name : (tag : Tag) (rest : List ℕ) → read (TagName tag) 0 (32 ∷ rest) ≡ read (BeforeName tag) 0 rest
unfolding read step look_again look
space_after_name tag rest = refl

space_after_value : (tag : Tag) (rest : List ℕ) → read (AfterValue tag) 0 (32 ∷ rest) ≡ read (BeforeName tag) 0 rest
unfolding read step look_again look
space_after_value tag rest = refl

value_begins : (tag : Tag) (name rest : List ℕ) → read (AttributeName tag name) 0 (61 ∷ 34 ∷ rest) ≡ read (QuotedValue 34 tag name []) 0 rest
unfolding read step look_again look
value_begins tag name rest = refl

value_ends : (tag : Tag) (name value rest : List ℕ) → read (QuotedValue 34 tag name value) 0 (34 ∷ rest) ≡ read (AfterValue (keep tag name value)) 0 rest
unfolding read step look_again look
value_ends tag name value rest = refl

gt_after_name : (name : List ℕ) (attributes : List Attribute) (rest : List ℕ) → read (TagName (start_tag name attributes)) 0 (62 ∷ rest) ≡ Start name attributes ∷ read (state_after_start name) 0 rest
unfolding read step look_again look
gt_after_name name attributes rest = refl

gt_after_value : (name : List ℕ) (attributes : List Attribute) (rest : List ℕ) → read (AfterValue (start_tag name attributes)) 0 (62 ∷ rest) ≡ Start name attributes ∷ read (state_after_start name) 0 rest
unfolding read step look_again look
gt_after_value name attributes rest = refl

attribute_name_reads : (tag : Tag) (name rest : List ℕ) → is_name name ≡ true → read (BeforeName tag) 0 (name ++ rest) ≡ read (AttributeName tag name) 0 rest
attribute_name_reads tag [] rest h = absurd cc
attribute_name_reads tag (c ∷ cs) rest h =
    let both = and_true (is_between 97 122 c) (name_chars cs) h in
    first_char tag c (cs ++ rest) (letter_char c both.0).in_name ∙ attribute_chars tag (c ∷ []) cs rest both.1

attribute_reads : (tag : Tag) (a : Attribute) (rest : List ℕ) → is_name a.name ≡ true → AllByRecursion IsWritable a.value
    → read (BeforeName tag) 0 (a.name ++ (61 ∷ 34 ∷ (spell_chars a.value ++ 34 ∷ rest))) ≡ read (AfterValue (keep tag a.name a.value)) 0 rest
attribute_reads tag a rest is_named is_shown =
    attribute_name_reads tag a.name (61 ∷ 34 ∷ (spell_chars a.value ++ 34 ∷ rest)) is_named
    ∙ value_begins tag a.name (spell_chars a.value ++ 34 ∷ rest)
    ∙ value_chars tag a.name [] a.value (34 ∷ rest) is_shown
    ∙ value_ends tag a.name a.value rest

-- the spelling of an attribute, and what comes after it
regroup : (a : Attribute) (more : List Attribute) (rest : List ℕ) → spell_attributes (a ∷ more) ++ rest ≡ 32 ∷ (a.name ++ (61 ∷ 34 ∷ (spell_chars a.value ++ 34 ∷ (spell_attributes more ++ rest))))
regroup a more rest = simp append_assoc

kept : (name : List ℕ) (earlier : List Attribute) (a : Attribute) → has_name a.name earlier ≡ false → keep (start_tag name earlier) a.name a.value ≡ start_tag name (earlier ++ a ∷ [])
kept name earlier a h = rw h refl

attributes_read : (name : List ℕ) (earlier more : List Attribute) (rest : List ℕ) → AreAttributes earlier more
    → read (AfterValue (start_tag name earlier)) 0 (spell_attributes more ++ 62 ∷ rest) ≡ Start name (earlier ++ more) ∷ read (state_after_start name) 0 rest
attributes_read name earlier [] rest h = gt_after_value name earlier rest ∙ ap (λ (l : List Attribute). Start name l ∷ read (state_after_start name) 0 rest) (sym (append-nil earlier))
attributes_read name earlier (a ∷ more) rest h =
    rw (regroup a more (62 ∷ rest))
    (space_after_value (start_tag name earlier) _
    ∙ attribute_reads (start_tag name earlier) a (spell_attributes more ++ 62 ∷ rest) (attribute_name a.name h.0) h.2
    ∙ ap (λ (t : Tag). read (AfterValue t) 0 (spell_attributes more ++ 62 ∷ rest)) (kept name earlier a (no_of (has_name a.name earlier) h.1))
    ∙ attributes_read name (earlier ++ a ∷ []) more rest h.3
    ∙ ap (λ (l : List Attribute). Start name l ∷ read (state_after_start name) 0 rest) (append_assoc earlier (a ∷ []) more))

-- the first attribute, or none
tag_reads : (name : List ℕ) (attributes : List Attribute) (rest : List ℕ) → AreAttributes [] attributes
    → read (TagName (start_tag name [])) 0 (spell_attributes attributes ++ 62 ∷ rest) ≡ Start name attributes ∷ read (state_after_start name) 0 rest
tag_reads name [] rest h = gt_after_name name [] rest
tag_reads name (a ∷ more) rest h =
    rw (regroup a more (62 ∷ rest))
    (space_after_name (start_tag name []) _
    ∙ attribute_reads (start_tag name []) a (spell_attributes more ++ 62 ∷ rest) (attribute_name a.name h.0) h.2
    ∙ attributes_read name (a ∷ []) more rest h.3)

tag_begins : (c : ℕ) (rest : List ℕ) → Letter c → read Data 0 (60 ∷ c ∷ rest) ≡ read (TagName (start_tag (c ∷ []) [])) 0 rest
unfolding read step look_again look
tag_begins c rest l = let h = l.in_name in rw (l.bang, h.slash, l.letter, h.space, h.slash, h.gt, h.nul, h.lowered) refl

pub start_reads : (name : List ℕ) (attributes : List Attribute) (rest : List ℕ) → is_name name ≡ true → AreAttributes [] attributes
    → read Data 0 (spell_token (Start name attributes) ++ rest) ≡ Start name attributes ∷ read (state_after_start name) 0 rest
start_reads [] attributes rest n h = absurd cc
start_reads (c ∷ cs) attributes rest n h =
    let both = and_true (is_between 97 122 c) (name_chars cs) n in
    let grouped : spell_token (Start (c ∷ cs) attributes) ++ rest ≡ 60 ∷ c ∷ (cs ++ (spell_attributes attributes ++ 62 ∷ rest)) = simp append_assoc in
    rw grouped
    (tag_begins c (cs ++ (spell_attributes attributes ++ 62 ∷ rest)) (letter_char c both.0)
    ∙ tag_chars (start_tag (c ∷ []) []) cs (spell_attributes attributes ++ 62 ∷ rest) both.1
    ∙ tag_reads (c ∷ cs) attributes rest h)

-- ---- end tags

end_tag_begins : (c : ℕ) (rest : List ℕ) → Letter c → read Data 0 (60 ∷ 47 ∷ c ∷ rest) ≡ read (TagName (record { is_end = true; name = c ∷ []; attributes = [] })) 0 rest
unfolding read step look_again look
end_tag_begins c rest l = let h = l.in_name in rw (l.letter, h.space, h.slash, h.gt, h.nul, h.lowered) refl

end_tag_ends : (name rest : List ℕ) → read (TagName (record { is_end = true; name = name; attributes = [] })) 0 (62 ∷ rest) ≡ End name ∷ read Data 0 rest
unfolding read step look_again look
end_tag_ends name rest = refl

pub end_reads : (name rest : List ℕ) → is_name name ≡ true → read Data 0 (spell_token (End name) ++ rest) ≡ End name ∷ read Data 0 rest
end_reads [] rest n = absurd cc
end_reads (c ∷ cs) rest n =
    let both = and_true (is_between 97 122 c) (name_chars cs) n in
    let grouped : spell_token (End (c ∷ cs)) ++ rest ≡ 60 ∷ 47 ∷ c ∷ (cs ++ 62 ∷ rest) = simp append_assoc in
    rw grouped
    (end_tag_begins c (cs ++ 62 ∷ rest) (letter_char c both.0)
    ∙ tag_chars (record { is_end = true; name = c ∷ []; attributes = [] }) cs (62 ∷ rest) both.1
    ∙ end_tag_ends (c ∷ cs) rest)

-- the ends of the elements whose content is text alone
pub title_end : (rest : List ℕ) → read (Raw Rcdata (codes "title")) 0 (spell_token (End (codes "title")) ++ rest) ≡ End (codes "title") ∷ read Data 0 rest
unfolding read step look_again look
title_end rest = refl

pub textarea_end : (rest : List ℕ) → read (Raw Rcdata (codes "textarea")) 0 (spell_token (End (codes "textarea")) ++ rest) ≡ End (codes "textarea") ∷ read Data 0 rest
unfolding read step look_again look
textarea_end rest = refl

-- ---- the document type

pub doctype_reads : (rest : List ℕ) → read Data 0 (spell_token Doctype ++ rest) ≡ Doctype ∷ read Data 0 rest
unfolding read step look_again look
doctype_reads rest = refl
