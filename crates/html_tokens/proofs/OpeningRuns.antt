-- What is read after a `<` that opens markup.
use Rattle.std.proofs.Common.{◌≡◌, ◌≢◌, ℕ, ◌+◌, ◌<◌, ◌≤◌, Bool, true, false, not, ◌&&◌, ◌||◌, ◌==◌, List, [], ◌∷◌, ◌++◌, length, map, take, drop, refl, sym, ap, subst, ◌∙◌, arith, inl, inr, IsUtf8, IsCharBoundary, codes, nat_lt}
use Rattle.std.proofs.lemmas.Bool.{cases_Bool, and_parts, eqb-true, ne_eqb, both_ways, not-true}
use Rattle.std.proofs.lemmas.Bool.Decides.{nat_tests}
use Rattle.std.proofs.lemmas.Str.{IsCharBoundary-from_drop, IsUtf8-drop}
use Rattle.std.proofs.lemmas.List.{drop-drop, length-drop}
use Rattle.std.specs.List.{list_all}
use Rattle.html_syntax.specs.Characters.{is_letter, lower}
use Rattle.html_syntax.specs.References.{begins_with}
use Rattle.html_syntax.specs.States.{new_tag}
use Rattle.html_syntax.specs.States.State.{Data, TagOpen, EndTagOpen, TagName, Bogus, Markup, CommentStart, DoctypeBody}
use Rattle.html_syntax.specs.States.Action.{ReconsumeIn, SwitchPast}
use Rattle.html_syntax.specs.Tokenizer.{look, look_again, step, read, tokens_at_end}
use Rattle.html_references.specs.Input.{input}
use Rattle.html_references.specs.Prefixes.{begins_ignore_case}
use Rattle.html_tokens.specs.Openings.{opening_len, state_after_opening, opening_after_bang, opening_after_solidus, opening_of, OpensTag, begins_empty_tag}
use Rattle.html_tokens.specs.Scanned.{opens_markup, opens_start, opens_end}
use Rattle.html_tokens.specs.declared.markup.Opening.{Opening}
use Rattle.html_tokens.specs.declared.markup.Opening.TheVariants as opening
use Rattle.html_tokens.proofs.Runs.{reconsumed, passed_over}
use Rattle.html_references.proofs.Stops.{begins-len}
use Rattle.html_references.proofs.Stretches.{input-first, input-cons, input-nil, utf8_tail}

-- ---- rows

tag_open : (text : List ℕ) → read Data 0 (60 ∷ text) ≡ read TagOpen 0 text
unfolding read step look_again look
tag_open text = refl

end_tag_open : (text : List ℕ) → read TagOpen 0 (47 ∷ text) ≡ read EndTagOpen 0 text
unfolding read step look_again look
end_tag_open text = refl

markup : (text : List ℕ) → read TagOpen 0 (33 ∷ text) ≡ read Markup 0 text
unfolding read step look_again look
markup text = refl

nothing : (text : List ℕ) → read EndTagOpen 0 (62 ∷ text) ≡ read Data 0 text
unfolding read step look_again look
nothing text = refl

question_look : (text : List ℕ) → look TagOpen 63 text ≡ ReconsumeIn (Bogus []) []
unfolding look
question_look text = refl

start_look : (c : ℕ) (text : List ℕ) → is_letter c ≡ true → look TagOpen c text ≡ ReconsumeIn (TagName (new_tag false)) []
unfolding look
start_look c text h =
    let a : (c == 0x21) ≡ false = grind (arith, nat_tests) in
    let b : (c == 0x2F) ≡ false = grind (arith, nat_tests) in
    rw (a, b, h) refl

end_look : (c : ℕ) (text : List ℕ) → is_letter c ≡ true → look EndTagOpen c text ≡ ReconsumeIn (TagName (new_tag true)) []
unfolding look
end_look c text h = rw h refl

bogus_end_look : (c : ℕ) (text : List ℕ) → is_letter c ≡ false → (c == 62) ≡ false → look EndTagOpen c text ≡ ReconsumeIn (Bogus []) []
unfolding look
bogus_end_look c text h g = rw (h, g) refl

hyphens : (text : List ℕ) → read Markup 0 (45 ∷ 45 ∷ text) ≡ read (CommentStart []) 0 text
unfolding read step look_again look
hyphens text = refl

markup_nil : read Markup 0 [] ≡ read (Bogus []) 0 []
unfolding read tokens_at_end
markup_nil = refl

bogus_markup_look : (c : ℕ) (text : List ℕ) → begins_with (codes "--") (c ∷ text) ≡ false → begins_with (codes "doctype") (map lower (c ∷ take 6 text)) ≡ false → look Markup c text ≡ ReconsumeIn (Bogus []) []
unfolding look
bogus_markup_look c text h g = rw (h, g) refl

doctype_look : (a : ℕ) (text : List ℕ) → (45 == a) ≡ false → begins_with (codes "doctype") (map lower (a ∷ take 6 text)) ≡ true → look Markup a text ≡ SwitchPast 6 DoctypeBody []
unfolding look
doctype_look a text h k = rw (h, k) refl

six_past : (b c d e f g : ℕ) (text : List ℕ) → read DoctypeBody 6 (b ∷ c ∷ d ∷ e ∷ f ∷ g ∷ text) ≡ read DoctypeBody 0 text
unfolding read
six_past b c d e f g text = refl

doctype_read : (a b c d e f g : ℕ) (text : List ℕ) → (45 == a) ≡ false → begins_with (codes "doctype") (map lower (a ∷ b ∷ c ∷ d ∷ e ∷ f ∷ g ∷ [])) ≡ true
    → read Markup 0 (a ∷ b ∷ c ∷ d ∷ e ∷ f ∷ g ∷ text) ≡ read DoctypeBody 0 text
doctype_read a b c d e f g text h k =
    passed_over Markup DoctypeBody 6 [] a (b ∷ c ∷ d ∷ e ∷ f ∷ g ∷ text) (doctype_look a (b ∷ c ∷ d ∷ e ∷ f ∷ g ∷ text) h k) ∙ six_past b c d e f g text

-- ---- words at the front of a text and of its input stream

-- a character that is read as itself
abbrev is_firm : ℕ → Bool
is_firm x = not (x == 10) && not (x == 13) && nat_lt x 128

unfirm : (x : ℕ) → is_firm x ≡ true → (x ≢ 10) × (x ≢ 13) × (x < 128)
unfirm x h = ((λ e. absurd (grind (arith, nat_tests))), (λ e. absurd (grind (arith, nat_tests))), grind (arith, nat_tests))

begins_stream : (w bytes : List ℕ) → list_all is_firm w ≡ true → IsUtf8 bytes → begins_with w (input bytes) ≡ begins_with w bytes
begins_stream [] bytes h utf8 = refl
begins_stream (x ∷ w) [] h utf8 = rw input-nil refl
begins_stream (x ∷ w) (b ∷ bytes) h utf8 =
    let parts = and_parts (is_firm x) (list_all is_firm w) h in
    let firm = unfirm x parts.0 in
    elim (cases_Bool (x == b)) [
      | inl is ↦
          let e : x ≡ b = eqb-true x b is in
          let same : input (b ∷ bytes) ≡ b ∷ input bytes = input-cons b bytes (omega (arith, firm.2, e)) (λ (f : b ≡ 13). firm.1 (e ∙ f)) in
          rw same (ap (λ (t : Bool). x == b && t) (begins_stream w bytes parts.1 (utf8_tail b bytes (omega (arith, firm.2, e)) utf8)))
      | inr other ↦
          let f = input-first (λ c. not (x == c)) (λ c big. rw (ne_eqb x c (λ (e : x ≡ c). omega (arith, firm.2))) refl) (λ _. rw (ne_eqb x 10 firm.0) refl) b bytes utf8 (rw other refl) in
          rw (f.is, other, not-true (x == f.char) f.passes) refl
    ]

lower_other : (c : ℕ) → is_letter c ≡ false → lower c ≡ c
lower_other c h = grind (arith, nat_tests)

lower_letter : (c : ℕ) → is_letter c ≡ true → is_letter (lower c) ≡ true
lower_letter c h = grind (arith, nat_tests)

letter_of_lower : (x c : ℕ) → is_letter x ≡ true → (x == lower c) ≡ true → is_letter c ≡ true
letter_of_lower x c h e = elim (cases_Bool (is_letter c)) [
  | inl is ↦ is
  | inr other ↦ absurd (both_ways (is_letter x) (ap is_letter (eqb-true x (lower c) e ∙ lower_other c other) ∙ other) h)
]

not_lowered : (x c : ℕ) → is_letter x ≡ true → is_letter c ≡ false → (x == lower c) ≡ false
not_lowered x c h other = ne_eqb x (lower c) (λ (e : x ≡ lower c). both_ways (is_letter x) (ap is_letter (e ∙ lower_other c other) ∙ other) h)

small_letter : (c : ℕ) → is_letter c ≡ true → c < 128
small_letter c h = grind (arith, nat_tests)

no_return_letter : (c : ℕ) → is_letter c ≡ true → c ≢ 13
no_return_letter c h e = absurd (grind (arith, nat_tests))

lowered_stream : (w bytes : List ℕ) → list_all is_letter w ≡ true → IsUtf8 bytes → begins_ignore_case w (input bytes) ≡ begins_ignore_case w bytes
lowered_stream [] bytes h utf8 = refl
lowered_stream (x ∷ w) [] h utf8 = rw input-nil refl
lowered_stream (x ∷ w) (b ∷ bytes) h utf8 =
    let parts = and_parts (is_letter x) (list_all is_letter w) h in
    elim (cases_Bool (is_letter b)) [
      | inl is ↦
          let same : input (b ∷ bytes) ≡ b ∷ input bytes = input-cons b bytes (small_letter b is) (no_return_letter b is) in
          rw same (ap (λ (t : Bool). x == lower b && t) (lowered_stream w bytes parts.1 (utf8_tail b bytes (small_letter b is) utf8)))
      | inr other ↦
          let f = input-first (λ c. not (is_letter c)) (λ c big. grind (arith, nat_tests)) (λ _. refl) b bytes utf8 (rw other refl) in
          rw (f.is, not_lowered x b parts.0 other, not_lowered x f.char parts.0 (not-true (is_letter f.char) f.passes)) refl
    ]

begins_taken : (w cs : List ℕ) → begins_with w (map lower (take (length w) cs)) ≡ begins_ignore_case w cs
begins_taken [] cs = refl
begins_taken (x ∷ w) [] = refl
begins_taken (x ∷ w) (c ∷ cs) = ap (λ (t : Bool). x == lower c && t) (begins_taken w cs)

lowered_len : (w cs : List ℕ) → begins_ignore_case w cs ≡ true → length w ≤ length cs
lowered_len [] cs h = omega arith
lowered_len (x ∷ w) [] h = absurd cc
lowered_len (x ∷ w) (c ∷ cs) h = omega (arith, lowered_len w cs (and_parts (x == lower c) (begins_ignore_case w cs) h).1)

-- a text that begins with a word of letters
pub record Lettered (w bytes : List ℕ) : Type 0 where
  pub stream : input bytes ≡ take (length w) bytes ++ input (drop (length w) bytes)
  pub utf8 : IsUtf8 (drop (length w) bytes)

lettered : (w bytes : List ℕ) → list_all is_letter w ≡ true → begins_ignore_case w bytes ≡ true → IsUtf8 bytes → Lettered w bytes
lettered [] bytes h b utf8 = record { stream = refl; utf8 = utf8 }
lettered (x ∷ w) [] h b utf8 = absurd cc
lettered (x ∷ w) (d ∷ bytes) h b utf8 =
    let parts = and_parts (is_letter x) (list_all is_letter w) h in
    let begun = and_parts (x == lower d) (begins_ignore_case w bytes) b in
    let letter = letter_of_lower x d parts.0 begun.0 in
    let rest = lettered w bytes parts.1 begun.1 (utf8_tail d bytes (small_letter d letter) utf8) in
    record {
      stream = input-cons d bytes (small_letter d letter) (no_return_letter d letter) ∙ ap (λ (l : List ℕ). d ∷ l) rest.stream;
      utf8 = rest.utf8;
    }

-- ---- after `<!`

pub doctype_here : (t : List ℕ) → IsUtf8 t → begins_ignore_case (codes "doctype") t ≡ true → (read Markup 0 (input t) ≡ read DoctypeBody 0 (input (drop 7 t))) × IsUtf8 (drop 7 t)
doctype_here [] utf8 h = absurd (omega (arith, lowered_len (codes "doctype") [] h))
doctype_here (a ∷ []) utf8 h = absurd (omega (arith, lowered_len (codes "doctype") (a ∷ []) h))
doctype_here (a ∷ b ∷ []) utf8 h = absurd (omega (arith, lowered_len (codes "doctype") (a ∷ b ∷ []) h))
doctype_here (a ∷ b ∷ c ∷ []) utf8 h = absurd (omega (arith, lowered_len (codes "doctype") (a ∷ b ∷ c ∷ []) h))
doctype_here (a ∷ b ∷ c ∷ d ∷ []) utf8 h = absurd (omega (arith, lowered_len (codes "doctype") (a ∷ b ∷ c ∷ d ∷ []) h))
doctype_here (a ∷ b ∷ c ∷ d ∷ e ∷ []) utf8 h = absurd (omega (arith, lowered_len (codes "doctype") (a ∷ b ∷ c ∷ d ∷ e ∷ []) h))
doctype_here (a ∷ b ∷ c ∷ d ∷ e ∷ f ∷ []) utf8 h = absurd (omega (arith, lowered_len (codes "doctype") (a ∷ b ∷ c ∷ d ∷ e ∷ f ∷ []) h))
doctype_here (a ∷ b ∷ c ∷ d ∷ e ∷ f ∷ g ∷ u) utf8 h =
    let l = lettered (codes "doctype") (a ∷ b ∷ c ∷ d ∷ e ∷ f ∷ g ∷ u) refl h utf8 in
    let first : (100 == lower a) ≡ true = (and_parts (100 == lower a) (begins_ignore_case (codes "octype") (b ∷ c ∷ d ∷ e ∷ f ∷ g ∷ u)) h).0 in
    let letter : is_letter a ≡ true = letter_of_lower 100 a refl first in
    let no_hyphen : (45 == a) ≡ false = grind (arith, nat_tests) in
    (ap (read Markup 0) l.stream ∙ doctype_read a b c d e f g (input u) no_hyphen (begins_taken (codes "doctype") (a ∷ b ∷ c ∷ d ∷ e ∷ f ∷ g ∷ u) ∙ h), l.utf8)

pub comment_here : (t : List ℕ) → IsUtf8 t → begins_with (codes "--") t ≡ true → (read Markup 0 (input t) ≡ read (CommentStart []) 0 (input (drop 2 t))) × IsUtf8 (drop 2 t)
comment_here [] utf8 h = absurd cc
comment_here (a ∷ []) utf8 h = absurd (omega (arith, begins-len (codes "--") (a ∷ []) h))
comment_here (a ∷ b ∷ t) utf8 h =
    let parts = and_parts (45 == a) (begins_with (codes "-") (b ∷ t)) h in
    let more = and_parts (45 == b) true parts.1 in
    let x : a ≡ 45 = sym (eqb-true 45 a parts.0) in
    let y : b ≡ 45 = sym (eqb-true 45 b more.0) in
    let there = utf8_tail 45 t (omega arith) (utf8_tail 45 (45 ∷ t) (omega arith) (rw (x, y) at utf8)) in
    (rw (x, y, input-cons 45 (45 ∷ t) (omega arith) (λ (e : 45 ≡ 13). omega arith), input-cons 45 t (omega arith) (λ (e : 45 ≡ 13). omega arith)) (hyphens (input t)), there)

bogus_markup : (cs : List ℕ) → begins_with (codes "--") cs ≡ false → begins_ignore_case (codes "doctype") cs ≡ false → read Markup 0 cs ≡ read (Bogus []) 0 cs
bogus_markup [] h g = markup_nil
bogus_markup (c ∷ cs) h g = reconsumed Markup (Bogus []) [] c cs (bogus_markup_look c cs h (begins_taken (codes "doctype") (c ∷ cs) ∙ g))

pub bogus_here : (t : List ℕ) → IsUtf8 t → begins_with (codes "--") t ≡ false → begins_ignore_case (codes "doctype") t ≡ false → read Markup 0 (input t) ≡ read (Bogus []) 0 (input t)
bogus_here t utf8 h g = bogus_markup (input t) (begins_stream (codes "--") t refl utf8 ∙ h) (lowered_stream (codes "doctype") t refl utf8 ∙ g)

-- ---- what opens

pub record Opened (rest : List ℕ) (o : Opening) : Type 0 where
  pub utf8 : IsUtf8 (drop (opening_len o) rest)
  pub within : opening_len o ≤ length rest
  pub reads : read Data 0 (input rest) ≡ read (state_after_opening o) 0 (input (drop (opening_len o) rest))
  pub tag : OpensTag rest o

ascii : (b : ℕ) (bytes : List ℕ) → b < 128 → b ≢ 13 → input (b ∷ bytes) ≡ b ∷ input bytes
ascii b bytes small other = input-cons b bytes small other

less : (bytes : List ℕ) → input (60 ∷ bytes) ≡ 60 ∷ input bytes
less bytes = input-cons 60 bytes (omega arith) (λ (e : 60 ≡ 13). omega arith)

bang_in : (bytes : List ℕ) → read Data 0 (input (60 ∷ 33 ∷ bytes)) ≡ read Markup 0 (input bytes)
bang_in bytes = rw (less (33 ∷ bytes), input-cons 33 bytes (omega arith) (λ (e : 33 ≡ 13). omega arith)) (tag_open (33 ∷ input bytes) ∙ markup (input bytes))

solidus_in : (bytes : List ℕ) → read Data 0 (input (60 ∷ 47 ∷ bytes)) ≡ read EndTagOpen 0 (input bytes)
solidus_in bytes = rw (less (47 ∷ bytes), input-cons 47 bytes (omega arith) (λ (e : 47 ≡ 13). omega arith)) (tag_open (47 ∷ input bytes) ∙ end_tag_open (input bytes))

bang_opens : (t : List ℕ) → IsUtf8 t → Opened (60 ∷ 33 ∷ t) (opening_after_bang t)
bang_opens t utf8 = elim (cases_Bool (begins_with (codes "--") t)) [
  | inl is ↦
      let h = comment_here t utf8 is in
      rw is record { utf8 = h.1; within = omega (arith, begins-len (codes "--") t is); reads = bang_in t ∙ h.0; tag = tt }
  | inr other ↦ elim (cases_Bool (begins_ignore_case (codes "doctype") t)) [
    | inl is ↦
        let h = doctype_here t utf8 is in
        rw (other, is) record { utf8 = h.1; within = omega (arith, lowered_len (codes "doctype") t is); reads = bang_in t ∙ h.0; tag = tt }
    | inr neither ↦ rw (other, neither) record { utf8 = utf8; within = omega arith; reads = bang_in t ∙ bogus_here t utf8 other neither; tag = tt }
  ]
]

end_nil : read EndTagOpen 0 (input []) ≡ read EndTagOpen 0 []
end_nil = rw input-nil refl

end_opens : (c : ℕ) (t : List ℕ) → IsUtf8 (c ∷ t) → (c == 62) ≡ false → Opened (60 ∷ 47 ∷ c ∷ t) (opening_after_solidus (c ∷ t))
end_opens c t utf8 h = elim (cases_Bool (is_letter c)) [
  | inl is ↦
      let same : input (c ∷ t) ≡ c ∷ input t = input-cons c t (small_letter c is) (no_return_letter c is) in
      let there : read EndTagOpen 0 (input (c ∷ t)) ≡ read (TagName (new_tag true)) 0 (input (c ∷ t)) = rw same (reconsumed EndTagOpen (TagName (new_tag true)) [] c (input t) (end_look c (input t) is)) in
      rw is record { utf8 = utf8; within = omega arith; reads = solidus_in (c ∷ t) ∙ there; tag = is }
  | inr other ↦
      let f = input-first (λ x. not (is_letter x || x == 62)) (λ x big. grind (arith, nat_tests)) (λ _. refl) c t utf8 (rw (other, h) refl) in
      let p = f.passes in
      let no_letter : is_letter f.char ≡ false = grind (arith, nat_tests) in
      let no_end : (f.char == 62) ≡ false = grind (arith, nat_tests) in
      let there : read EndTagOpen 0 (input (c ∷ t)) ≡ read (Bogus []) 0 (input (c ∷ t)) = rw f.is (reconsumed EndTagOpen (Bogus []) [] f.char f.rest (bogus_end_look f.char f.rest no_letter no_end)) in
      rw other record { utf8 = utf8; within = omega arith; reads = solidus_in (c ∷ t) ∙ there; tag = tt }
]

question_opens : (t : List ℕ) → IsUtf8 (63 ∷ t) → Opened (60 ∷ 63 ∷ t) opening.Question
question_opens t utf8 =
    let same : input (63 ∷ t) ≡ 63 ∷ input t = input-cons 63 t (omega arith) (λ (e : 63 ≡ 13). omega arith) in
    record {
      utf8 = utf8;
      within = omega arith;
      reads = rw (less (63 ∷ t), same) (tag_open (63 ∷ input t) ∙ reconsumed TagOpen (Bogus []) [] 63 (input t) (question_look (input t)));
      tag = tt;
    }

start_opens : (c : ℕ) (t : List ℕ) → IsUtf8 (c ∷ t) → is_letter c ≡ true → Opened (60 ∷ c ∷ t) opening.StartTag
start_opens c t utf8 is =
    let same : input (c ∷ t) ≡ c ∷ input t = input-cons c t (small_letter c is) (no_return_letter c is) in
    record {
      utf8 = utf8;
      within = omega arith;
      reads = rw (less (c ∷ t), same) (tag_open (c ∷ input t) ∙ reconsumed TagOpen (TagName (new_tag false)) [] c (input t) (start_look c (input t) is));
      tag = is;
    }

solidus_opens : (t : List ℕ) → IsUtf8 t → opens_markup (60 ∷ 47 ∷ t) ≡ true → begins_empty_tag (60 ∷ 47 ∷ t) ≡ false → Opened (60 ∷ 47 ∷ t) (opening_after_solidus t)
solidus_opens [] utf8 h g = absurd cc
solidus_opens (c ∷ t) utf8 h g = end_opens c t utf8 g

only : (x : Bool) → (x || false || false || false) ≡ true → x ≡ true
only true h = refl
only false h = h

opened_two : (b : ℕ) (t : List ℕ) → IsUtf8 (b ∷ t) → opens_markup (60 ∷ b ∷ t) ≡ true → begins_empty_tag (60 ∷ b ∷ t) ≡ false → Opened (60 ∷ b ∷ t) (opening_of (60 ∷ b ∷ t))
opened_two b t utf8 h g = elim (cases_Bool (b == 33)) [
  | inl is ↦
      let e : b ≡ 33 = eqb-true b 33 is in
      rw e (bang_opens t (utf8_tail b t (omega (arith, e)) utf8))
  | inr bang ↦ elim (cases_Bool (b == 63)) [
    | inl is ↦
        let e : b ≡ 63 = eqb-true b 63 is in
        rw e (question_opens t (rw e at utf8))
    | inr question ↦ elim (cases_Bool (b == 47)) [
      | inl is ↦
          let e : b ≡ 47 = eqb-true b 47 is in
          rw e (solidus_opens t (utf8_tail b t (omega (arith, e)) utf8) (subst (λ (x : ℕ). opens_markup (60 ∷ x ∷ t) ≡ true) e h) (subst (λ (x : ℕ). begins_empty_tag (60 ∷ x ∷ t) ≡ false) e g))
      | inr solidus ↦
          let letter : is_letter b ≡ true = only (is_letter b) (rw (bang, question, solidus) at h) in
          rw (bang, question, solidus) (start_opens b t utf8 letter)
    ]
  ]
]

-- nothing but markup, which `</>` is not
pub opened_by : (rest : List ℕ) → IsUtf8 rest → opens_markup rest ≡ true → begins_empty_tag rest ≡ false → Opened rest (opening_of rest)
opened_by [] utf8 h g = absurd cc
opened_by (a ∷ []) utf8 h g = absurd cc
opened_by (a ∷ b ∷ t) utf8 h g =
    let e : a ≡ 60 = eqb-true a 60 (and_parts (a == 60) _ h).0 in
    rw e (opened_two b t (utf8_tail 60 (b ∷ t) (omega arith) (rw e at utf8)) (subst (λ (x : ℕ). opens_markup (x ∷ b ∷ t) ≡ true) e h) (subst (λ (x : ℕ). begins_empty_tag (x ∷ b ∷ t) ≡ false) e g))

pub opened_boundary : (rest : List ℕ) (o : Opening) → Opened rest o → IsCharBoundary rest (opening_len o)
opened_boundary rest o h = IsCharBoundary-from_drop rest (opening_len o) h.within h.utf8

-- `</>` gives nothing
pub record Empty (rest : List ℕ) : Type 0 where
  pub reads : read Data 0 (input rest) ≡ read Data 0 (input (drop 3 rest))
  pub utf8 : IsUtf8 (drop 3 rest)
  pub within : 3 ≤ length rest

empty_three : (t : List ℕ) → IsUtf8 (60 ∷ 47 ∷ 62 ∷ t) → Empty (60 ∷ 47 ∷ 62 ∷ t)
empty_three t utf8 = record {
  reads = solidus_in (62 ∷ t) ∙ (rw (input-cons 62 t (omega arith) (λ (e : 62 ≡ 13). omega arith)) (nothing (input t)));
  utf8 = utf8_tail 62 t (omega arith) (utf8_tail 47 (62 ∷ t) (omega arith) (utf8_tail 60 (47 ∷ 62 ∷ t) (omega arith) utf8));
  within = omega arith;
}

pub empty_here : (rest : List ℕ) → IsUtf8 rest → begins_empty_tag rest ≡ true → Empty rest
empty_here [] utf8 h = absurd cc
empty_here (a ∷ []) utf8 h = absurd cc
empty_here (a ∷ b ∷ []) utf8 h = absurd cc
empty_here (a ∷ b ∷ c ∷ t) utf8 h =
    let first = and_parts (a == 60 && b == 47) (c == 62) h in
    let second = and_parts (a == 60) (b == 47) first.0 in
    let x : a ≡ 60 = eqb-true a 60 second.0 in
    let y : b ≡ 47 = eqb-true b 47 second.1 in
    let z : c ≡ 62 = eqb-true c 62 first.1 in
    rw (x, y, z) (empty_three t (rw (x, y, z) at utf8))

pub empty_next : (rest : List ℕ) (at : ℕ) → IsUtf8 rest → IsCharBoundary rest at → begins_empty_tag (drop at rest) ≡ true → read Data 0 (input rest) ≡ read Data 0 (input (drop at rest))
    → IsCharBoundary rest (at + 3) × (read Data 0 (input rest) ≡ read Data 0 (input (drop (at + 3) rest)))
empty_next rest at utf8 cut h before =
    let e = empty_here (drop at rest) (IsUtf8-drop rest at utf8 cut) h in (
      IsCharBoundary-from_drop rest (at + 3) (omega (arith, e.within, length-drop at rest)) (subst IsUtf8 (drop-drop 3 at rest) e.utf8),
      before ∙ e.reads ∙ ap (λ (l : List ℕ). read Data 0 (input l)) (drop-drop 3 at rest),
    )

-- a start tag, an end tag
pub start_opens_at : (rest : List ℕ) → IsUtf8 rest → opens_start rest ≡ true → Opened rest opening.StartTag
start_opens_at [] utf8 h = absurd cc
start_opens_at (a ∷ []) utf8 h = absurd cc
start_opens_at (a ∷ b ∷ t) utf8 h =
    let parts = and_parts (a == 60) (is_letter b) h in
    let e : a ≡ 60 = eqb-true a 60 parts.0 in
    rw e (start_opens b t (utf8_tail 60 (b ∷ t) (omega arith) (rw e at utf8)) parts.1)

letter_opens : (c : ℕ) (t : List ℕ) → IsUtf8 (c ∷ t) → is_letter c ≡ true → Opened (60 ∷ 47 ∷ c ∷ t) opening.EndTag
letter_opens c t utf8 is =
    let same : input (c ∷ t) ≡ c ∷ input t = input-cons c t (small_letter c is) (no_return_letter c is) in
    let there : read EndTagOpen 0 (input (c ∷ t)) ≡ read (TagName (new_tag true)) 0 (input (c ∷ t)) = rw same (reconsumed EndTagOpen (TagName (new_tag true)) [] c (input t) (end_look c (input t) is)) in
    record { utf8 = utf8; within = omega arith; reads = solidus_in (c ∷ t) ∙ there; tag = is }

pub end_opens_at : (rest : List ℕ) → IsUtf8 rest → opens_end rest ≡ true → Opened rest opening.EndTag
end_opens_at [] utf8 h = absurd cc
end_opens_at (a ∷ []) utf8 h = absurd cc
end_opens_at (a ∷ b ∷ []) utf8 h = absurd cc
end_opens_at (a ∷ b ∷ c ∷ t) utf8 h =
    let parts = and_parts (a == 60 && b == 47) (is_letter c) h in
    let first = and_parts (a == 60) (b == 47) parts.0 in
    let x : a ≡ 60 = eqb-true a 60 first.0 in
    let y : b ≡ 47 = eqb-true b 47 first.1 in
    rw (x, y) (letter_opens c t (utf8_tail 47 (c ∷ t) (omega arith) (utf8_tail 60 (47 ∷ c ∷ t) (omega arith) (rw (x, y) at utf8))) parts.1)
