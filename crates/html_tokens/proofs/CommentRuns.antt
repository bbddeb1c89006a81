-- Comments and DOCTYPEs.
use Rattle.std.proofs.Common.{◌≡◌, ◌≢◌, ℕ, ◌+◌, ◌<◌, ◌≤◌, Bool, true, false, not, ◌||◌, ◌==◌, List, [], ◌∷◌, ◌++◌, length, map, take, drop, refl, sym, ap, subst, ◌∙◌, append_assoc, arith, inl, inr, IsUtf8, IsCharBoundary}
use Rattle.std.proofs.lemmas.Bool.{cases_Bool, eqb-true}
use Rattle.std.proofs.lemmas.Bool.Decides.{nat_tests}
use Rattle.std.specs.List.{list_all}
use Rattle.html_syntax.specs.Token.{Token}
use Rattle.html_syntax.specs.Token.Token.{Comment, Doctype}
use Rattle.html_syntax.specs.States.{replace_null}
use Rattle.html_syntax.specs.States.State.{Data, Bogus, CommentStart, CommentStartDash, CommentBody, CommentEndDash, CommentEnd, CommentEndBang, DoctypeBody}
use Rattle.html_syntax.specs.Tokenizer.{look, look_again, step, read, tokens_at_end}
use Rattle.html_references.specs.Input.{input}
use Rattle.html_tokens.specs.Cuts.{LacksByte, BeginsWithByte, IsCutAt}
use Rattle.html_tokens.specs.Closings.{closing_len_after_hyphens, closing_len, abrupt_len}
use Rattle.html_tokens.proofs.Runs.{Reader, reconsumed, run}
use Rattle.html_tokens.proofs.Marks.{Marks, begins_marked}
use Rattle.std.proofs.lemmas.List.{map-append, drop-drop, length-drop}
use Rattle.std.proofs.lemmas.Str.{IsUtf8-take, IsUtf8-drop, IsCharBoundary-from_drop}
use Rattle.html_references.proofs.Stretches.{First, input-first, input-cons, input-nil, input-cut, input-append, all-input, IsMarked, utf8_tail}

-- ---- a hyphen in a comment

body_dash : (k text : List ℕ) → read (CommentBody k) 0 (45 ∷ text) ≡ read (CommentEndDash k) 0 text
unfolding read step look_again look
body_dash k text = refl

dash_dash : (k text : List ℕ) → read (CommentEndDash k) 0 (45 ∷ text) ≡ read (CommentEnd k) 0 text
unfolding read step look_again look
dash_dash k text = refl

dash_other : (k : List ℕ) (c : ℕ) (text : List ℕ) → (c == 45) ≡ false → read (CommentEndDash k) 0 (c ∷ text) ≡ read (CommentBody (k ++ 45 ∷ [])) 0 (c ∷ text)
unfolding look
dash_other k c text h = reconsumed (CommentEndDash k) (CommentBody (k ++ 45 ∷ [])) [] c text (rw h refl)

end_dash : (k text : List ℕ) → read (CommentEnd k) 0 (45 ∷ text) ≡ read (CommentEnd (k ++ 45 ∷ [])) 0 text
unfolding read step look_again look
end_dash k text = refl

end_bang : (k text : List ℕ) → read (CommentEnd k) 0 (33 ∷ text) ≡ read (CommentEndBang k) 0 text
unfolding read step look_again look
end_bang k text = refl

pub end_close : (k text : List ℕ) → read (CommentEnd k) 0 (62 ∷ text) ≡ Comment k ∷ read Data 0 text
unfolding read step look_again look
end_close k text = refl

pub bang_close : (k text : List ℕ) → read (CommentEndBang k) 0 (62 ∷ text) ≡ Comment k ∷ read Data 0 text
unfolding read step look_again look
bang_close k text = refl

bang_dash : (k text : List ℕ) → read (CommentEndBang k) 0 (45 ∷ text) ≡ read (CommentEndDash (k ++ 45 ∷ 45 ∷ 33 ∷ [])) 0 text
unfolding read step look_again look
bang_dash k text = refl

bang_other : (k : List ℕ) (c : ℕ) (text : List ℕ) → (c == 45) ≡ false → (c == 62) ≡ false → read (CommentEndBang k) 0 (c ∷ text) ≡ read (CommentBody (k ++ 45 ∷ 45 ∷ 33 ∷ [])) 0 (c ∷ text)
unfolding look
bang_other k c text h g = reconsumed (CommentEndBang k) (CommentBody (k ++ 45 ∷ 45 ∷ 33 ∷ [])) [] c text (rw (h, g) refl)

end_other : (k : List ℕ) (c : ℕ) (text : List ℕ) → (c == 45) ≡ false → (c == 62) ≡ false → (c == 33) ≡ false → read (CommentEnd k) 0 (c ∷ text) ≡ read (CommentBody (k ++ 45 ∷ 45 ∷ [])) 0 (c ∷ text)
unfolding look
end_other k c text h g f = reconsumed (CommentEnd k) (CommentBody (k ++ 45 ∷ 45 ∷ [])) [] c text (rw (h, g, f) refl)

body_bang : (k text : List ℕ) → read (CommentBody k) 0 (33 ∷ text) ≡ read (CommentBody (k ++ 33 ∷ [])) 0 text
unfolding read step look_again look
body_bang k text = refl

-- ---- bytes and characters

input-ascii : (b : ℕ) (bytes : List ℕ) → b < 128 → b ≢ 13 → input (b ∷ bytes) ≡ b ∷ input bytes
input-ascii b bytes small other = input-cons b bytes small other

hyphen : (bytes : List ℕ) → input (45 ∷ bytes) ≡ 45 ∷ input bytes
hyphen bytes = input-cons 45 bytes (omega arith) (λ (e : 45 ≡ 13). omega arith)

bang : (bytes : List ℕ) → input (33 ∷ bytes) ≡ 33 ∷ input bytes
bang bytes = input-cons 33 bytes (omega arith) (λ (e : 33 ≡ 13). omega arith)

greater : (bytes : List ℕ) → input (62 ∷ bytes) ≡ 62 ∷ input bytes
greater bytes = input-cons 62 bytes (omega arith) (λ (e : 62 ≡ 13). omega arith)

-- none of the three
abbrev is_other : ℕ → Bool
is_other c = not (c == 45 || c == 62 || c == 33)

other_first : (b : ℕ) (bytes : List ℕ) → IsUtf8 (b ∷ bytes) → is_other b ≡ true → First (b ∷ bytes) is_other
other_first b bytes utf8 h = input-first is_other (λ c big. grind (arith, nat_tests)) (λ _. refl) b bytes utf8 h

-- not a hyphen
abbrev is_undashed : ℕ → Bool
is_undashed c = not (c == 45)

undashed_first : (b : ℕ) (bytes : List ℕ) → IsUtf8 (b ∷ bytes) → is_undashed b ≡ true → First (b ∷ bytes) is_undashed
undashed_first b bytes utf8 h = input-first is_undashed (λ c big. grind (arith, nat_tests)) (λ _. refl) b bytes utf8 h

-- not a >
abbrev is_unclosed : ℕ → Bool
is_unclosed c = not (c == 62)

unclosed_first : (b : ℕ) (bytes : List ℕ) → IsUtf8 (b ∷ bytes) → is_unclosed b ≡ true → First (b ∷ bytes) is_unclosed
unclosed_first b bytes utf8 h = input-first is_unclosed (λ c big. grind (arith, nat_tests)) (λ _. refl) b bytes utf8 h

-- ---- a hyphen that ends nothing is of the comment

-- after `--!`, if no `>` follows
banged : (k : List ℕ) (b : ℕ) (bytes : List ℕ) → IsUtf8 (b ∷ bytes) → (b == 62) ≡ false
    → read (CommentEndBang k) 0 (input (b ∷ bytes)) ≡ read (CommentBody (k ++ 45 ∷ 45 ∷ 33 ∷ [])) 0 (input (b ∷ bytes))
banged k b bytes utf8 h =
    let f = unclosed_first b bytes utf8 (grind (arith, nat_tests)) in
    let unended_here : (f.char == 62) ≡ false = (let p = f.passes in grind (arith, nat_tests)) in
    rw f.is (elim (cases_Bool (f.char == 45)) [
      | inl is ↦
          let e : f.char ≡ 45 = eqb-true f.char 45 is in
          rw e (bang_dash k f.rest ∙ sym (body_dash (k ++ 45 ∷ 45 ∷ 33 ∷ []) f.rest))
      | inr other ↦ bang_other k f.char f.rest other unended_here
    ])

-- after `--`
dashed : (k : List ℕ) (b : ℕ) (bytes : List ℕ) → IsUtf8 (b ∷ bytes) → closing_len_after_hyphens (b ∷ bytes) ≡ 0
    → read (CommentEnd k) 0 (input (b ∷ bytes)) ≡ read (CommentEndDash (k ++ 45 ∷ [])) 0 (input (b ∷ bytes))
dashed k b bytes utf8 h = elim (cases_Bool (b == 45)) [
  | inl dash ↦
      let e : b ≡ 45 = eqb-true b 45 dash in
      rw (e, hyphen bytes) (end_dash k (input bytes) ∙ sym (dash_dash (k ++ 45 ∷ []) (input bytes)))
  | inr undashed ↦ elim (cases_Bool (b == 33)) [
    | inl is ↦
        let e : b ≡ 33 = eqb-true b 33 is in
        banging bytes e (utf8_tail b bytes (omega (arith, e)) utf8) h
    | inr unbanged ↦
        let unended_here : (b == 62) ≡ false = unended bytes h in
        let f = other_first b bytes utf8 (rw (undashed, unbanged, unended_here) refl) in
        let p = f.passes in
        let x : (f.char == 45) ≡ false = grind (arith, nat_tests) in
        let y : (f.char == 62) ≡ false = grind (arith, nat_tests) in
        let z : (f.char == 33) ≡ false = grind (arith, nat_tests) in
        rw f.is (end_other k f.char f.rest x y z ∙ ap (λ (l : List ℕ). read (CommentBody l) 0 (f.char ∷ f.rest)) (sym (append_assoc k (45 ∷ []) (45 ∷ []))) ∙ sym (dash_other (k ++ 45 ∷ []) f.char f.rest x))
  ]
]
  where
    unended : (bytes : List ℕ) → closing_len_after_hyphens (b ∷ bytes) ≡ 0 → (b == 62) ≡ false
    unended [] h = grind (arith, nat_tests)
    unended (d ∷ bytes) h = grind (arith, nat_tests)

    more : (bytes : List ℕ) → read (CommentEndDash (k ++ 45 ∷ [])) 0 (33 ∷ input bytes) ≡ read (CommentBody (k ++ 45 ∷ 45 ∷ 33 ∷ [])) 0 (input bytes)
    more bytes =
        dash_other (k ++ 45 ∷ []) 33 (input bytes) refl
        ∙ body_bang (k ++ 45 ∷ [] ++ 45 ∷ []) (input bytes)
        ∙ ap (λ (l : List ℕ). read (CommentBody l) 0 (input bytes)) (append_assoc (k ++ 45 ∷ []) (45 ∷ []) (33 ∷ []) ∙ append_assoc k (45 ∷ []) (45 ∷ 33 ∷ []))

    banging : (bytes : List ℕ) → b ≡ 33 → IsUtf8 bytes → closing_len_after_hyphens (b ∷ bytes) ≡ 0 → read (CommentEnd k) 0 (input (b ∷ bytes)) ≡ read (CommentEndDash (k ++ 45 ∷ [])) 0 (input (b ∷ bytes))
    banging [] e utf8 h = absurd (grind (arith, nat_tests))
    banging (d ∷ bytes) e utf8 h =
        let unended_here : (d == 62) ≡ false = grind (arith, nat_tests) in
        rw (e, bang (d ∷ bytes)) (end_bang k (input (d ∷ bytes)) ∙ banged k d bytes utf8 unended_here ∙ sym (more (d ∷ bytes)))

pub dash_kept : (k bytes : List ℕ) → IsUtf8 bytes → closing_len (45 ∷ bytes) ≡ 0 → read (CommentBody k) 0 (input (45 ∷ bytes)) ≡ read (CommentBody (k ++ 45 ∷ [])) 0 (input bytes)
dash_kept k [] utf8 h = absurd cc
dash_kept k (b ∷ bytes) utf8 h = rw (hyphen (b ∷ bytes)) (body_dash k (input (b ∷ bytes)) ∙ (elim (cases_Bool (b == 45)) [
  | inl dash ↦
      let e : b ≡ 45 = eqb-true b 45 dash in
      second bytes e (utf8_tail b bytes (omega (arith, e)) utf8) h
  | inr other ↦
      let f = undashed_first b bytes utf8 (rw other refl) in
      let p = f.passes in
      let x : (f.char == 45) ≡ false = grind (arith, nat_tests) in
      rw f.is (dash_other k f.char f.rest x)
]))
  where
    second : (bytes : List ℕ) → b ≡ 45 → IsUtf8 bytes → closing_len (45 ∷ b ∷ bytes) ≡ 0 → read (CommentEndDash k) 0 (input (b ∷ bytes)) ≡ read (CommentBody (k ++ 45 ∷ [])) 0 (input (b ∷ bytes))
    second [] e utf8 h = absurd (grind (arith, nat_tests))
    second (d ∷ bytes) e utf8 h =
        let g : closing_len_after_hyphens (d ∷ bytes) ≡ 0 = (rw e at h) in
        rw (e, hyphen (d ∷ bytes)) (dash_dash k (input (d ∷ bytes)) ∙ dashed k d bytes utf8 g ∙ sym (body_dash (k ++ 45 ∷ []) (input (d ∷ bytes))))

-- ---- stretches of a comment

body_keeps : (kept : List ℕ) (c : ℕ) (text : List ℕ) → is_undashed c ≡ true → read (CommentBody kept) 0 (c ∷ text) ≡ read (CommentBody (kept ++ replace_null c ∷ [])) 0 text
unfolding read step look_again look
body_keeps kept c text h =
    let other : (c == 45) ≡ false = grind (arith, nat_tests) in
    rw other refl

abbrev pub body : Reader
body kept passing text = read (CommentBody kept) passing text

body_piece : (kept xs ys : List ℕ) → IsUtf8 xs → LacksByte 45 xs → BeginsWithByte 45 ys → body kept 0 (input (xs ++ ys)) ≡ body (kept ++ map replace_null (input xs)) 0 (input ys)
body_piece kept xs ys utf8 lacks begins =
    ap (body kept 0) (input-append xs ys utf8 (begins_marked 45 (omega arith) (λ (e : 45 ≡ 10). omega arith) ys begins))
    ∙ run body is_undashed replace_null body_keeps kept (input xs) (input ys) (all-input is_undashed (λ c big. grind (arith, nat_tests)) (λ _. refl) xs utf8 lacks)

-- a hyphen that continues the comment
abbrev pub GoesOn : List ℕ → Type 0
GoesOn text = closing_len text ≡ 0

body_joins : (xs ys : List ℕ) → map replace_null (xs ++ 45 ∷ ys) ≡ map replace_null xs ++ 45 ∷ map replace_null ys
body_joins xs ys = map-append replace_null xs (45 ∷ ys)

pub body_marks : Marks body 45 (map replace_null) GoesOn
body_marks = record {
  small = omega arith;
  no_feed = λ (e : 45 ≡ 10). omega arith;
  no_return = λ (e : 45 ≡ 13). omega arith;
  piece = body_piece;
  here = dash_kept;
  joins = body_joins;
}

-- ---- the end of a comment

body_nil : (k : List ℕ) → read (CommentBody k) 0 [] ≡ Comment k ∷ []
unfolding read tokens_at_end
body_nil k = refl

endings : (k : List ℕ) → (read (CommentEndDash k) 0 [] ≡ Comment k ∷ []) × (read (CommentEnd k) 0 [] ≡ Comment k ∷ []) × (read (CommentEndBang k) 0 [] ≡ Comment k ∷ [])
unfolding read tokens_at_end
endings k = (refl, refl, refl)

data_nil : read Data 0 [] ≡ []
unfolding read tokens_at_end
data_nil = refl

-- The rest of a text after its first characters.
abbrev Closes : List ℕ → List ℕ → ℕ → Type 0
Closes k text n = read (CommentBody k) 0 (input text) ≡ Comment k ∷ read Data 0 (input (drop n text))

closes_dash : (k : List ℕ) → Closes k (45 ∷ []) 1
closes_dash k = rw (hyphen [], input-nil, data_nil) (body_dash k [] ∙ (endings k).0)

closes_dashes : (k : List ℕ) → Closes k (45 ∷ 45 ∷ []) 2
closes_dashes k = rw (hyphen (45 ∷ []), hyphen [], input-nil, data_nil) (body_dash k (45 ∷ []) ∙ dash_dash k [] ∙ (endings k).1)

closes_bang : (k : List ℕ) → Closes k (45 ∷ 45 ∷ 33 ∷ []) 3
closes_bang k =
    rw (hyphen (45 ∷ 33 ∷ []), hyphen (33 ∷ []), bang [], input-nil, data_nil) (body_dash k (45 ∷ 33 ∷ []) ∙ dash_dash k (33 ∷ []) ∙ end_bang k [] ∙ (endings k).2)

closes_greater : (k text : List ℕ) → Closes k (45 ∷ 45 ∷ 62 ∷ text) 3
closes_greater k text =
    rw (hyphen (45 ∷ 62 ∷ text), hyphen (62 ∷ text), greater text) (body_dash k (45 ∷ 62 ∷ input text) ∙ dash_dash k (62 ∷ input text) ∙ end_close k (input text))

closes_bang_greater : (k text : List ℕ) → Closes k (45 ∷ 45 ∷ 33 ∷ 62 ∷ text) 4
closes_bang_greater k text =
    rw (hyphen (45 ∷ 33 ∷ 62 ∷ text), hyphen (33 ∷ 62 ∷ text), bang (62 ∷ text), greater text)
    (body_dash k (45 ∷ 33 ∷ 62 ∷ input text) ∙ dash_dash k (33 ∷ 62 ∷ input text) ∙ end_bang k (62 ∷ input text) ∙ bang_close k (input text))

pub record Closed (k text : List ℕ) (n : ℕ) : Type 0 where
  pub closes : Closes k text n
  pub utf8 : IsUtf8 (drop n text)
  pub within : n ≤ length text

hyphens : (c d : ℕ) (text : List ℕ) → 0 < closing_len (c ∷ d ∷ text) → (c ≡ 45) × (d ≡ 45)
hyphens c d text some = elim (cases_Bool (c == 45)) [
  | inl first ↦ elim (cases_Bool (d == 45)) [
    | inl second ↦ (eqb-true c 45 first, eqb-true d 45 second)
    | inr other ↦ absurd (omega (arith, (rw (first, other) at some)))
  ]
  | inr other ↦ absurd (omega (arith, (rw other at some)))
]

past : (b : ℕ) (text : List ℕ) → b < 128 → IsUtf8 (b ∷ text) → IsUtf8 text
past b text small utf8 = utf8_tail b text small utf8

closed_three : (k : List ℕ) (e : ℕ) → IsUtf8 (45 ∷ 45 ∷ e ∷ []) → 0 < closing_len_after_hyphens (e ∷ []) → Closed k (45 ∷ 45 ∷ e ∷ []) (closing_len_after_hyphens (e ∷ []))
closed_three k e utf8 some = elim (cases_Bool (e == 62)) [
  | inl close ↦
      let is : e ≡ 62 = eqb-true e 62 close in
      rw is record { closes = closes_greater k []; utf8 = past 62 [] (omega arith) (past 45 (62 ∷ []) (omega arith) (past 45 (45 ∷ 62 ∷ []) (omega arith) (rw is at utf8))); within = omega arith }
  | inr other ↦ elim (cases_Bool (e == 33)) [
    | inl close ↦
        let is : e ≡ 33 = eqb-true e 33 close in
        rw is record { closes = closes_bang k; utf8 = past 33 [] (omega arith) (past 45 (33 ∷ []) (omega arith) (past 45 (45 ∷ 33 ∷ []) (omega arith) (rw is at utf8))); within = omega arith }
    | inr neither ↦ absurd (omega (arith, (rw (other, neither) at some)))
  ]
]

closed_four : (k : List ℕ) (e f : ℕ) (text : List ℕ) → IsUtf8 (45 ∷ 45 ∷ e ∷ f ∷ text) → 0 < closing_len_after_hyphens (e ∷ f ∷ text) → Closed k (45 ∷ 45 ∷ e ∷ f ∷ text) (closing_len_after_hyphens (e ∷ f ∷ text))
closed_four k e f text utf8 some = elim (cases_Bool (e == 62)) [
  | inl close ↦
      let is : e ≡ 62 = eqb-true e 62 close in
      rw is record { closes = closes_greater k (f ∷ text); utf8 = past 62 (f ∷ text) (omega arith) (past 45 (62 ∷ f ∷ text) (omega arith) (past 45 (45 ∷ 62 ∷ f ∷ text) (omega arith) (rw is at utf8))); within = omega arith }
  | inr other ↦ elim (cases_Bool (e == 33)) [
    | inl bang_here ↦ elim (cases_Bool (f == 62)) [
      | inl close ↦
          let is : e ≡ 33 = eqb-true e 33 bang_here in
          let then_is : f ≡ 62 = eqb-true f 62 close in
          rw (is, then_is) record {
            closes = closes_bang_greater k text;
            utf8 = past 62 text (omega arith) (past 33 (62 ∷ text) (omega arith) (past 45 (33 ∷ 62 ∷ text) (omega arith) (past 45 (45 ∷ 33 ∷ 62 ∷ text) (omega arith) (rw (is, then_is) at utf8))));
            within = omega arith;
          }
      | inr none ↦ absurd (omega (arith, (rw (other, bang_here, none) at some)))
    ]
    | inr neither ↦ absurd (omega (arith, (rw (other, neither) at some)))
  ]
]

-- the characters that `closing` counts end the comment
pub closed : (k text : List ℕ) → IsUtf8 text → (0 < length text → 0 < closing_len text) → Closed k text (closing_len text)
closed k [] utf8 some = record { closes = rw (input-nil, data_nil) (body_nil k); utf8 = utf8; within = omega arith }
closed k (c ∷ []) utf8 some = elim (cases_Bool (c == 45)) [
  | inl dash ↦
      let is : c ≡ 45 = eqb-true c 45 dash in
      rw is record { closes = closes_dash k; utf8 = past 45 [] (omega arith) (rw is at utf8); within = omega arith }
  | inr other ↦ absurd (omega (arith, (rw other at (some (omega arith)))))
]
closed k (c ∷ d ∷ []) utf8 some =
    let both = hyphens c d [] (some (omega arith)) in
    rw (both.0, both.1) record { closes = closes_dashes k; utf8 = past 45 [] (omega arith) (past 45 (45 ∷ []) (omega arith) (rw (both.0, both.1) at utf8)); within = omega arith }
closed k (c ∷ d ∷ e ∷ []) utf8 some =
    let both = hyphens c d (e ∷ []) (some (omega arith)) in
    rw (both.0, both.1) (closed_three k e (rw (both.0, both.1) at utf8) (rw (both.0, both.1) at (some (omega arith))))
closed k (c ∷ d ∷ e ∷ f ∷ text) utf8 some =
    let both = hyphens c d (e ∷ f ∷ text) (some (omega arith)) in
    rw (both.0, both.1) (closed_four k e f text (rw (both.0, both.1) at utf8) (rw (both.0, both.1) at (some (omega arith))))

-- ---- the beginning of a comment

start_close : (k text : List ℕ) → read (CommentStart k) 0 (62 ∷ text) ≡ Comment k ∷ read Data 0 text
unfolding read step look_again look
start_close k text = refl

start_dash : (k text : List ℕ) → read (CommentStart k) 0 (45 ∷ text) ≡ read (CommentStartDash k) 0 text
unfolding read step look_again look
start_dash k text = refl

dash_close : (k text : List ℕ) → read (CommentStartDash k) 0 (62 ∷ text) ≡ Comment k ∷ read Data 0 text
unfolding read step look_again look
dash_close k text = refl

start_dash_dash : (k text : List ℕ) → read (CommentStartDash k) 0 (45 ∷ text) ≡ read (CommentEnd k) 0 text
unfolding read step look_again look
start_dash_dash k text = refl

start_nil : (k : List ℕ) → read (CommentStart k) 0 [] ≡ read (CommentBody k) 0 []
unfolding read tokens_at_end
start_nil k = refl

start_dash_nil : (k : List ℕ) → read (CommentStartDash k) 0 [] ≡ read (CommentEndDash k) 0 []
unfolding read tokens_at_end
start_dash_nil k = refl

start_other : (k : List ℕ) (c : ℕ) (text : List ℕ) → (c == 45) ≡ false → (c == 62) ≡ false → read (CommentStart k) 0 (c ∷ text) ≡ read (CommentBody k) 0 (c ∷ text)
unfolding look
start_other k c text h g = reconsumed (CommentStart k) (CommentBody k) [] c text (rw (h, g) refl)

start_dash_other : (k : List ℕ) (c : ℕ) (text : List ℕ) → (c == 45) ≡ false → (c == 62) ≡ false → read (CommentStartDash k) 0 (c ∷ text) ≡ read (CommentBody (k ++ 45 ∷ [])) 0 (c ∷ text)
unfolding look
start_dash_other k c text h g = reconsumed (CommentStartDash k) (CommentBody (k ++ 45 ∷ [])) [] c text (rw (h, g) refl)

-- neither a hyphen nor a >
abbrev is_middle : ℕ → Bool
is_middle c = not (c == 45 || c == 62)

begun_other : (k : List ℕ) (b : ℕ) (text : List ℕ) → IsUtf8 (b ∷ text) → (b == 45) ≡ false → (b == 62) ≡ false → read (CommentStart k) 0 (input (b ∷ text)) ≡ read (CommentBody k) 0 (input (b ∷ text))
begun_other k b text utf8 x y =
    let f = input-first is_middle (λ c big. grind (arith, nat_tests)) (λ _. refl) b text utf8 (rw (x, y) refl) in
    let p = f.passes in
    let v : (f.char == 45) ≡ false = grind (arith, nat_tests) in
    let w : (f.char == 62) ≡ false = grind (arith, nat_tests) in
    rw f.is (start_other k f.char f.rest v w)

begun_dash : (k : List ℕ) (d : ℕ) (text : List ℕ) → IsUtf8 (d ∷ text) → (d == 62) ≡ false → read (CommentStartDash k) 0 (input (d ∷ text)) ≡ read (CommentEndDash k) 0 (input (d ∷ text))
begun_dash k d text utf8 h =
    let f = unclosed_first d text utf8 (rw h refl) in
    let p = f.passes in
    let w : (f.char == 62) ≡ false = grind (arith, nat_tests) in
    rw f.is (elim (cases_Bool (f.char == 45)) [
      | inl is ↦
          let e : f.char ≡ 45 = eqb-true f.char 45 is in
          rw e (start_dash_dash k f.rest ∙ sym (dash_dash k f.rest))
      | inr other ↦ start_dash_other k f.char f.rest other w ∙ sym (dash_other k f.char f.rest other)
    ])

-- a comment that does not end right at its beginning
pub begun : (k text : List ℕ) → IsUtf8 text → abrupt_len text ≡ 0 → read (CommentStart k) 0 (input text) ≡ read (CommentBody k) 0 (input text)
begun k [] utf8 h = rw input-nil (start_nil k)
begun k (b ∷ []) utf8 h =
    let unclosed : (b == 62) ≡ false = grind (arith, nat_tests) in
    elim (cases_Bool (b == 45)) [
      | inl is ↦
          let e : b ≡ 45 = eqb-true b 45 is in
          rw (e, hyphen [], input-nil) (start_dash k [] ∙ start_dash_nil k ∙ sym (body_dash k []))
      | inr other ↦ begun_other k b [] utf8 other unclosed
    ]
begun k (b ∷ d ∷ text) utf8 h =
    let unclosed : (b == 62) ≡ false = grind (arith, nat_tests) in
    elim (cases_Bool (b == 45)) [
      | inl is ↦
          let e : b ≡ 45 = eqb-true b 45 is in
          let next : (d == 62) ≡ false = grind (arith, nat_tests) in
          rw (e, hyphen (d ∷ text)) (start_dash k (input (d ∷ text)) ∙ begun_dash k d text (utf8_tail b (d ∷ text) (omega (arith, e)) utf8) next ∙ sym (body_dash k (input (d ∷ text))))
      | inr other ↦ begun_other k b (d ∷ text) utf8 other unclosed
    ]

-- one that does
pub record Abrupt (k text : List ℕ) (n : ℕ) : Type 0 where
  pub closes : read (CommentStart k) 0 (input text) ≡ Comment k ∷ read Data 0 (input (drop n text))
  pub utf8 : IsUtf8 (drop n text)
  pub within : n ≤ length text

abrupt_greater : (k text : List ℕ) → IsUtf8 (62 ∷ text) → Abrupt k (62 ∷ text) 1
abrupt_greater k text utf8 = record { closes = rw (greater text) (start_close k (input text)); utf8 = past 62 text (omega arith) utf8; within = omega arith }

abrupt_dash : (k text : List ℕ) → IsUtf8 (45 ∷ 62 ∷ text) → Abrupt k (45 ∷ 62 ∷ text) 2
abrupt_dash k text utf8 = record {
  closes = rw (hyphen (62 ∷ text), greater text) (start_dash k (62 ∷ input text) ∙ dash_close k (input text));
  utf8 = past 62 text (omega arith) (past 45 (62 ∷ text) (omega arith) utf8);
  within = omega arith;
}

pub abruptly : (k text : List ℕ) → IsUtf8 text → 0 < abrupt_len text → Abrupt k text (abrupt_len text)
abruptly k [] utf8 some = absurd (omega arith)
abruptly k (b ∷ []) utf8 some = elim (cases_Bool (b == 62)) [
  | inl close ↦
      let is : b ≡ 62 = eqb-true b 62 close in
      rw is (abrupt_greater k [] (rw is at utf8))
  | inr other ↦ absurd (omega (arith, (rw other at some)))
]
abruptly k (b ∷ d ∷ text) utf8 some = elim (cases_Bool (b == 62)) [
  | inl close ↦
      let is : b ≡ 62 = eqb-true b 62 close in
      rw is (abrupt_greater k (d ∷ text) (rw is at utf8))
  | inr other ↦ elim (cases_Bool (b == 45)) [
    | inl dash ↦ elim (cases_Bool (d == 62)) [
      | inl close ↦
          let is : b ≡ 45 = eqb-true b 45 dash in
          let then_is : d ≡ 62 = eqb-true d 62 close in
          rw (is, then_is) (abrupt_dash k text (rw (is, then_is) at utf8))
      | inr none ↦ absurd (omega (arith, (rw (other, dash, none) at some)))
    ]
    | inr undashed ↦ absurd (omega (arith, (rw (other, undashed) at some)))
  ]
]

-- ---- bogus comments and DOCTYPEs

bogus_keeps : (kept : List ℕ) (c : ℕ) (text : List ℕ) → is_unclosed c ≡ true → read (Bogus kept) 0 (c ∷ text) ≡ read (Bogus (kept ++ replace_null c ∷ [])) 0 text
unfolding read step look_again look
bogus_keeps kept c text h =
    let other : (c == 62) ≡ false = grind (arith, nat_tests) in
    rw other refl

abbrev bogus : Reader
bogus kept passing text = read (Bogus kept) passing text

doctype_keeps : (kept : List ℕ) (c : ℕ) (text : List ℕ) → is_unclosed c ≡ true → read DoctypeBody 0 (c ∷ text) ≡ read DoctypeBody 0 text
unfolding read step look_again look
doctype_keeps kept c text h =
    let other : (c == 62) ≡ false = grind (arith, nat_tests) in
    rw other refl

abbrev doctype : Reader
doctype kept passing text = read DoctypeBody passing text

close_bogus : (k text : List ℕ) → read (Bogus k) 0 (62 ∷ text) ≡ Comment k ∷ read Data 0 text
unfolding read step look_again look
close_bogus k text = refl

close_doctype : (text : List ℕ) → read DoctypeBody 0 (62 ∷ text) ≡ Doctype ∷ read Data 0 text
unfolding read step look_again look
close_doctype text = refl

no_close : (k : List ℕ) → (read (Bogus k) 0 [] ≡ Comment k ∷ []) × (read DoctypeBody 0 [] ≡ Doctype ∷ [])
unfolding read tokens_at_end
no_close k = (refl, refl)

-- what follows the text of such a comment
ended_bogus : (k text : List ℕ) (len end : ℕ) → IsCutAt 62 text len end → read (Bogus k) 0 (input (drop len text)) ≡ Comment k ∷ read Data 0 (input (drop end text))
ended_bogus k text len end (inl e) = rw (e, greater (drop end text)) (close_bogus k (input (drop end text)))
ended_bogus k text len end (inr e) = rw (e.0, e.1, input-nil, data_nil) (no_close k).0

ended_doctype : (text : List ℕ) (len end : ℕ) → IsCutAt 62 text len end → read DoctypeBody 0 (input (drop len text)) ≡ Doctype ∷ read Data 0 (input (drop end text))
ended_doctype text len end (inl e) = rw (e, greater (drop end text)) (close_doctype (input (drop end text)))
ended_doctype text len end (inr e) = rw (e.0, e.1, input-nil, data_nil) (no_close []).1

close_marked : (text : List ℕ) (len end : ℕ) → IsCutAt 62 text len end → IsMarked (drop len text)
close_marked text len end (inl e) = rw e (begins_marked 62 (omega arith) (λ (e : 62 ≡ 10). omega arith) (62 ∷ drop end text) refl)
close_marked text len end (inr e) = rw e.0 tt

all_unclosed : (bytes : List ℕ) → IsUtf8 bytes → LacksByte 62 bytes → list_all is_unclosed (input bytes) ≡ true
all_unclosed bytes utf8 lacks = all-input is_unclosed (λ c big. grind (arith, nat_tests)) (λ _. refl) bytes utf8 lacks

pub bogus_ends : (text : List ℕ) (len end : ℕ) → IsUtf8 text → IsCharBoundary text len → LacksByte 62 (take len text) → IsCutAt 62 text len end
    → read (Bogus []) 0 (input text) ≡ Comment (map replace_null (input (take len text))) ∷ read Data 0 (input (drop end text))
bogus_ends text len end utf8 cut lacks ends =
    let front = IsUtf8-take text len utf8 cut in
    ap (read (Bogus []) 0) (input-cut len text front (close_marked text len end ends))
    ∙ run bogus is_unclosed replace_null bogus_keeps [] (input (take len text)) (input (drop len text)) (all_unclosed (take len text) front lacks)
    ∙ ended_bogus (map replace_null (input (take len text))) text len end ends

pub doctype_ends : (text : List ℕ) (len end : ℕ) → IsUtf8 text → IsCharBoundary text len → LacksByte 62 (take len text) → IsCutAt 62 text len end
    → read DoctypeBody 0 (input text) ≡ Doctype ∷ read Data 0 (input (drop end text))
doctype_ends text len end utf8 cut lacks ends =
    let front = IsUtf8-take text len utf8 cut in
    ap (read DoctypeBody 0) (input-cut len text front (close_marked text len end ends))
    ∙ run doctype is_unclosed replace_null doctype_keeps [] (input (take len text)) (input (drop len text)) (all_unclosed (take len text) front lacks)
    ∙ ended_doctype text len end ends

-- ---- by places

-- a comment whose text ends here
pub body_closes : (all : List Token) (text : List ℕ) (at : ℕ) → IsUtf8 text → IsCharBoundary text at → (at < length text → 0 < closing_len (drop at text))
    → all ≡ read (CommentBody (map replace_null (input (take at text)))) 0 (input (drop at text))
    → all ≡ Comment (map replace_null (input (take at text))) ∷ read Data 0 (input (drop (at + closing_len (drop at text)) text))
body_closes all text at utf8 cut some held =
    let c = closed (map replace_null (input (take at text))) (drop at text) (IsUtf8-drop text at utf8 cut) (λ lt. some (omega (arith, lt, length-drop at text))) in
    held ∙ c.closes ∙ ap (λ (l : List ℕ). Comment (map replace_null (input (take at text))) ∷ read Data 0 (input l)) (drop-drop (closing_len (drop at text)) at text)

pub body_boundary : (text : List ℕ) (at : ℕ) → IsUtf8 text → IsCharBoundary text at → (at < length text → 0 < closing_len (drop at text)) → IsCharBoundary text (at + closing_len (drop at text))
body_boundary text at utf8 cut some =
    let c = closed [] (drop at text) (IsUtf8-drop text at utf8 cut) (λ lt. some (omega (arith, lt, length-drop at text))) in
    IsCharBoundary-from_drop text (at + closing_len (drop at text)) (omega (arith, c.within, length-drop at text, cut.0)) (subst IsUtf8 (drop-drop (closing_len (drop at text)) at text) c.utf8)

pub abrupt_boundary : (text : List ℕ) → IsUtf8 text → 0 < abrupt_len text → IsCharBoundary text (abrupt_len text)
abrupt_boundary text utf8 some =
    let a = abruptly [] text utf8 some in
    IsCharBoundary-from_drop text (abrupt_len text) a.within a.utf8

pub abrupt_closes : (text : List ℕ) → IsUtf8 text → 0 < abrupt_len text → read (CommentStart []) 0 (input text) ≡ Comment (map replace_null (input [])) ∷ read Data 0 (input (drop (abrupt_len text) text))
abrupt_closes text utf8 some = rw input-nil (abruptly [] text utf8 some).closes
