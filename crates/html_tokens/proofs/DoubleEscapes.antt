-- The names that begin and end a double escape of a script (13.2.5.26 and 13.2.5.31).
use Rattle.std.proofs.Common.{◌≡◌, ◌≢◌, ℕ, suc, ◌<◌, Bool, true, false, ◌&&◌, ◌||◌, ◌==◌, List, [], ◌∷◌, ◌++◌, length, map, take, drop, refl, sym, ap, ◌∙◌, append_assoc, append-nil, arith, inl, inr, IsUtf8, codes}
use Rattle.std.proofs.lemmas.Bool.{cases_Bool, and_parts, and_from, eqb-true}
use Rattle.std.proofs.lemmas.Bool.Decides.{nat_tests}
use Rattle.std.proofs.lemmas.List.{map-append}
use Rattle.std.proofs.lemmas.Slice.Eq.{bytes_eq-Decides}
use Rattle.std.specs.List.{list_all}
use Rattle.html_syntax.specs.Token.{Token}
use Rattle.html_syntax.specs.Token.Token.{Char}
use Rattle.html_syntax.specs.Characters.{is_letter, is_space, lower}
use Rattle.html_syntax.specs.References.{begins_with}
use Rattle.html_syntax.specs.States.{State, same, replace_null}
use Rattle.html_syntax.specs.States.RawTextKind.{Escaped}
use Rattle.html_syntax.specs.States.State.{Raw, DoubleStart, DoubleEscaped, DoubleEnd}
use Rattle.html_syntax.specs.States.Action.{ReconsumeIn}
use Rattle.html_syntax.specs.Rows.{double_escape_state}
use Rattle.html_syntax.specs.Tokenizer.{look, look_again, step, read, tokens_at_end, chars}
use Rattle.html_references.specs.Input.{input}
use Rattle.html_tokens.specs.Contents.{ends_name, begins_with_name}
use Rattle.html_tokens.proofs.Runs.{reconsumed}
use Rattle.html_references.proofs.Stretches.{input-cons, input-nil, utf8_tail}
use Rattle.html_tokens.proofs.EndTags.{Fails, fails_at, fails_on, fails_here, is_unended, Unended, unended, is_unended_from, first_unended, first_unnamed, no_letter, letter_small, input-letter, lowered_letter, return_first}

-- what ends a name, as a character
abbrev pub is_end : ℕ → Bool
is_end c = is_space c || c == 47 || c == 62

-- A state that reads letters as text: it goes to the first state if they are `script`, else to the second.
pub record Letters (L : List ℕ → State) (goal back : State) : Type 0 where
  pub letter : (letters : List ℕ) (c : ℕ) (text : List ℕ) → is_letter c ≡ true → read (L letters) 0 (c ∷ text) ≡ Char (replace_null c) ∷ read (L (letters ++ c ∷ [])) 0 text
  pub ended : (letters : List ℕ) (c : ℕ) (text : List ℕ) → is_letter c ≡ false → is_end c ≡ true → read (L letters) 0 (c ∷ text) ≡ Char (replace_null c) ∷ read (double_escape_state goal back letters) 0 text
  pub other : (letters : List ℕ) (c : ℕ) (text : List ℕ) → is_letter c ≡ false → is_end c ≡ false → look (L letters) c text ≡ ReconsumeIn back []
  pub over : (letters : List ℕ) → read (L letters) 0 [] ≡ read back 0 []
  pub goal_keeps : (c : ℕ) (text : List ℕ) → (c == 60) ≡ false → (c == 45) ≡ false → read goal 0 (c ∷ text) ≡ Char (replace_null c) ∷ read goal 0 text
  pub back_keeps : (c : ℕ) (text : List ℕ) → (c == 60) ≡ false → (c == 45) ≡ false → read back 0 (c ∷ text) ≡ Char (replace_null c) ∷ read back 0 text

abbrev script : List ℕ
script = codes "script"

-- ---- the two

pub escaped_keeps : (last : List ℕ) (c : ℕ) (text : List ℕ) → (c == 60) ≡ false → (c == 45) ≡ false → read (Raw Escaped last) 0 (c ∷ text) ≡ Char (replace_null c) ∷ read (Raw Escaped last) 0 text
unfolding read step look_again look
escaped_keeps last c text a b = rw (a, b) refl

pub double_keeps : (last : List ℕ) (c : ℕ) (text : List ℕ) → (c == 60) ≡ false → (c == 45) ≡ false → read (DoubleEscaped last) 0 (c ∷ text) ≡ Char (replace_null c) ∷ read (DoubleEscaped last) 0 text
unfolding read step look_again look
double_keeps last c text a b = rw (a, b) refl

start_letter : (last letters : List ℕ) (c : ℕ) (text : List ℕ) → is_letter c ≡ true → read (DoubleStart last letters) 0 (c ∷ text) ≡ Char (replace_null c) ∷ read (DoubleStart last (letters ++ c ∷ [])) 0 text
unfolding read step look_again look
start_letter last letters c text h = rw h refl

start_ended : (last letters : List ℕ) (c : ℕ) (text : List ℕ) → is_letter c ≡ false → is_end c ≡ true → read (DoubleStart last letters) 0 (c ∷ text) ≡ Char (replace_null c) ∷ read (double_escape_state (DoubleEscaped last) (Raw Escaped last) letters) 0 text
unfolding read step look_again look
start_ended last letters c text h e = rw (h, e) refl

start_other : (last letters : List ℕ) (c : ℕ) (text : List ℕ) → is_letter c ≡ false → is_end c ≡ false → look (DoubleStart last letters) c text ≡ ReconsumeIn (Raw Escaped last) []
unfolding look
start_other last letters c text h e = rw (h, e) refl

start_over : (last letters : List ℕ) → read (DoubleStart last letters) 0 [] ≡ read (Raw Escaped last) 0 []
unfolding read tokens_at_end
start_over last letters = refl

pub starts : (last : List ℕ) → Letters (DoubleStart last) (DoubleEscaped last) (Raw Escaped last)
starts last = record {
  letter = start_letter last;
  ended = start_ended last;
  other = start_other last;
  over = start_over last;
  goal_keeps = double_keeps last;
  back_keeps = escaped_keeps last;
}

end_letter : (last letters : List ℕ) (c : ℕ) (text : List ℕ) → is_letter c ≡ true → read (DoubleEnd last letters) 0 (c ∷ text) ≡ Char (replace_null c) ∷ read (DoubleEnd last (letters ++ c ∷ [])) 0 text
unfolding read step look_again look
end_letter last letters c text h = rw h refl

end_ended : (last letters : List ℕ) (c : ℕ) (text : List ℕ) → is_letter c ≡ false → is_end c ≡ true → read (DoubleEnd last letters) 0 (c ∷ text) ≡ Char (replace_null c) ∷ read (double_escape_state (Raw Escaped last) (DoubleEscaped last) letters) 0 text
unfolding read step look_again look
end_ended last letters c text h e = rw (h, e) refl

end_other : (last letters : List ℕ) (c : ℕ) (text : List ℕ) → is_letter c ≡ false → is_end c ≡ false → look (DoubleEnd last letters) c text ≡ ReconsumeIn (DoubleEscaped last) []
unfolding look
end_other last letters c text h e = rw (h, e) refl

end_over : (last letters : List ℕ) → read (DoubleEnd last letters) 0 [] ≡ read (DoubleEscaped last) 0 []
unfolding read tokens_at_end
end_over last letters = refl

pub ends : (last : List ℕ) → Letters (DoubleEnd last) (Raw Escaped last) (DoubleEscaped last)
ends last = record {
  letter = end_letter last;
  ended = end_ended last;
  other = end_other last;
  over = end_over last;
  goal_keeps = escaped_keeps last;
  back_keeps = double_keeps last;
}

-- ---- letters other than `script`

plain_letter : (b : ℕ) → is_letter b ≡ true → ((b == 60) ≡ false) × ((b == 45) ≡ false)
plain_letter b h = (grind (arith, nat_tests), grind (arith, nat_tests))

plain_end : (c : ℕ) → is_end c ≡ true → ((c == 60) ≡ false) × ((c == 45) ≡ false)
plain_end c h = (grind (arith, nat_tests), grind (arith, nat_tests))

no_end : (c : ℕ) → Unended c → is_end c ≡ false
no_end c u = rw (u.unspaced, u.unslashed, u.unclosed) refl

abbrev IsBack : (List ℕ → State) → State → List ℕ → List ℕ → Type 0
IsBack L back letters bytes = read (L letters) 0 (input bytes) ≡ read back 0 (input bytes)

letter_on : (L : List ℕ → State) (goal back : State) → Letters L goal back → (letters : List ℕ) (b : ℕ) (bytes : List ℕ) → is_letter b ≡ true → IsBack L back (letters ++ b ∷ []) bytes → IsBack L back letters (b ∷ bytes)
letter_on L goal back l letters b bytes is h =
    let p = plain_letter b is in
    rw (input-letter b bytes is) (l.letter letters b (input bytes) is ∙ ap (λ (t : List Token). Char (replace_null b) ∷ t) h ∙ sym (l.back_keeps b (input bytes) p.0 p.1))

other_name : (L : List ℕ → State) (goal back : State) → Letters L goal back → (letters : List ℕ) (b : ℕ) (bytes : List ℕ) → IsUtf8 (b ∷ bytes) → is_letter b ≡ false → same script (map lower letters) ≡ false → IsBack L back letters (b ∷ bytes)
other_name L goal back l letters b bytes utf8 h part =
    let f = first_unnamed b bytes utf8 h in
    let n = no_letter f.char f.passes in
    rw f.is (elim (cases_Bool (is_end f.char)) [
      | inl is ↦
          let p = plain_end f.char is in
          l.ended letters f.char f.rest n is ∙ ap (λ (s : State). Char (replace_null f.char) ∷ read s 0 f.rest) (rw part refl) ∙ sym (l.back_keeps f.char f.rest p.0 p.1)
      | inr goes ↦ reconsumed (L letters) back [] f.char f.rest (l.other letters f.char f.rest n goes)
    ])

goes_on : (L : List ℕ → State) (goal back : State) → Letters L goal back → (letters : List ℕ) (b : ℕ) (bytes : List ℕ) → IsUtf8 (b ∷ bytes) → is_unended b ≡ true → IsBack L back letters (b ∷ bytes)
goes_on L goal back l letters b bytes utf8 h =
    let f = first_unended b bytes utf8 h in
    let u = unended f.char f.passes in
    rw f.is (reconsumed (L letters) back [] f.char f.rest (l.other letters f.char f.rest u.unnamed (no_end f.char u)))

doubles_not : (L : List ℕ → State) (goal back : State) → Letters L goal back → (letters bytes : List ℕ) → IsUtf8 bytes → Fails script letters bytes → IsBack L back letters bytes
doubles_not L goal back l letters [] utf8 h = rw input-nil (l.over letters)
doubles_not L goal back l letters (b ∷ bytes) utf8 h = elim (cases_Bool (is_letter b)) [
  | inl is ↦ letter_on L goal back l letters b bytes is (doubles_not L goal back l (letters ++ b ∷ []) bytes (utf8_tail b bytes (letter_small b is) utf8) (fails_on script letters b bytes h))
  | inr unnamed ↦ elim (cases_Bool (same script (map lower letters))) [
    | inl whole ↦ goes_on L goal back l letters b bytes utf8 (is_unended_from b bytes unnamed (fails_here script letters b bytes h whole))
    | inr part ↦ other_name L goal back l letters b bytes utf8 unnamed part
  ]
]

-- other letters than `script` leave the state as it was
pub no_double : (L : List ℕ → State) (goal back : State) → Letters L goal back → (bytes : List ℕ) → IsUtf8 bytes → begins_with_name script bytes ≡ false → read (L []) 0 (input bytes) ≡ read back 0 (input bytes)
no_double L goal back l bytes utf8 h = doubles_not L goal back l [] bytes utf8 (fails_at script bytes h)

-- ---- the letters `script`

pub record Ends (bytes : List ℕ) : Type 0 where
  pub char : ℕ
  pub rest : List ℕ
  pub is : input bytes ≡ char ∷ rest
  pub unnamed : is_letter char ≡ false
  pub end : is_end char ≡ true

space_end : (b : ℕ) → is_space b ≡ true → (b < 128) × (b ≢ 13) × (is_letter b ≡ false)
space_end b h = (grind (arith, nat_tests), (λ (e : b ≡ 13). grind (arith, nat_tests)), grind (arith, nat_tests))

other_end : (b : ℕ) (bytes : List ℕ) → ends_name (b ∷ bytes) ≡ true → (b == 13) ≡ false → (b < 128) × (b ≢ 13) × (is_letter b ≡ false) × (is_end b ≡ true)
other_end b bytes h r = (grind (arith, nat_tests), (λ (e : b ≡ 13). grind (arith, nat_tests)), grind (arith, nat_tests), grind (arith, nat_tests))

first_end : (b : ℕ) (bytes : List ℕ) → ends_name (b ∷ bytes) ≡ true → Ends (b ∷ bytes)
first_end b bytes h = elim (cases_Bool (b == 13)) [
  | inl is ↦
      let e : b ≡ 13 = eqb-true b 13 is in
      let f = return_first bytes in
      record { char = 10; rest = f.0; is = ap (λ (c : ℕ). input (c ∷ bytes)) e ∙ f.1; unnamed = refl; end = refl }
  | inr other ↦
      let e = other_end b bytes h other in
      record { char = b; rest = input bytes; is = input-cons b bytes e.0 e.1; unnamed = e.2; end = e.3 }
]

abbrev Doubles : (List ℕ → State) → State → List ℕ → ℕ → List ℕ → Type 0
Doubles L goal letters n bytes = read (L letters) 0 (input bytes) ≡ chars (map replace_null (input (take n bytes))) ++ read goal 0 (input (drop n bytes))

doubled : (L : List ℕ → State) (goal back : State) → Letters L goal back → (letters : List ℕ) (b : ℕ) (bytes : List ℕ) → ends_name (b ∷ bytes) ≡ true → same script (map lower letters) ≡ true → read (L letters) 0 (input (b ∷ bytes)) ≡ read goal 0 (input (b ∷ bytes))
doubled L goal back l letters b bytes h whole =
    let f = first_end b bytes h in
    let p = plain_end f.char f.end in
    rw f.is (l.ended letters f.char f.rest f.unnamed f.end ∙ ap (λ (s : State). Char (replace_null f.char) ∷ read s 0 f.rest) (rw whole refl) ∙ sym (l.goal_keeps f.char f.rest p.0 p.1))

doubled_on : (L : List ℕ → State) (goal back : State) → Letters L goal back → (letters : List ℕ) (n b : ℕ) (bytes : List ℕ) → is_letter b ≡ true → Doubles L goal (letters ++ b ∷ []) n bytes → Doubles L goal letters (suc n) (b ∷ bytes)
doubled_on L goal back l letters n b bytes is h =
    rw (input-letter b bytes is, input-letter b (take n bytes) is) (l.letter letters b (input bytes) is ∙ ap (λ (t : List Token). Char (replace_null b) ∷ t) h)

doubles : (L : List ℕ → State) (goal back : State) → Letters L goal back → (letters w bytes : List ℕ) → list_all is_letter w ≡ true → script ≡ map lower letters ++ w → begins_with_name w bytes ≡ true → Doubles L goal letters (length w) bytes
doubles L goal back l letters [] [] all e h = absurd cc
doubles L goal back l letters [] (b ∷ bytes) all e h =
    let g : script ≡ map lower letters = e ∙ append-nil (map lower letters) in
    ap (λ (t : List Token). t) (doubled L goal back l letters b bytes h ((bytes_eq-Decides (map lower letters) script).1 (sym g)))
    ∙ ap (λ (t : List ℕ). chars (map replace_null t) ++ read goal 0 (input (b ∷ bytes))) (sym input-nil)
doubles L goal back l letters (x ∷ w) [] all e h = absurd cc
doubles L goal back l letters (x ∷ w) (b ∷ bytes) all e h =
    let both = and_parts (x == lower b && begins_with w (map lower bytes)) (ends_name (drop (length w) bytes)) h in
    let parts = and_parts (x == lower b) (begins_with w (map lower bytes)) both.0 in
    let letters_all = and_parts (is_letter x) (list_all is_letter w) all in
    let is : x ≡ lower b = eqb-true x (lower b) parts.0 in
    let split : script ≡ map lower (letters ++ b ∷ []) ++ w =
    e ∙ ap (λ (y : ℕ). map lower letters ++ y ∷ w) is ∙ sym (append_assoc (map lower letters) (lower b ∷ []) w) ∙ ap (λ (t : List ℕ). t ++ w) (sym (map-append lower letters (b ∷ []))) in
    doubled_on L goal back l letters (length w) b bytes (lowered_letter x b letters_all.0 parts.0)
    (doubles L goal back l (letters ++ b ∷ []) w bytes letters_all.1 split (and_from (begins_with w (map lower bytes)) (ends_name (drop (length w) bytes)) parts.1 both.1))

-- the letters `script`, before what ends a name
pub double : (L : List ℕ → State) (goal back : State) → Letters L goal back → (bytes : List ℕ) → begins_with_name script bytes ≡ true → read (L []) 0 (input bytes) ≡ chars (map replace_null (input (take 6 bytes))) ++ read goal 0 (input (drop 6 bytes))
double L goal back l bytes h = doubles L goal back l [] script bytes refl refl h
