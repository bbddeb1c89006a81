-- The paragraphs of a text can be restored from flowed text: none has CR or LF, and none but `-- ` ends in a space.
use Rattle.std.proofs.Common.{◌≡◌, ℕ, zero, suc, ◌-◌, ◌<◌, inl, inr, Bool, true, false, not, List, [], ◌∷◌, length, take, drop, get_or, map, refl, sym, subst, arith}
use Rattle.std.specs.Prelude.{◌==◌, ◌&&◌, reverse, Result, IfOk}
use Rattle.std.specs.List.{All, list_all, suffix_len}
use Rattle.std.specs.Str.{bytes_eq}
use Rattle.std.proofs.lemmas.Bool.{and_parts, cases_Bool, cases_lt, not-true}
use Rattle.std.proofs.lemmas.List.{get_or-reverse, get_or-take, length-reverse, length-take-le}
use Rattle.std.proofs.lemmas.List.Elements.{All-cons, All-nil}
use Rattle.std.proofs.lemmas.List.Sums.{AllPass-from_list_all, prefix_len_stops}
use Rattle.std.proofs.lemmas.Slice.Eq.{bytes_eq-Decides}
use Rattle.flowed_text.specs.declared.Para.{Para}
use Rattle.flowed_text.specs.Flow.{IsRestorable}
use Rattle.flowed_text.specs.Lines.{is_ending, lines, strip_first}
use Rattle.flowed_text.specs.Paragraphs.{ends_in_space, is_flowing, mark_count, read_line, signature}
use Rattle.mail_addresses.specs.Runs.{is_space, skip_spaces, trim_end}
use Rattle.compose_drafts.specs.Lines.{is_line, is_unbroken}
use Rattle.compose_drafts.specs.Paragraphs.{paragraph_of, paragraphs_of, trimmed}
use Rattle.compose_drafts.proofs.BodyLines.{paragraph_line, text_lines}

-- ---- texts that do not end in a space

after_one : (c : ℕ) (text : List ℕ) → ends_in_space (c ∷ text) ≡ false → ends_in_space text ≡ false
after_one c [] h = refl
after_one c (d ∷ text) h =
    let long : length (c ∷ d ∷ text) - 1 ≡ suc (length text) = omega arith in
    let short : length (d ∷ text) - 1 ≡ length text = omega arith in
    let here : (get_or (c ∷ d ∷ text) (suc (length text)) 0 == 32) ≡ false = subst (λ n. (get_or (c ∷ d ∷ text) n 0 == 32) ≡ false) long h in
    rw short here

after_some : (n : ℕ) (text : List ℕ) → ends_in_space text ≡ false → ends_in_space (drop n text) ≡ false
after_some zero text h = h
after_some (suc n) [] h = refl
after_some (suc n) (c ∷ text) h = after_some n text (after_one c text h)

after_first : (c : ℕ) (text : List ℕ) → ends_in_space text ≡ false → ends_in_space (strip_first c text) ≡ false
after_first c [] h = refl
after_first c (d ∷ text) h = elim (cases_Bool (d == c)) [
  | inl e ↦ rw e (after_one d text h)
  | inr e ↦ rw e h
]

trimmed_end : (text : List ℕ) → ends_in_space (trim_end text) ≡ false
trimmed_end text =
    let size : ℕ = suffix_len is_space text in
    elim (cases_lt size (length text)) [
      | inl some ↦
          let within : size < length (reverse text) = omega (arith, length-reverse text) in
          let stops : is_space (get_or (reverse text) size 0) ≡ false = prefix_len_stops is_space (reverse text) 0 within in
          let at : get_or (reverse text) size 0 ≡ get_or text (length text - 1 - size) 0 = get_or-reverse text size 0 some in
          let long : length (take (length text - size) text) ≡ length text - size = length-take-le (length text - size) text (omega arith) in
          let last : length text - size - 1 ≡ length text - 1 - size = omega arith in
          let inside : length text - 1 - size < length text - size = omega arith in
          let taken : get_or (take (length text - size) text) (length text - 1 - size) 0 ≡ get_or text (length text - 1 - size) 0 = get_or-take (length text - size) text (length text - 1 - size) 0 inside in
          rw (long, last, taken, ← at) stops
      | inr none ↦
          let nothing : length text - size ≡ 0 = omega arith in
          rw nothing refl
    ]

-- ---- paragraphs

stays : (a b : Bool) → a ≡ false → (a && b) ≡ false
stays true b e = cc
stays false b e = refl

ends_fixed : (line : List ℕ) → is_flowing (paragraph_of line).text ≡ false
ends_fixed line = elim (cases_Bool (bytes_eq line signature)) [
  | inl e ↦ subst (λ t. is_flowing (paragraph_of t).text ≡ false) (sym ((bytes_eq-Decides line signature).0 e)) refl
  | inr e ↦
      let fixed : ends_in_space (trimmed line) ≡ false = rw e (trimmed_end (skip_spaces line)) in
      let text : List ℕ = (read_line (trimmed line)).text in
      let read : ends_in_space text ≡ false = after_first 32 (drop (mark_count (trimmed line)) (trimmed line)) (after_some (mark_count (trimmed line)) (trimmed line) fixed) in
      stays (ends_in_space (skip_spaces text)) (not (bytes_eq (skip_spaces text) signature)) (after_some _ text read)
]

no_endings : (text : List ℕ) → is_line text ≡ true → All (λ b. is_ending b ≡ false) text
no_endings text h = λ k d within. not-true (is_ending (get_or text k d)) (AllPass-from_list_all is_unbroken text h k d within)

restorable_lines : (texts : List (List ℕ)) → list_all is_line texts ≡ true → All IsRestorable (map paragraph_of texts)
restorable_lines [] h = All-nil IsRestorable
restorable_lines (line ∷ more) h =
    let cut = and_parts (is_line line) (list_all is_line more) h in
    All-cons IsRestorable (paragraph_of line) (map paragraph_of more) (no_endings (paragraph_of line).text (paragraph_line line cut.0), ends_fixed line) (restorable_lines more cut.1)

pub restorable_paragraphs : (text : List ℕ) → All IsRestorable (paragraphs_of text)
unfolding paragraphs_of
restorable_paragraphs text = restorable_lines (lines text) (text_lines text)

-- what is read back from paragraphs is read back from those of a text
pub parsed : {X E : Type 0} (read : X → List Para) (written : Result X E) (text : List ℕ) (paras : List Para) → paras ≡ paragraphs_of text → (All IsRestorable paras → IfOk written (λ x. read x ≡ paras)) → IfOk written (λ x. read x ≡ paragraphs_of text)
parsed read written text paras same back =
    subst (λ ps. IfOk written (λ x. read x ≡ ps)) same (back (subst (λ ps. All IsRestorable ps) (sym same) (restorable_paragraphs text)))
