-- The encoded words of a text, one after another.
use Rattle.std.proofs.Common.{◌≡◌, ℕ, zero, suc, ◌-◌, ◌<◌, ◌≤◌, inl, inr, true, false, eqb, List, [], ◌∷◌, ◌++◌, length, take, drop, refl, sym, ap, ◌∙◌, arith, append_assoc}
use Rattle.std.specs.Prelude.{nat_le, slice_index}
use Rattle.std.specs.List.{flat_map, join_by}
use Rattle.std.proofs.lemmas.Bool.{cases_Bool}
use Rattle.std.proofs.lemmas.Bool.Decides.{nat_tests}
use Rattle.std.proofs.lemmas.List.{append-nil, length-drop}
use Rattle.flowed_text.specs.Flow.{begins_character}
use Rattle.compose_drafts.specs.Texts.{encoded_word, encoded_words, pieces, pieces_within, spaced_word, word_len}

-- a length that is tested for 0
pub nonzero_if : (n : ℕ) → false ≡ eqb n 0 → 1 ≤ n
nonzero_if zero e = grind arith
nonzero_if (suc n) e = omega arith

pub zero_if : (n : ℕ) → true ≡ eqb n 0 → n ≡ 0
zero_if zero e = refl
zero_if (suc n) e = grind arith

pub word_bounds : (text : List ℕ) → 1 ≤ length text → (1 ≤ word_len text) × (word_len text ≤ length text)
unfolding word_len
word_bounds text some = elim (cases_Bool (nat_le (length text) 45)) [
  | inl e ↦ rw e (some, omega arith)
  | inr e ↦
      let long : 45 < length text = grind (arith, nat_tests) in
      elim (cases_Bool (begins_character (slice_index text 45))) [
        | inl f ↦ rw (e, f) (omega arith, omega arith)
        | inr f ↦ elim (cases_Bool (begins_character (slice_index text 44))) [
          | inl g ↦ rw (e, f, g) (omega arith, omega arith)
          | inr g ↦ elim (cases_Bool (begins_character (slice_index text 43))) [
            | inl h ↦ rw (e, f, g, h) (omega arith, omega arith)
            | inr h ↦ rw (e, f, g, h) (omega arith, omega arith)
          ]
        ]
      ]
]

same : (n m : ℕ) (text : List ℕ) → length text ≤ n → length text ≤ m → pieces_within n text ≡ pieces_within m text
same zero zero text a b = refl
same zero (suc m) [] a b = refl
same zero (suc m) (c ∷ text) a b = absurd (omega arith)
same (suc n) zero [] a b = refl
same (suc n) zero (c ∷ text) a b = absurd (omega arith)
same (suc n) (suc m) [] a b = refl
same (suc n) (suc m) (c ∷ text) a b =
    let w : ℕ = word_len (c ∷ text) in
    let some : 1 ≤ w = (word_bounds (c ∷ text) (omega arith)).0 in
    let l : length (drop w (c ∷ text)) ≡ length (c ∷ text) - w = length-drop w (c ∷ text) in
    ap (λ ps. take w (c ∷ text) ∷ ps) (same n m (drop w (c ∷ text)) (omega arith) (omega arith))

pub pieces_step : (text : List ℕ) → 1 ≤ length text → pieces text ≡ take (word_len text) text ∷ pieces (drop (word_len text) text)
unfolding pieces
pieces_step [] some = absurd (omega arith)
pieces_step (c ∷ text) some =
    let w : ℕ = word_len (c ∷ text) in
    let least : 1 ≤ w = (word_bounds (c ∷ text) (omega arith)).0 in
    let l : length (drop w (c ∷ text)) ≡ length (c ∷ text) - w = length-drop w (c ∷ text) in
    ap (λ ps. take w (c ∷ text) ∷ ps) (same (length text) (length (drop w (c ∷ text))) (drop w (c ∷ text)) (omega arith) (omega arith))

pub no_pieces : (text : List ℕ) → length text ≡ 0 → pieces text ≡ []
unfolding pieces
no_pieces [] e = refl
no_pieces (c ∷ text) e = absurd (omega arith)

-- ---- the loop

pub more_words : (before spaced longer rest piece more total : List ℕ) → 1 ≤ length rest → piece ≡ take (word_len rest) rest → more ≡ drop (word_len rest) rest → spaced ≡ before ++ 32 ∷ [] → longer ≡ spaced ++ encoded_word piece
    → before ++ flat_map spaced_word (pieces rest) ≡ total → longer ++ flat_map spaced_word (pieces more) ≡ total
more_words before spaced longer rest piece more total some p m s l so =
    let step : pieces rest ≡ piece ∷ pieces more = pieces_step rest some ∙ ap (λ x. x ∷ pieces (drop (word_len rest) rest)) (sym p) ∙ ap (λ x. piece ∷ pieces x) (sym m) in
    let joined : longer ++ flat_map spaced_word (pieces more) ≡ before ++ (spaced_word piece ++ flat_map spaced_word (pieces more)) = rw (l, s) (simp append_assoc refl) in
    joined ∙ ap (λ ps. before ++ flat_map spaced_word ps) (sym step) ∙ so

pub words_done : (before rest total : List ℕ) → length rest ≡ 0 → before ++ flat_map spaced_word (pieces rest) ≡ total → before ≡ total
words_done before rest total none so =
    sym (append-nil before) ∙ ap (λ ps. before ++ flat_map spaced_word ps) (sym (no_pieces rest none)) ∙ so

pub no_words : (before text : List ℕ) → length text ≡ 0 → before ≡ before ++ encoded_words text
no_words before text none = sym (append-nil before) ∙ ap (λ ps. before ++ join_by encoded_word (32 ∷ []) ps) (sym (no_pieces text none))

pub first_word : (before one longer text piece more : List ℕ) → 1 ≤ length text → piece ≡ take (word_len text) text → more ≡ drop (word_len text) text → one ≡ before ++ encoded_word piece → longer ≡ one ++ flat_map spaced_word (pieces more) → longer ≡ before ++ encoded_words text
first_word before one longer text piece more some p m o l =
    let step : pieces text ≡ piece ∷ pieces more = pieces_step text some ∙ ap (λ x. x ∷ pieces (drop (word_len text) text)) (sym p) ∙ ap (λ x. piece ∷ pieces x) (sym m) in
    l ∙ ap (λ x. x ++ flat_map spaced_word (pieces more)) o ∙ append_assoc before (encoded_word piece) (flat_map spaced_word (pieces more))
    ∙ ap (λ ps. before ++ join_by encoded_word (32 ∷ []) ps) (sym step)
