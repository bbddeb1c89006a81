-- The first line of some bytes, and the lines after it.
use Rattle.std.proofs.Common.{◌≡◌, ℕ, ◌+◌, ◌-◌, ◌<◌, ◌≤◌, inl, inr, Bool, true, false, cond, eqb, List, [], ◌∷◌, length, take, drop, refl, sym, ap, ◌∙◌, arith, length-drop}
use Rattle.std.specs.Prelude.{take_while}
use Rattle.std.specs.List.{position_or_len, slice_split, onto_first, before_first, after_first}
use Rattle.std.proofs.lemmas.Bool.{cases_lt, cases_Bool, lt-ltb, le-ltb, ne_eqb, eqb-true, eqb-false}
use Rattle.std.proofs.lemmas.List.{drop_all, length-take-le, take_rest, drop-drop}
use Rattle.std.proofs.lemmas.List.Splits.{slice_split_first, slice_split-cons_no}
use Rattle.std.proofs.lemmas.List.Sums.{take_while-cons}
use Rattle.std.specs.Str.Lines.{lines, lines_of_parts, strip_carriage_return}
use Rattle.header_words.specs.Lines.{is_newline, first_text, first_size, header_size, body_of, header_lines, is_filled}

pub record Cons {X : Type 0} (parts : List X) : Type 0 where
  pub head : X
  pub tail : List X
  pub is : parts ≡ head ∷ tail

onto_some : {X : Type 0} (x : X) (parts : List (List X)) → Cons (onto_first x parts)
onto_some x [] = record { head = x ∷ []; tail = []; is = refl }
onto_some x (part ∷ parts) = record { head = x ∷ part; tail = parts; is = refl }

-- a list is cut into one part at least
pub slice_split_some : (p : ℕ → Bool) (xs : List ℕ) → Cons (slice_split p xs)
slice_split_some p [] = record { head = []; tail = []; is = refl }
slice_split_some p (x ∷ xs) = elim (p x) as (λ b. Cons (cond b ([] ∷ slice_split p xs) (onto_first x (slice_split p xs)))) [
  | true ↦ record { head = []; tail = slice_split p xs; is = refl }
  | false ↦ onto_some x (slice_split p xs)
]

-- a list in which no element passes is one part
pub slice_split_whole : (p : ℕ → Bool) (xs : List ℕ) → length xs ≤ position_or_len p xs → slice_split p xs ≡ xs ∷ []
slice_split_whole p [] h = refl
slice_split_whole p (x ∷ xs) h =
    elim (cases_Bool (p x)) [
      | inl stops ↦ let none : position_or_len p (x ∷ xs) ≡ 0 = rw stops refl in absurd (omega arith)
      | inr goes ↦
          let more : position_or_len p (x ∷ xs) ≡ 1 + position_or_len p xs = rw goes refl in
          slice_split-cons_no p x xs goes ∙ ap (onto_first x) (slice_split_whole p xs (omega arith))
    ]

pub first_size_found : (rest : List ℕ) → position_or_len is_newline rest < length rest → first_size rest ≡ position_or_len is_newline rest + 1
first_size_found rest lt = omega arith

pub first_text_found : (rest : List ℕ) → position_or_len is_newline rest < length rest → first_text rest ≡ strip_carriage_return (before_first is_newline rest)
first_text_found rest lt = rw (lt-ltb (position_or_len is_newline rest) (length rest) lt) refl

pub first_size_last : (rest : List ℕ) → length rest ≤ position_or_len is_newline rest → first_size rest ≡ length rest
first_size_last rest ge = omega arith

pub first_text_last : (rest : List ℕ) → length rest ≤ position_or_len is_newline rest → first_text rest ≡ rest
first_text_last rest ge = rw (le-ltb (position_or_len is_newline rest) (length rest) ge) refl

lines_one : (rest : List ℕ) → 0 < length rest → lines_of_parts (rest ∷ []) ≡ rest ∷ []
lines_one [] some = absurd (omega arith)
lines_one (x ∷ xs) some = rw (ne_eqb (length (x ∷ xs)) 0 (λ e. absurd (omega arith))) refl

-- the lines of some bytes are the first line and those of the rest
pub lines_step : (rest : List ℕ) → 0 < length rest → lines rest ≡ first_text rest ∷ lines (drop (first_size rest) rest)
lines_step rest some =
    elim (cases_lt (position_or_len is_newline rest) (length rest)) [
      | inl lt ↦
          let after = slice_split_some is_newline (after_first is_newline rest) in
          let cut : slice_split is_newline rest ≡ before_first is_newline rest ∷ (after.head ∷ after.tail) = slice_split_first is_newline rest 0 lt ∙ ap (λ ps. before_first is_newline rest ∷ ps) after.is in
          let tail : lines (after_first is_newline rest) ≡ lines_of_parts (after.head ∷ after.tail) = ap lines_of_parts after.is in
          ap lines_of_parts cut ∙ ap (λ ls. strip_carriage_return (before_first is_newline rest) ∷ ls) (sym tail)
          ∙ ap (λ t. t ∷ lines (after_first is_newline rest)) (sym (first_text_found rest lt))
          ∙ ap (λ n. first_text rest ∷ lines (drop n rest)) (sym (first_size_found rest lt))
      | inr ge ↦
          let over : drop (first_size rest) rest ≡ [] = drop_all (first_size rest) rest (omega (arith, first_size_last rest ge)) in
          ap lines_of_parts (slice_split_whole is_newline rest ge) ∙ lines_one rest some
          ∙ ap (λ t. t ∷ []) (sym (first_text_last rest ge)) ∙ ap (λ r. first_text rest ∷ lines r) (sym over)
    ]

-- the body begins after the first line, if that is empty, and else after the rest's header
pub body_step : (rest : List ℕ) → 0 < length rest → body_of rest ≡ first_size rest + cond (is_filled (first_text rest)) (body_of (drop (first_size rest) rest)) 0
body_step rest some =
    elim (cases_lt (position_or_len is_newline rest) (length rest)) [
      | inl lt ↦
          let front = before_first is_newline rest in
          let after = slice_split_some is_newline (after_first is_newline rest) in
          let cut : slice_split is_newline rest ≡ front ∷ (after.head ∷ after.tail) = slice_split_first is_newline rest 0 lt ∙ ap (λ ps. front ∷ ps) after.is in
          let tail : body_of (after_first is_newline rest) ≡ header_size (after.head ∷ after.tail) = ap header_size after.is in
          let size : length front + 1 ≡ first_size rest = omega (arith, length-take-le (position_or_len is_newline rest) rest (omega arith)) in
          ap header_size cut
          ∙ ap (λ n. n + cond (is_filled (strip_carriage_return front)) (header_size (after.head ∷ after.tail)) 0) size
          ∙ ap (λ n. first_size rest + cond (is_filled (strip_carriage_return front)) n 0) (sym tail)
          ∙ ap (λ t. first_size rest + cond (is_filled t) (body_of (after_first is_newline rest)) 0) (sym (first_text_found rest lt))
          ∙ ap (λ n. first_size rest + cond (is_filled (first_text rest)) (body_of (drop n rest)) 0) (sym (first_size_found rest lt))
      | inr ge ↦
          let size : first_size rest ≡ length rest = first_size_last rest ge in
          let over : drop (first_size rest) rest ≡ [] = drop_all (first_size rest) rest (omega arith) in
          let full : is_filled (first_text rest) ≡ true = rw (first_text_last rest ge) (lt-ltb 0 (length rest) some) in
          ap header_size (slice_split_whole is_newline rest ge) ∙ rw (full, over) (omega arith)
    ]

-- the header's lines of some bytes
pub header_lines_step : (rest : List ℕ) → 0 < length rest → header_lines rest ≡ cond (is_filled (first_text rest)) (first_text rest ∷ header_lines (drop (first_size rest) rest)) []
header_lines_step rest some = ap (take_while is_filled) (lines_step rest some) ∙ take_while-cons is_filled (first_text rest) (lines (drop (first_size rest) rest))

pub header_lines_none : header_lines [] ≡ []
header_lines_none = refl

-- the line at a place, and what follows it, where it isn't empty
pub record HasLineAt (bytes : List ℕ) (at n : ℕ) (text : List ℕ) : Type 0 where
  pub within : at + n ≤ length bytes
  pub lines : header_lines (drop at bytes) ≡ text ∷ header_lines (drop (at + n) bytes)
  pub body : body_of (drop at bytes) ≡ n + body_of (drop (at + n) bytes)

-- the line at a place, where it is empty
pub record HasEmptyLineAt (bytes : List ℕ) (at n : ℕ) : Type 0 where
  pub within : at + n ≤ length bytes
  pub lines : header_lines (drop at bytes) ≡ []
  pub body : body_of (drop at bytes) ≡ n

rest_some : (bytes : List ℕ) (at : ℕ) → at < length bytes → 0 < length (drop at bytes)
rest_some bytes at h = omega (arith, length-drop {A = ℕ})

pub line_at : (bytes : List ℕ) (at n : ℕ) (text : List ℕ) → at < length bytes → text ≡ first_text (take (length bytes - at) (drop at bytes)) → n ≡ first_size (take (length bytes - at) (drop at bytes)) → false ≡ eqb (length text) 0 → HasLineAt bytes at n text
line_at bytes at n text h t s e =
    let rest = drop at bytes in
    let some : 0 < length rest = rest_some bytes at h in
    let text_is : text ≡ first_text rest = t ∙ ap first_text (take_rest bytes at) in
    let size_is : n ≡ first_size rest = s ∙ ap first_size (take_rest bytes at) in
    let nonzero : length text ≡ 0 → ⊥ = eqb-false (length text) 0 (sym e) in
    let full : is_filled (first_text rest) ≡ true = rw (← text_is) (lt-ltb 0 (length text) (omega arith)) in
    let after : drop (first_size rest) rest ≡ drop (at + n) bytes = drop-drop (first_size rest) at bytes ∙ ap (λ k. drop (at + k) bytes) (sym size_is) in
    record {
      within = omega (arith, length-drop {A = ℕ});
      lines = header_lines_step rest some ∙ rw (full, after, text_is) refl;
      body = body_step rest some ∙ rw (full, after, size_is) refl;
    }

pub empty_line_at : (bytes : List ℕ) (at n : ℕ) (text : List ℕ) → at < length bytes → text ≡ first_text (take (length bytes - at) (drop at bytes)) → n ≡ first_size (take (length bytes - at) (drop at bytes)) → true ≡ eqb (length text) 0 → HasEmptyLineAt bytes at n
empty_line_at bytes at n text h t s e =
    let rest = drop at bytes in
    let some : 0 < length rest = rest_some bytes at h in
    let text_is : text ≡ first_text rest = t ∙ ap first_text (take_rest bytes at) in
    let size_is : n ≡ first_size rest = s ∙ ap first_size (take_rest bytes at) in
    let empty : length text ≡ 0 = eqb-true (length text) 0 (sym e) in
    let clear : is_filled (first_text rest) ≡ false = rw (← text_is) (le-ltb 0 (length text) (omega arith)) in
    record {
      within = omega (arith, length-drop {A = ℕ});
      lines = header_lines_step rest some ∙ rw clear refl;
      body = body_step rest some ∙ rw (clear, size_is) (omega arith);
    }
