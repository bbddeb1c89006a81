-- The fields found so far, and one line more.
use Rattle.std.proofs.Common.{◌≡◌, ℕ, suc, ◌+◌, ◌-◌, ◌<◌, ◌≤◌, inl, inr, true, false, cond, eqb, List, [], ◌∷◌, ◌++◌, length, get_or, take, drop, refl, sym, ap, ◌∙◌, subst, arith, append_assoc, length-append, length-drop}
use Rattle.std.specs.Prelude.{not}
use Rattle.std.specs.List.{position_or_len}
use Rattle.std.specs.Str.Lines.{lines}
use Rattle.std.proofs.lemmas.Bool.{cases_lt, cases_Bool, eqb-true}
use Rattle.std.proofs.lemmas.List.{append-nil, drop-drop, get_or-drop, get_or-take, length-take-le, drop-take, get_or_append_left, take_rest, map-append}
use Rattle.std.proofs.Math.Seq.{get_or-append_seam}
use Rattle.std.proofs.lemmas.List.Sums.{take_while-cons, passes_at_first}
use Rattle.std.proofs.lemmas.List.Elements.{filter-append}
use Rattle.mail_values.proofs.Prefixes.{take_further}
use Rattle.header_words.specs.Lines.{is_newline, first_text, first_size, header_lines, body_of}
use Rattle.header_words.specs.Fields.{FieldValue, Header, name_of, value_of, field_of, fields_of, own_lines, begins_field, is_continuation, header_of}
use Rattle.header_words.specs.Places.{field_of_lines, raw_field, field_between, fields_at, letters_at, IsRising, with_start, with_letter, header_at}
use Rattle.header_words.proofs.FirstLine.{lines_step, line_at}
use Rattle.header_words.proofs.WholeLines.{IsWhole, drop_whole, front_first, lines_append, one_line, with_lines, extended, extended_none, extended_twice, extended_push, fields_with}

abbrev field_with : List ℕ → List (List ℕ) → FieldValue
field_with name ls = record { name = name; lines = ls }

abbrev header_with : List FieldValue → ℕ → Header
header_with fields body = record { fields = fields; body = body }

-- ---- one line more of the last field

more_lines : (first : List (List ℕ)) (line : List ℕ) → 0 < length first → field_of_lines (first ++ line ∷ []) ≡ with_lines (field_of_lines first) (line ∷ [])
more_lines [] line some = absurd (omega arith)
more_lines (l ∷ ls) line some = ap (λ more. field_with (name_of l) (value_of l ∷ more)) (filter-append is_continuation ls (line ∷ []))

-- the bytes of a field up to a line, and that line's
further : (xs : List ℕ) (a at n : ℕ) → a ≤ at → at ≤ length xs → take (at + n - a) (drop a xs) ≡ take (at - a) (drop a xs) ++ take n (drop at xs)
further xs a at n le within =
    let size : at + n - a ≡ (at - a) + n = omega arith in
    let place : a + (at - a) ≡ at = omega arith in
    ap (λ k. take k (drop a xs)) size ∙ sym (take_further (drop a xs) (at - a) n (omega (arith, length-drop {A = ℕ})))
    ∙ ap (λ l. take (at - a) (drop a xs) ++ take n l) (drop-drop (at - a) a xs ∙ ap (λ k. drop k xs) place)

between_more : (bytes : List ℕ) (a at n : ℕ) (line : List ℕ) → a < at → at ≤ length bytes → IsWhole (take at bytes) → lines (take n (drop at bytes)) ≡ line ∷ [] → field_between bytes a (at + n) ≡ with_lines (field_between bytes a at) (line ∷ [])
between_more bytes a at n line lt within whole one =
    let X = take (at - a) (drop a bytes) in
    let Y = take n (drop at bytes) in
    let same : drop a (take at bytes) ≡ X = ap (λ k. drop a (take k bytes)) (let q : at ≡ a + (at - a) = omega arith in q) ∙ drop-take a (at - a) bytes in
    let front : IsWhole X = subst IsWhole same (drop_whole a (take at bytes) whole) in
    let some : 0 < length X = omega (arith, length-take-le (at - a) (drop a bytes) (omega (arith, length-drop {A = ℕ}))) in
    let cut : lines (X ++ Y) ≡ lines X ++ line ∷ [] = lines_append (length X) X Y (omega arith) front ∙ ap (λ l. lines X ++ l) one in
    let filled : 0 < length (lines X) = omega (arith, ap length (lines_step X some)) in
    ap raw_field (further bytes a at n (omega arith) within) ∙ ap field_of_lines cut ∙ more_lines (lines X) line filled

-- the fields after a line that begins none
fields_more : (bytes starts : List ℕ) (at n : ℕ) (line : List ℕ) → ((i : ℕ) → i < length starts → get_or starts i 0 < at) → at ≤ length bytes → IsWhole (take at bytes) → lines (take n (drop at bytes)) ≡ line ∷ [] → fields_at bytes starts (at + n) ≡ extended (fields_at bytes starts at) (line ∷ [])
fields_more bytes [] at n line below within whole one = refl
fields_more bytes (a ∷ []) at n line below within whole one = ap (λ f. f ∷ []) (between_more bytes a at n line (below 0 (omega arith)) within whole one)
fields_more bytes (a ∷ b ∷ []) at n line below within whole one = ap (λ fs. field_between bytes a b ∷ fs) (fields_more bytes (b ∷ []) at n line (λ i h. below (suc i) (omega arith)) within whole one)
fields_more bytes (a ∷ b ∷ c ∷ more) at n line below within whole one = ap (λ fs. field_between bytes a b ∷ fs) (fields_more bytes (b ∷ c ∷ more) at n line (λ i h. below (suc i) (omega arith)) within whole one)

-- the fields after a line that begins one
fields_push : (bytes starts : List ℕ) (at end : ℕ) → fields_at bytes (starts ++ at ∷ []) end ≡ fields_at bytes starts at ++ field_between bytes at end ∷ []
fields_push bytes [] at end = refl
fields_push bytes (a ∷ []) at end = refl
fields_push bytes (a ∷ b ∷ more) at end = ap (λ fs. field_between bytes a b ∷ fs) (fields_push bytes (b ∷ more) at end)

-- ---- the line at a place

-- bytes up to the end of a line that isn't the last are whole lines
pub whole_after : (bytes : List ℕ) (at n : ℕ) → at < length bytes → n ≡ first_size (drop at bytes) → at + n < length bytes → IsWhole (take (at + n) bytes)
whole_after bytes at n h size lt =
    let rest = drop at bytes in
    let found : position_or_len is_newline rest < length rest = omega (arith, length-drop {A = ℕ}) in
    let stops : is_newline (get_or rest (position_or_len is_newline rest) 0) ≡ true = passes_at_first is_newline rest 0 found in
    let newline : get_or rest (position_or_len is_newline rest) 0 ≡ 10 = eqb-true (get_or rest (position_or_len is_newline rest) 0) 10 stops in
    record {
      ends = λ i e.
          let last : i + 1 ≡ at + n = omega (arith, length-take-le (at + n) bytes (omega arith)) in
          let place : i ≡ at + position_or_len is_newline rest = omega (arith, length-drop {A = ℕ}) in
          get_or-take (at + n) bytes i 0 (omega arith) ∙ ap (λ k. get_or bytes k 0) place ∙ sym (get_or-drop at bytes (position_or_len is_newline rest) 0) ∙ newline;
    }

rise_push : (starts : List ℕ) (at end : ℕ) → at < end → IsRising starts at → IsRising (starts ++ at ∷ []) end
rise_push starts at end h rise = record {
  next = λ i k.
      let here : get_or (starts ++ at ∷ []) i 0 ≡ get_or starts i 0 = get_or_append_left starts (at ∷ []) 0 i (omega (arith, length-append {A = ℕ})) in
      elim (cases_lt (i + 1) (length starts)) [
        | inl lt ↦
            let there : get_or (starts ++ at ∷ []) (i + 1) 0 ≡ get_or starts (i + 1) 0 = get_or_append_left starts (at ∷ []) 0 (i + 1) lt in
            let old = rise.next i lt in
            omega arith
        | inr ge ↦
            let last : i + 1 ≡ length starts = omega (arith, length-append {A = ℕ}) in
            let there : get_or (starts ++ at ∷ []) (i + 1) 0 ≡ at = ap (λ j. get_or (starts ++ at ∷ []) j 0) last ∙ get_or-append_seam starts at [] 0 in
            let old = rise.within i (omega arith) in
            omega arith
      ];
  within = λ i k.
      elim (cases_lt i (length starts)) [
        | inl lt ↦
            let here : get_or (starts ++ at ∷ []) i 0 ≡ get_or starts i 0 = get_or_append_left starts (at ∷ []) 0 i lt in
            let old = rise.within i lt in
            omega arith
        | inr ge ↦
            let last : i ≡ length starts = omega (arith, length-append {A = ℕ}) in
            let here : get_or (starts ++ at ∷ []) i 0 ≡ at = ap (λ j. get_or (starts ++ at ∷ []) j 0) last ∙ get_or-append_seam starts at [] 0 in
            omega arith
      ];
}

rise_on : (starts : List ℕ) (at end : ℕ) → at ≤ end → IsRising starts at → IsRising starts end
rise_on starts at end h rise = record { next = rise.next; within = λ i k. let q = rise.within i k in omega arith }

-- ---- one line more

own_lines_on : (line : List ℕ) (more : List (List ℕ)) → own_lines (line ∷ more) ≡ cond (not (begins_field line)) (line ∷ own_lines more) []
own_lines_on line more = take_while-cons (λ l. not (begins_field l)) line more

-- a line that begins a field
with_field : (fs : List FieldValue) (line : List ℕ) (more : List (List ℕ)) → begins_field line ≡ true → fields_with (fs ++ field_of line [] ∷ []) more ≡ fields_with fs (line ∷ more)
with_field fs line more begins =
    let own : own_lines (line ∷ more) ≡ [] = own_lines_on line more ∙ rw begins refl in
    let found : fields_of (line ∷ more) ≡ field_of line (own_lines more) ∷ fields_of more = rw begins refl in
    ap (λ l. l ++ fields_of more) (extended_push fs (field_of line []) (own_lines more))
    ∙ append_assoc fs (field_of line (own_lines more) ∷ []) (fields_of more)
    ∙ ap (λ l. fs ++ l) (sym found) ∙ ap (λ l. l ++ fields_of (line ∷ more)) (sym (extended_none fs) ∙ ap (extended fs) (sym own))

-- a line that begins none
with_line : (fs : List FieldValue) (line : List ℕ) (more : List (List ℕ)) → begins_field line ≡ false → fields_with (extended fs (line ∷ [])) more ≡ fields_with fs (line ∷ more)
with_line fs line more none =
    let own : own_lines (line ∷ more) ≡ line ∷ own_lines more = own_lines_on line more ∙ rw none refl in
    let found : fields_of (line ∷ more) ≡ fields_of more = rw none refl in
    ap (λ l. l ++ fields_of more) (extended_twice fs (line ∷ []) (own_lines more) ∙ ap (extended fs) (sym own)) ∙ ap (λ l. extended fs (own_lines (line ∷ more)) ++ l) (sym found)

-- what the scan keeps
pub record Scanned (bytes : List ℕ) (at : ℕ) (starts : List ℕ) : Type 0 where
  pub within : at ≤ length bytes
  pub whole : at < length bytes → IsWhole (take at bytes)
  pub rise : IsRising starts at
  pub fields : fields_with (fields_at bytes starts at) (header_lines (drop at bytes)) ≡ fields_of (header_lines bytes)
  pub body : at + body_of (drop at bytes) ≡ body_of bytes

at_field : (bytes starts : List ℕ) (at n : ℕ) (line : List ℕ) → at < length bytes → line ≡ first_text (drop at bytes) → n ≡ first_size (drop at bytes) → fields_at bytes (starts ++ at ∷ []) (at + n) ≡ fields_at bytes starts at ++ field_of line [] ∷ []
at_field bytes starts at n line h text size =
    let one : lines (take n (drop at bytes)) ≡ line ∷ [] = ap (λ k. lines (take k (drop at bytes))) size ∙ one_line (drop at bytes) (omega (arith, length-drop {A = ℕ})) ∙ ap (λ t. t ∷ []) (sym text) in
    let size_is : at + n - at ≡ n = omega arith in
    fields_push bytes starts at (at + n) ∙ ap (λ k. fields_at bytes starts at ++ raw_field (take k (drop at bytes)) ∷ []) size_is ∙ ap (λ l. fields_at bytes starts at ++ field_of_lines l ∷ []) one

-- the scan after one more line
pub scanned_on : (bytes starts after : List ℕ) (at n : ℕ) (line : List ℕ) → Scanned bytes at starts → at < length bytes → line ≡ first_text (take (length bytes - at) (drop at bytes)) → n ≡ first_size (take (length bytes - at) (drop at bytes)) → false ≡ eqb (length line) 0 → after ≡ with_start starts line at → Scanned bytes (at + n) after
scanned_on bytes starts after at n line before h t s filled is =
    let text : line ≡ first_text (drop at bytes) = t ∙ ap first_text (take_rest bytes at) in
    let size : n ≡ first_size (drop at bytes) = s ∙ ap first_size (take_rest bytes at) in
    let least : 1 ≤ n = omega (arith, length-drop {A = ℕ}) in
    let goes = line_at bytes at n line h t s filled in
    let one : lines (take n (drop at bytes)) ≡ line ∷ [] = ap (λ k. lines (take k (drop at bytes))) size ∙ one_line (drop at bytes) (omega (arith, length-drop {A = ℕ})) ∙ ap (λ l. l ∷ []) (sym text) in
    let old : fields_with (fields_at bytes starts at) (line ∷ header_lines (drop (at + n) bytes)) ≡ fields_of (header_lines bytes) = ap (fields_with (fields_at bytes starts at)) (sym goes.lines) ∙ before.fields in
    let body : at + n + body_of (drop (at + n) bytes) ≡ body_of bytes = omega (arith, goes.body, before.body) in
    elim (cases_Bool (begins_field line)) [
      | inl begins ↦
          let now : after ≡ starts ++ at ∷ [] = is ∙ ap (λ b. cond b (starts ++ at ∷ []) starts) begins in
          let fields : fields_at bytes after (at + n) ≡ fields_at bytes starts at ++ field_of line [] ∷ [] = ap (λ l. fields_at bytes l (at + n)) now ∙ at_field bytes starts at n line h text size in
          record {
            within = goes.within;
            whole = whole_after bytes at n h size;
            rise = subst (λ (l : List ℕ). IsRising l (at + n)) (sym now) (rise_push starts at (at + n) (omega arith) before.rise);
            fields = ap (λ fs. fields_with fs (header_lines (drop (at + n) bytes))) fields ∙ with_field (fields_at bytes starts at) line (header_lines (drop (at + n) bytes)) begins ∙ old;
            body = body;
          }
      | inr none ↦
          let now : after ≡ starts = is ∙ ap (λ b. cond b (starts ++ at ∷ []) starts) none in
          let fields : fields_at bytes after (at + n) ≡ extended (fields_at bytes starts at) (line ∷ []) = ap (λ l. fields_at bytes l (at + n)) now ∙ fields_more bytes starts at n line before.rise.within before.within (before.whole h) one in
          record {
            within = goes.within;
            whole = whole_after bytes at n h size;
            rise = subst (λ (l : List ℕ). IsRising l (at + n)) (sym now) (rise_on starts at (at + n) (omega arith) before.rise);
            fields = ap (λ fs. fields_with fs (header_lines (drop (at + n) bytes))) fields ∙ with_line (fields_at bytes starts at) line (header_lines (drop (at + n) bytes)) none ∙ old;
            body = body;
          }
    ]

-- a line that begins a field is not empty
field_some : (line : List ℕ) → begins_field line ≡ true → 0 < length line
field_some [] begins = absurd (cc)
field_some (x ∷ xs) begins = omega arith

-- a line that begins a field begins with the byte at its place
line_letter : (bytes line : List ℕ) (at : ℕ) → at < length bytes → line ≡ first_text (take (length bytes - at) (drop at bytes)) → begins_field line ≡ true → get_or line 0 0 ≡ get_or bytes at 0
line_letter bytes line at h t begins =
    let text : line ≡ first_text (drop at bytes) = t ∙ ap first_text (take_rest bytes at) in
    let front = front_first (drop at bytes) in
    let whole : line ++ front.back ≡ drop at bytes = ap (λ l. l ++ front.back) text ∙ front.is in
    let some : 0 < length line = field_some line begins in
    sym (get_or_append_left line front.back 0 0 some) ∙ ap (λ l. get_or l 0 0) whole ∙ get_or-drop at bytes 0 0 ∙ ap (λ k. get_or bytes k 0) (let q : at + 0 ≡ at = omega arith in q)

-- the letters after one more line
pub letters_on : (bytes starts starts_after letters letters_after : List ℕ) (at : ℕ) (line : List ℕ) → letters ≡ letters_at bytes starts → at < length bytes → line ≡ first_text (take (length bytes - at) (drop at bytes)) → starts_after ≡ with_start starts line at → letters_after ≡ with_letter letters line → letters_after ≡ letters_at bytes starts_after
letters_on bytes starts starts_after letters letters_after at line before h t s l =
    elim (cases_Bool (begins_field line)) [
      | inl begins ↦
          let places : starts_after ≡ starts ++ at ∷ [] = s ∙ ap (λ b. cond b (starts ++ at ∷ []) starts) begins in
          l ∙ ap (λ b. cond b (letters ++ get_or line 0 0 ∷ []) letters) begins
          ∙ ap (λ ls. ls ++ get_or line 0 0 ∷ []) before ∙ ap (λ b. letters_at bytes starts ++ b ∷ []) (line_letter bytes line at h t begins)
          ∙ sym (map-append (λ k. get_or bytes k 0) starts (at ∷ [])) ∙ ap (letters_at bytes) (sym places)
      | inr none ↦
          let places : starts_after ≡ starts = s ∙ ap (λ b. cond b (starts ++ at ∷ []) starts) none in
          l ∙ ap (λ b. cond b (letters ++ get_or line 0 0 ∷ []) letters) none ∙ before ∙ ap (letters_at bytes) (sym places)
    ]

-- the header where no line is left
pub scanned_all : (bytes starts : List ℕ) (at body : ℕ) → Scanned bytes at starts → header_lines (drop at bytes) ≡ [] → body ≡ body_of bytes → header_at bytes starts at body ≡ header_of bytes
unfolding header_of
scanned_all bytes starts at body scanned none is =
    let fields : fields_at bytes starts at ≡ fields_of (header_lines bytes) = sym (append-nil (fields_at bytes starts at)) ∙ ap (λ fs. fs ++ []) (sym (extended_none (fields_at bytes starts at))) ∙ ap (fields_with (fields_at bytes starts at)) (sym none) ∙ scanned.fields in
    ap (λ fs. header_with fs body) fields ∙ ap (λ n. header_with (fields_of (header_lines bytes)) n) is
