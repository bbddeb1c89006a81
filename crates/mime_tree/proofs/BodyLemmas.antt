-- The lines of a text, one at a time, and the places that they leave.
use Rattle.std.proofs.Common.{◌≡◌, ℕ, ◌+◌, ◌-◌, ◌<◌, ◌≤◌, inl, inr, true, false, cond, eqb, List, [], ◌∷◌, ◌++◌, length, get_or, take, drop, refl, sym, ap, ◌∙◌, subst, arith, length-drop, length-append, append_assoc, append-nil}
use Rattle.std.specs.List.{position_or_len, slice_split, before_first, after_first}
use Rattle.std.proofs.lemmas.Bool.{cases_lt, cases_Bool, lt-ltb}
use Rattle.std.proofs.lemmas.List.{drop_all, length-take-le, take_rest, drop-drop}
use Rattle.std.proofs.lemmas.List.Splits.{slice_split_first}
use Rattle.std.specs.Str.Lines.{strip_carriage_return}
use Rattle.header_words.specs.Lines.{is_newline, first_text, first_size}
use Rattle.std.specs.Prelude.{All, filter, Option, Some, None, max, IfSome}
use Rattle.std.proofs.lemmas.List.Elements.{All-push}
use Rattle.header_words.proofs.FirstLine.{slice_split_some, slice_split_whole, first_size_found, first_text_found, first_size_last, first_text_last}
use Rattle.mime_tree.specs.declared.body.Range.{Range}
use Rattle.mime_tree.specs.Body.{Line, placed, lines_from, is_delimiter, is_delimiter_line, is_closing_line, places, places_between, places_after, delimiters, with_part, line_of, range, IsWithin}

line_last : (start at : ℕ) (rest : List ℕ) → 0 < length rest → placed start at (rest ∷ []) ≡ line_of start (at + length rest) rest ∷ []
line_last start at rest some = rw (lt-ltb 0 (length rest) some) refl

-- the lines of a text are its first and those of the rest
pub lines_step : (start at : ℕ) (rest : List ℕ) → 0 < length rest → lines_from start at rest ≡ line_of start (at + first_size rest) (first_text rest) ∷ lines_from (at + length (first_text rest)) (at + first_size rest) (drop (first_size rest) rest)
lines_step start at rest some =
    elim (cases_lt (position_or_len is_newline rest) (length rest)) [
      | inl lt ↦
          let front = before_first is_newline rest in
          let after = slice_split_some is_newline (after_first is_newline rest) in
          let cut : slice_split is_newline rest ≡ front ∷ (after.head ∷ after.tail) = slice_split_first is_newline rest 0 lt ∙ ap (λ ps. front ∷ ps) after.is in
          let size : length front + 1 ≡ first_size rest = omega (arith, length-take-le (position_or_len is_newline rest) rest (omega arith)) in
          ap (placed start at) cut
          ∙ ap (λ n. line_of start (at + n) (strip_carriage_return front) ∷ placed (at + length (strip_carriage_return front)) (at + n) (after.head ∷ after.tail)) size
          ∙ ap (λ ps. line_of start (at + first_size rest) (strip_carriage_return front) ∷ placed (at + length (strip_carriage_return front)) (at + first_size rest) ps) (sym after.is)
          ∙ ap (λ t. line_of start (at + first_size rest) t ∷ lines_from (at + length t) (at + first_size rest) (after_first is_newline rest)) (sym (first_text_found rest lt))
          ∙ ap (λ n. line_of start (at + first_size rest) (first_text rest) ∷ lines_from (at + length (first_text rest)) (at + first_size rest) (drop n rest)) (sym (first_size_found rest lt))
      | inr ge ↦
          let over : drop (first_size rest) rest ≡ [] = drop_all (first_size rest) rest (omega (arith, first_size_last rest ge)) in
          ap (placed start at) (slice_split_whole is_newline rest ge)
          ∙ line_last start at rest some
          ∙ ap (λ n. line_of start (at + n) rest ∷ []) (sym (first_size_last rest ge))
          ∙ ap (λ t. line_of start (at + first_size rest) t ∷ []) (sym (first_text_last rest ge))
          ∙ ap (λ r. line_of start (at + first_size rest) (first_text rest) ∷ lines_from (at + length (first_text rest)) (at + first_size rest) r) (sym over)
    ]

strip_fits : (l : List ℕ) → length (strip_carriage_return l) ≤ length l
strip_fits l = elim (eqb (get_or l (length l - 1) 0) 13) as (λ t. length (cond t (take (length l - 1) l) l) ≤ length l) [
  | true ↦ omega (arith, length-take-le (length l - 1) l (omega arith))
  | false ↦ omega arith
]

pub text_fits : (rest : List ℕ) → length (first_text rest) ≤ first_size rest
text_fits rest =
    elim (cases_lt (position_or_len is_newline rest) (length rest)) [
      | inl lt ↦ omega (arith, ap length (first_text_found rest lt), first_size_found rest lt, strip_fits (before_first is_newline rest), length-take-le (position_or_len is_newline rest) rest (omega arith))
      | inr ge ↦ omega (arith, ap length (first_text_last rest ge), first_size_last rest ge)
    ]

-- the line_of at a place, and the lines after it
pub record Turn (text : List ℕ) (start at n : ℕ) (says : List ℕ) : Type 0 where
  pub within : at + n ≤ length text
  pub more : 0 < n
  pub fits : length says ≤ n
  pub lines : lines_from start at (drop at text) ≡ line_of start (at + n) says ∷ lines_from (at + length says) (at + n) (drop (at + n) text)

pub turn : (text : List ℕ) (start at n : ℕ) (says : List ℕ) → at < length text → says ≡ first_text (take (length text - at) (drop at text)) → n ≡ first_size (take (length text - at) (drop at text)) → Turn text start at n says
turn text start at n says h t s =
    let rest = drop at text in
    let some : 0 < length rest = omega (arith, length-drop {A = ℕ}) in
    let text_is : says ≡ first_text rest = t ∙ ap first_text (take_rest text at) in
    let size_is : n ≡ first_size rest = s ∙ ap first_size (take_rest text at) in
    let after : drop (first_size rest) rest ≡ drop (at + n) text = drop-drop (first_size rest) at text ∙ ap (λ k. drop (at + k) text) (sym size_is) in
    record {
      within = omega (arith, length-drop {A = ℕ});
      more = omega arith;
      fits = omega (arith, ap length text_is, text_fits rest);
      lines =
          lines_step start at rest some
          ∙ ap (λ k. line_of start (at + k) (first_text rest) ∷ lines_from (at + length (first_text rest)) (at + k) (drop (first_size rest) rest)) (sym size_is)
          ∙ ap (λ k. line_of start (at + n) k ∷ lines_from (at + length k) (at + n) (drop (first_size rest) rest)) (sym text_is)
          ∙ ap (λ r. line_of start (at + n) says ∷ lines_from (at + length says) (at + n) r) after;
    }

-- the places that are left, where a part may be begun
abbrev pub places_left : List ℕ → ℕ → Option ℕ → List Line → List Range
places_left boundary end None ds = places_between boundary end ds
places_left boundary end (Some from) ds = places_after boundary end from ds

-- a line that is no delimiter
pub passed : (boundary text : List ℕ) (start at n : ℕ) (says : List ℕ) → Turn text start at n says → false ≡ is_delimiter_line boundary says → delimiters boundary start at (drop at text) ≡ delimiters boundary (at + length says) (at + n) (drop (at + n) text)
passed boundary text start at n says t h = ap (filter (is_delimiter boundary)) t.lines ∙ rw (← h) refl

-- a delimiter
pub met : (boundary text : List ℕ) (start at n : ℕ) (says : List ℕ) → Turn text start at n says → true ≡ is_delimiter_line boundary says → delimiters boundary start at (drop at text) ≡ line_of start (at + n) says ∷ delimiters boundary (at + length says) (at + n) (drop (at + n) text)
met boundary text start at n says t h = ap (filter (is_delimiter boundary)) t.lines ∙ rw (← h) refl

-- ---- the places that are found, and those that are left

abbrev pub Continues : List ℕ → List ℕ → List Range → Option ℕ → List Line → Type 0
Continues boundary text found begun ds = found ++ places_left boundary (length text) begun ds ≡ places boundary text

pub continues_first : (boundary text : List ℕ) (found : List Range) → found ≡ [] → Continues boundary text found None (delimiters boundary 0 0 text)
unfolding places
continues_first boundary text found e = ap (λ f. f ++ places_between boundary (length text) (delimiters boundary 0 0 text)) e

-- a delimiter that closes nothing
pub continues_on : (boundary text : List ℕ) (found : List Range) (begun : Option ℕ) (d : Line) (more : List Line) → false ≡ is_closing_line boundary d.text → Continues boundary text found begun (d ∷ more) → Continues boundary text (with_part found begun d.start) (Some d.next) more
continues_on boundary text found None d more g s =
    let cut : places_between boundary (length text) (d ∷ more) ≡ places_after boundary (length text) d.next more = rw (← g) refl in
    ap (λ ps. found ++ ps) (sym cut) ∙ s
continues_on boundary text found (Some from) d more g s =
    let cut : places_after boundary (length text) from (d ∷ more) ≡ range from (max from d.start) ∷ places_after boundary (length text) d.next more = rw (← g) refl in
    append_assoc found (range from (max from d.start) ∷ []) (places_after boundary (length text) d.next more) ∙ ap (λ ps. found ++ ps) (sym cut) ∙ s

-- a delimiter that closes
pub continues_closed : (boundary text : List ℕ) (found : List Range) (begun : Option ℕ) (d : Line) (more : List Line) → true ≡ is_closing_line boundary d.text → Continues boundary text found begun (d ∷ more) → with_part found begun d.start ≡ places boundary text
continues_closed boundary text found None d more g s =
    let cut : places_between boundary (length text) (d ∷ more) ≡ [] = rw (← g) refl in
    sym (append-nil found) ∙ ap (λ ps. found ++ ps) (sym cut) ∙ s
continues_closed boundary text found (Some from) d more g s =
    let cut : places_after boundary (length text) from (d ∷ more) ≡ range from (max from d.start) ∷ [] = rw (← g) refl in
    ap (λ ps. found ++ ps) (sym cut) ∙ s

-- no delimiter is left
pub continues_end : (boundary text : List ℕ) (found : List Range) (begun : Option ℕ) → IfSome begun (λ f. f ≤ length text) → Continues boundary text found begun [] → with_part found begun (length text) ≡ places boundary text
continues_end boundary text found None h s = sym (append-nil found) ∙ s
continues_end boundary text found (Some from) h s = ap (λ n. found ++ range from n ∷ []) (let q : max from (length text) ≡ length text = omega arith in q) ∙ s

-- the part that is begun is one of the places
pub continues_more : (boundary text : List ℕ) (found : List Range) (begun : Option ℕ) (d : Line) (more : List Line) → Continues boundary text found begun (d ∷ more) → length (with_part found begun d.start) ≤ length (places boundary text)
continues_more boundary text found begun d more s =
    elim (cases_Bool (is_closing_line boundary d.text)) [
      | inl closing ↦ omega (arith, ap length (continues_closed boundary text found begun d more (sym closing) s))
      | inr opening ↦ omega (arith, ap length (continues_on boundary text found begun d more (sym opening) s), length-append (with_part found begun d.start) (places_after boundary (length text) d.next more))
    ]

pub part_on : (found now : List Range) (from line_break : ℕ) (begun : Option ℕ) → begun ≡ Some from → now ≡ found ++ range from (max from line_break) ∷ [] → now ≡ with_part found begun line_break
part_on found now from line_break begun e f = f ∙ sym (ap (λ o. with_part found o line_break) e)

pub begun_at : (begun : Option ℕ) (from size : ℕ) → begun ≡ Some from → from ≤ size → IfSome begun (λ f. f ≤ size)
begun_at begun from size e h = subst (λ (o : Option ℕ). IfSome o (λ f. f ≤ size)) (sym e) h

pub part_within : (size : ℕ) (found now : List Range) (begun : Option ℕ) (line_break : ℕ) → now ≡ with_part found begun line_break → IfSome begun (λ f. f ≤ size) → line_break ≤ size → All (IsWithin size) found → All (IsWithin size) now
part_within size found now None line_break e h g all = subst (λ (rs : List Range). All (IsWithin size) rs) (sym e) all
part_within size found now (Some from) line_break e h g all =
    let here : IsWithin size (range from (max from line_break)) = record { ordered = omega arith; within = omega arith } in
    subst (λ (rs : List Range). All (IsWithin size) rs) (sym e) (All-push (IsWithin size) found (range from (max from line_break)) all here)

none_within : (size : ℕ) → All (IsWithin size) []
none_within size = λ k d h. absurd (omega arith)

pub within_none : (size : ℕ) (found : List Range) → found ≡ [] → All (IsWithin size) found
within_none size found e = subst (λ (rs : List Range). All (IsWithin size) rs) (sym e) (none_within size)

-- a delimiter that closes nothing, and the places with the part before it
pub parts_on : (boundary text : List ℕ) (found now : List Range) (begun : Option ℕ) (ds : List Line) (d : Line) (more : List Line) → now ≡ with_part found begun d.start → ds ≡ d ∷ more → false ≡ is_closing_line boundary d.text → Continues boundary text found begun ds → Continues boundary text now (Some d.next) more
parts_on boundary text found now begun ds d more e f g s =
    ap (λ ps. ps ++ places_left boundary (length text) (Some d.next) more) e
    ∙ continues_on boundary text found begun d more g (ap (λ l. found ++ places_left boundary (length text) begun l) (sym f) ∙ s)
