-- The lines of a multipart's parts are lines of its body, and none of them delimits.
use Rattle.std.proofs.Common.{◌≡◌, ℕ, zero, suc, ◌+◌, ◌-◌, ◌<◌, ◌≤◌, ◌==◌, ◌⊎◌, inl, inr, Bool, true, false, ◌&&◌, ◌||◌, cond, List, [], ◌∷◌, length, get_or, take, drop, max, refl, sym, ap, ◌∙◌, subst, arith, length-drop}
use Rattle.std.proofs.lemmas.Bool.{and_from, and_parts, cases_lt, cases_Bool}
use Rattle.std.proofs.lemmas.List.{drop_all, drop-drop, drop-take, take-take, length-take-le, get_or-take}
use Rattle.std.proofs.lemmas.List.Sums.{position_or_len_is, fails_before_first, passes_at_first}
use Rattle.std.proofs.Math.Seq.{take-length}
use Rattle.std.specs.Prelude.{filter, slice_range}
use Rattle.std.specs.List.{position_or_len, list_all}
use Rattle.std.specs.Str.Lines.{lines, strip_carriage_return}
use Rattle.header_words.specs.Lines.{is_newline, first_text, first_size}
use Rattle.header_words.proofs.FirstLine as header
use Rattle.mime_tree.specs.declared.body.Range.{Range}
use Rattle.mime_tree.specs.Body.{Line, lines_from, is_delimiter, is_delimiter_line, is_closing_line, places, places_between, places_after, range, IsWithin, line_of}
use Rattle.mime_tree.proofs.BodyLemmas.{lines_step, text_fits}

-- each line passes a test
abbrev pub Each : (List ℕ → Bool) → List ℕ → Type 0
Each q xs = list_all q (lines xs) ≡ true

take_over : (n : ℕ) (xs : List ℕ) → length xs ≤ n → take n xs ≡ xs
take_over zero [] h = refl
take_over (suc n) [] h = refl
take_over zero (x ∷ xs) h = absurd (omega arith)
take_over (suc n) (x ∷ xs) h = ap (λ ys. x ∷ ys) (take_over n xs (omega arith))

-- a text without a newline is one line at most
each_one : (q : List ℕ → Bool) (ys : List ℕ) → length ys ≤ position_or_len is_newline ys → q ys ≡ true → Each q ys
each_one q [] h e = refl
each_one q (y ∷ ys) h e =
    let xs = y ∷ ys in
    let some : 0 < length xs = omega arith in
    let over : drop (first_size xs) xs ≡ [] = drop_all (first_size xs) xs (omega (arith, header.first_size_last xs h)) in
    let one : lines xs ≡ xs ∷ [] = header.lines_step xs some ∙ ap (λ t. t ∷ lines (drop (first_size xs) xs)) (header.first_text_last xs h) ∙ ap (λ r. xs ∷ lines r) over in
    ap (list_all q) one ∙ and_from (q xs) true e refl

-- a line without its carriage return is a front of it
record Front (ys l : List ℕ) : Type 0 where
  size : ℕ
  is : l ≡ take size ys
  fits : size ≤ length ys

strip_front : (ys : List ℕ) → Front ys (strip_carriage_return ys)
strip_front ys = elim (get_or ys (length ys - 1) 0 == 13) as (λ t. Front ys (cond t (take (length ys - 1) ys) ys)) [
  | true ↦ record { size = length ys - 1; is = refl; fits = omega arith }
  | false ↦ record { size = length ys; is = sym (take-length ys); fits = omega arith }
]

-- a front before the first newline has none
front_free : (xs : List ℕ) (j : ℕ) → j ≤ position_or_len is_newline xs → j ≤ length xs → length (take j xs) ≤ position_or_len is_newline (take j xs)
front_free xs j h g =
    let size : length (take j xs) ≡ j = length-take-le j xs g in
    let at : position_or_len is_newline (take j xs) ≡ j =
    position_or_len_is is_newline (take j xs) j 0 (omega (arith, size)) (λ k lt. ap is_newline (get_or-take j xs k 0 lt) ∙ fails_before_first is_newline xs k 0 (omega arith)) (λ lt. absurd (omega (arith, size))) in
    omega (arith, size, at)

-- the first line alone
each_first : (q : List ℕ → Bool) (xs : List ℕ) → q (first_text xs) ≡ true → Each q (take (length (first_text xs)) xs)
each_first q xs e =
    let p = position_or_len is_newline xs in
    elim (cases_lt p (length xs)) [
      | inl lt ↦
          let f = strip_front (take p xs) in
          let whole : length (take p xs) ≡ p = length-take-le p xs (omega arith) in
          let j = f.size in
          let small : j ≤ p = omega (arith, f.fits, whole) in
          let is : first_text xs ≡ take j xs = header.first_text_found xs lt ∙ f.is ∙ take-take j p xs small in
          let size : length (first_text xs) ≡ j = ap length is ∙ length-take-le j xs (omega arith) in
          let here : take (length (first_text xs)) xs ≡ take j xs = ap (λ n. take n xs) size in
          subst (λ (ys : List ℕ). Each q ys) (sym here) (each_one q (take j xs) (front_free xs j small (omega arith)) (ap q (sym is) ∙ e))
      | inr ge ↦
          let is : first_text xs ≡ xs = header.first_text_last xs ge in
          let here : take (length (first_text xs)) xs ≡ xs = ap (λ n. take n xs) (ap length is) ∙ take-length xs in
          subst (λ (ys : List ℕ). Each q ys) (sym here) (each_one q xs ge (ap q (sym is) ∙ e))
    ]

-- the lines of a front that holds the first line
lines_front : (xs : List ℕ) (m : ℕ) → 0 < length xs → first_size xs + m ≤ length xs → lines (take (first_size xs + m) xs) ≡ first_text xs ∷ lines (take m (drop (first_size xs) xs))
lines_front xs m some fits =
    let p = position_or_len is_newline xs in
    let n = first_size xs in
    elim (cases_lt p (length xs)) [
      | inl lt ↦
          let size : n ≡ p + 1 = header.first_size_found xs lt in
          let ys = take (n + m) xs in
          let long : length ys ≡ n + m = length-take-le (n + m) xs fits in
          let at : position_or_len is_newline ys ≡ p =
          position_or_len_is is_newline ys p 0 (omega (arith, long, size))
          (λ k lt'. ap is_newline (get_or-take (n + m) xs k 0 (omega (arith, size))) ∙ fails_before_first is_newline xs k 0 lt')
          (λ lt'. ap is_newline (get_or-take (n + m) xs p 0 (omega (arith, size))) ∙ passes_at_first is_newline xs 0 lt) in
          let found : position_or_len is_newline ys < length ys = omega (arith, at, long, size) in
          let same_size : first_size ys ≡ n = header.first_size_found ys found ∙ ap (λ k. k + 1) at ∙ sym size in
          let same_text : first_text ys ≡ first_text xs =
          header.first_text_found ys found ∙ ap (λ k. strip_carriage_return (take k ys)) at
          ∙ ap strip_carriage_return (take-take p (n + m) xs (omega (arith, size))) ∙ sym (header.first_text_found xs lt) in
          header.lines_step ys (omega (arith, long, size)) ∙ ap (λ t. t ∷ lines (drop (first_size ys) ys)) same_text
          ∙ ap (λ k. first_text xs ∷ lines (drop k ys)) same_size ∙ ap (λ r. first_text xs ∷ lines r) (drop-take n m xs)
      | inr ge ↦
          let size : n ≡ length xs = header.first_size_last xs ge in
          let over : drop n xs ≡ [] = drop_all n xs (omega (arith, size)) in
          let none : take m (drop n xs) ≡ drop n xs = take_over m (drop n xs) (omega (arith, ap length over)) in
          ap lines (take_over (n + m) xs (omega (arith, size))) ∙ header.lines_step xs some ∙ ap (λ r. first_text xs ∷ lines r) (sym none)
    ]

-- a line delimits or passes the test
abbrev pub DelimitsOr : List ℕ → (List ℕ → Bool) → List ℕ → Type 0
DelimitsOr boundary q xs = Each (λ l. is_delimiter_line boundary l || q l) xs

or_other : (a b : Bool) → (a || b) ≡ true → a ≡ false → b ≡ true
or_other true b h e = absurd cc
or_other false b h e = h

abbrev delimiters_of : List ℕ → ℕ → ℕ → List ℕ → List Line
delimiters_of boundary start at xs = filter (is_delimiter boundary) (lines_from start at xs)

-- the lines before the first delimiter: they pass, and so do the lines that are delimiters or pass after it
data Cut (boundary : List ℕ) (q : List ℕ → Bool) (start at : ℕ) (xs : List ℕ) : Type 0 where
  none : delimiters_of boundary start at xs ≡ [] → Each q xs → Cut boundary q start at xs
  some : (d : Line) (more : List Line) (m k s : ℕ) → delimiters_of boundary start at xs ≡ d ∷ more → ((d.start ≡ start) × (m ≡ 0)) ⊎ (d.start ≡ at + m) → m ≤ length xs
      → d.next ≡ at + k → 0 < k → k ≤ length xs → s ≤ at + k → more ≡ delimiters_of boundary s (at + k) (drop k xs) → DelimitsOr boundary q (drop k xs) → Each q (take m xs) → Cut boundary q start at xs

size_some : (xs : List ℕ) → 0 < length xs → 0 < first_size xs
size_some xs h = omega arith

size_fits : (xs : List ℕ) → first_size xs ≤ length xs
size_fits xs = omega arith

drop_both : (n k : ℕ) (xs : List ℕ) → drop k (drop n xs) ≡ drop (n + k) xs
drop_both n k xs = drop-drop k n xs

on_delimiters : (boundary : List ℕ) (start at : ℕ) (xs : List ℕ) → 0 < length xs → is_delimiter_line boundary (first_text xs) ≡ false → delimiters_of boundary start at xs ≡ delimiters_of boundary (at + length (first_text xs)) (at + first_size xs) (drop (first_size xs) xs)
on_delimiters boundary start at xs more h =
    let n = first_size xs in
    let l = first_text xs in
    let rest = delimiters_of boundary (at + length l) (at + n) (drop n xs) in
    ap (filter (is_delimiter boundary)) (lines_step start at xs more) ∙ ap (λ t. cond t (line_of start (at + n) l ∷ rest) rest) h

cut_here : (boundary : List ℕ) (q : List ℕ → Bool) (start at : ℕ) (xs : List ℕ) → 0 < length xs → is_delimiter_line boundary (first_text xs) ≡ true → DelimitsOr boundary q (drop (first_size xs) xs) → Cut boundary q start at xs
cut_here boundary q start at xs more h rest =
    let n = first_size xs in
    let l = first_text xs in
    let ds : delimiters_of boundary start at xs ≡ line_of start (at + n) l ∷ delimiters_of boundary (at + length l) (at + n) (drop n xs) =
    ap (filter (is_delimiter boundary)) (lines_step start at xs more) ∙ ap (λ t. cond t (line_of start (at + n) l ∷ delimiters_of boundary (at + length l) (at + n) (drop n xs)) (delimiters_of boundary (at + length l) (at + n) (drop n xs))) h in
    some (line_of start (at + n) l) (delimiters_of boundary (at + length l) (at + n) (drop n xs)) 0 n (at + length l) ds (inl (refl, refl)) (omega arith) refl (size_some xs more) (size_fits xs) (omega (arith, text_fits xs)) refl rest refl

-- a line that doesn't delimit goes before the rest
cut_on : (boundary : List ℕ) (q : List ℕ → Bool) (start at : ℕ) (xs : List ℕ) → 0 < length xs → is_delimiter_line boundary (first_text xs) ≡ false → q (first_text xs) ≡ true → Cut boundary q (at + length (first_text xs)) (at + first_size xs) (drop (first_size xs) xs) → Cut boundary q start at xs
cut_on boundary q start at xs more h e (none is each) =
    let n = first_size xs in
    let ds : delimiters_of boundary start at xs ≡ [] = on_delimiters boundary start at xs more h ∙ is in
    none ds (ap (list_all q) (header.lines_step xs more) ∙ and_from (q (first_text xs)) (list_all q (lines (drop n xs))) e each)
cut_on boundary q start at xs more h e (some d rest m k s is (inl first) fits next pos k_fits s_fits rest_is later each) =
    let n = first_size xs in
    let l = first_text xs in
    let left : length (drop n xs) ≡ length xs - n = length-drop n xs in
    let ds : delimiters_of boundary start at xs ≡ d ∷ rest = on_delimiters boundary start at xs more h ∙ is in
    let far : at + n + k ≡ at + (n + k) = omega arith in
    some d rest (length l) (n + k) s ds (inr first.0) (omega (arith, text_fits xs, size_fits xs)) (next ∙ far) (omega arith) (omega (arith, left, size_fits xs)) (omega arith)
    (rest_is ∙ ap (λ p. delimiters_of boundary s p (drop k (drop n xs))) far ∙ ap (delimiters_of boundary s (at + (n + k))) (drop_both n k xs))
    (subst (λ (ys : List ℕ). DelimitsOr boundary q ys) (drop_both n k xs) later)
    (each_first q xs e)
cut_on boundary q start at xs more h e (some d rest m k s is (inr place) fits next pos k_fits s_fits rest_is later each) =
    let n = first_size xs in
    let l = first_text xs in
    let left : length (drop n xs) ≡ length xs - n = length-drop n xs in
    let ds : delimiters_of boundary start at xs ≡ d ∷ rest = on_delimiters boundary start at xs more h ∙ is in
    let far : at + n + k ≡ at + (n + k) = omega arith in
    let further : at + n + m ≡ at + (n + m) = omega arith in
    let within : n + m ≤ length xs = omega (arith, left, size_fits xs) in
    some d rest (n + m) (n + k) s ds (inr (place ∙ further)) within (next ∙ far) (omega arith) (omega (arith, left, size_fits xs)) (omega arith)
    (rest_is ∙ ap (λ p. delimiters_of boundary s p (drop k (drop n xs))) far ∙ ap (delimiters_of boundary s (at + (n + k))) (drop_both n k xs))
    (subst (λ (ys : List ℕ). DelimitsOr boundary q ys) (drop_both n k xs) later)
    (ap (list_all q) (lines_front xs m more within) ∙ and_from (q l) (list_all q (lines (take m (drop n xs)))) e each)

cut : (fuel : ℕ) (boundary : List ℕ) (q : List ℕ → Bool) (start at : ℕ) (xs : List ℕ) → length xs ≤ fuel → DelimitsOr boundary q xs → Cut boundary q start at xs
cut fuel boundary q start at [] h each = none refl refl
cut zero boundary q start at (x ∷ rest) h each = absurd (omega arith)
cut (suc fuel) boundary q start at (x ∷ rest) h each =
    let xs = x ∷ rest in
    let more : 0 < length xs = omega arith in
    let n = first_size xs in
    let l = first_text xs in
    let all : ((is_delimiter_line boundary l || q l) && list_all (λ t. is_delimiter_line boundary t || q t) (lines (drop n xs))) ≡ true =
    ap (list_all (λ t. is_delimiter_line boundary t || q t)) (sym (header.lines_step xs more)) ∙ each in
    let after : DelimitsOr boundary q (drop n xs) = (and_parts (is_delimiter_line boundary l || q l) _ all).1 in
    elim (cases_Bool (is_delimiter_line boundary l)) [
      | inl yes' ↦ cut_here boundary q start at xs more yes' after
      | inr no' ↦ cut_on boundary q start at xs more no' (or_other (is_delimiter_line boundary l) (q l) ((and_parts _ _ all).0) no') (cut fuel boundary q (at + length l) (at + n) (drop n xs) (omega (arith, length-drop n xs, size_some xs more)) after)
    ]

-- the lines of each place pass, and it is a place of the text
pub record Passes (q : List ℕ → Bool) (text : List ℕ) (r : Range) : Type 0 where
  pub each : Each q (slice_range text r.from r.to)
  pub within : IsWithin (length text) r

abbrev pub EachPasses : (List ℕ → Bool) → List ℕ → List Range → Type 0
EachPasses q text [] = Unit {0}
EachPasses q text (r ∷ rs) = Passes q text r × EachPasses q text rs

place_ends : (from start m : ℕ) (d : Line) → start ≤ from → ((d.start ≡ start) × (m ≡ 0)) ⊎ (d.start ≡ from + m) → max from d.start ≡ from + m
place_ends from start m d le (inl h) = omega (arith, h.0, h.1)
place_ends from start m d le (inr h) = omega (arith, h)

if_closes : (closed : Bool) (q : List ℕ → Bool) (text : List ℕ) (rs : List Range) → EachPasses q text rs → EachPasses q text (cond closed [] rs)
if_closes true q text rs h = tt
if_closes false q text rs h = h

passes_to : (q : List ℕ → Bool) (text : List ℕ) (from to m : ℕ) → from ≤ length text → m ≤ length (drop from text) → to ≡ from + m → Each q (take m (drop from text)) → Passes q text (range from to)
passes_to q text from to m le fits e each =
    let left : length (drop from text) ≡ length text - from = length-drop from text in
    let size : to - from ≡ m = omega (arith, e) in
    record {
      each = subst (λ (k : ℕ). Each q (take k (drop from text))) (sym size) each;
      within = record { ordered = omega (arith, e); within = omega (arith, e, left) };
    }

-- the places after a delimiter, where those after the next one pass
after_step : (boundary : List ℕ) (q : List ℕ → Bool) (text : List ℕ) (start from : ℕ) → start ≤ from → from ≤ length text
    → ((k s : ℕ) → 0 < k → k ≤ length (drop from text) → s ≤ from + k → DelimitsOr boundary q (drop (from + k) text) → EachPasses q text (places_after boundary (length text) (from + k) (delimiters_of boundary s (from + k) (drop (from + k) text))))
    → Cut boundary q start from (drop from text) → EachPasses q text (places_after boundary (length text) from (delimiters_of boundary start from (drop from text)))
after_step boundary q text start from le fits next (none is each) =
    let left : length (drop from text) ≡ length text - from = length-drop from text in
    let whole : take (length (drop from text)) (drop from text) ≡ drop from text = take-length (drop from text) in
    let one : Passes q text (range from (length text)) = passes_to q text from (length text) (length (drop from text)) fits (omega arith) (omega (arith, left)) (subst (λ (ys : List ℕ). Each q ys) (sym whole) each) in
    subst (λ (ds : List Line). EachPasses q text (places_after boundary (length text) from ds)) (sym is) (one, tt)
after_step boundary q text start from le fits next (some d more m k s is place m_fits d_next pos k_fits s_fits more_is later each) =
    let one : Passes q text (range from (max from d.start)) = passes_to q text from (max from d.start) m fits m_fits (place_ends from start m d le place) each in
    let both : drop k (drop from text) ≡ drop (from + k) text = drop-drop k from text in
    let rest_is : more ≡ delimiters_of boundary s (from + k) (drop (from + k) text) = more_is ∙ ap (delimiters_of boundary s (from + k)) both in
    let rest = next k s pos k_fits s_fits (subst (λ (ys : List ℕ). DelimitsOr boundary q ys) both later) in
    let moved : EachPasses q text (places_after boundary (length text) (from + k) more) = subst (λ (ds : List Line). EachPasses q text (places_after boundary (length text) (from + k) ds)) (sym rest_is) rest in
    let at : EachPasses q text (places_after boundary (length text) d.next more) = subst (λ (p : ℕ). EachPasses q text (places_after boundary (length text) p more)) (sym d_next) moved in
    subst (λ (ds : List Line). EachPasses q text (places_after boundary (length text) from ds)) (sym is) (one, if_closes (is_closing_line boundary d.text) q text (places_after boundary (length text) d.next more) at)

after_passes : (fuel : ℕ) (boundary : List ℕ) (q : List ℕ → Bool) (text : List ℕ) (start from : ℕ) → length text - from ≤ fuel → start ≤ from → from ≤ length text → DelimitsOr boundary q (drop from text) → EachPasses q text (places_after boundary (length text) from (delimiters_of boundary start from (drop from text)))
after_passes zero boundary q text start from small le fits all =
    let left : length (drop from text) ≡ length text - from = length-drop from text in
    after_step boundary q text start from le fits (λ k s pos k_fits. absurd (omega (arith, left))) (cut (length (drop from text)) boundary q start from (drop from text) (omega arith) all)
after_passes (suc fuel) boundary q text start from small le fits all =
    let left : length (drop from text) ≡ length text - from = length-drop from text in
    after_step boundary q text start from le fits
    (λ k s pos k_fits s_fits rest. after_passes fuel boundary q text s (from + k) (omega (arith, left)) s_fits (omega (arith, left)) rest)
    (cut (length (drop from text)) boundary q start from (drop from text) (omega arith) all)

between_passes : (boundary : List ℕ) (q : List ℕ → Bool) (text : List ℕ) → Cut boundary q 0 0 text → EachPasses q text (places_between boundary (length text) (delimiters_of boundary 0 0 text))
between_passes boundary q text (none is each) = subst (λ (ds : List Line). EachPasses q text (places_between boundary (length text) ds)) (sym is) tt
between_passes boundary q text (some d more m k s is place m_fits d_next pos k_fits s_fits more_is later each) =
    let at : d.next ≡ k = omega (arith, d_next) in
    let rest_is : more ≡ delimiters_of boundary s d.next (drop d.next text) = more_is ∙ ap (λ p. delimiters_of boundary s p (drop k text)) (sym d_next) ∙ ap (λ p. delimiters_of boundary s d.next (drop p text)) (sym at) in
    let all : DelimitsOr boundary q (drop d.next text) = subst (λ (p : ℕ). DelimitsOr boundary q (drop p text)) (sym at) later in
    let rest = after_passes (length text) boundary q text s d.next (omega arith) (omega (arith, at)) (omega (arith, at)) all in
    let moved : EachPasses q text (places_after boundary (length text) d.next more) = subst (λ (ds : List Line). EachPasses q text (places_after boundary (length text) d.next ds)) (sym rest_is) rest in
    subst (λ (ds : List Line). EachPasses q text (places_between boundary (length text) ds)) (sym is) (if_closes (is_closing_line boundary d.text) q text (places_after boundary (length text) d.next more) moved)

pub places_pass : (boundary : List ℕ) (q : List ℕ → Bool) (text : List ℕ) → DelimitsOr boundary q text → EachPasses q text (places boundary text)
unfolding places
places_pass boundary q text all = between_passes boundary q text (cut (length text) boundary q 0 0 text (omega arith) all)
