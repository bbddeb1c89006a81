-- Lines without `--` and the boundary in them are no delimiters.
use Rattle.std.proofs.Common.{◌≡◌, ℕ, zero, suc, ◌+◌, ◌-◌, ◌<◌, ◌≤◌, inl, inr, Bool, true, false, ◌&&◌, cond, eqb, List, [], ◌∷◌, ◌++◌, length, get_or, take, drop, refl, sym, ap, ◌∙◌, subst, arith, length-drop, length-append, append_assoc}
use Rattle.std.specs.Prelude.{filter, codes, not}
use Rattle.std.specs.List.{position_or_len, starts_with}
use Rattle.std.proofs.lemmas.Bool.{cases_lt, cases_Bool, eqb-true}
use Rattle.std.proofs.lemmas.Bool.Decides.{Decides-eqb}
use Rattle.std.proofs.lemmas.Slice.Eq.{starts_is}
use Rattle.std.proofs.lemmas.List.{drop-drop, take_rest, length-take-le, get_or-drop, get_or-take, get_or_append_left}
use Rattle.std.proofs.lemmas.List.Sums.{prefix_len_passes, passes_at_first}
use Rattle.std.specs.Str.Lines.{strip_carriage_return}
use Rattle.memchr.specs.Find.{OccursAt, Nowhere}
use Rattle.header_words.specs.Lines.{is_newline, first_text, first_size}
use Rattle.header_words.proofs.FirstLine.{first_text_found, first_size_found}
use Rattle.header_words.proofs.WholeLines.{IsFront, front_first}
use Rattle.mime_tree.specs.Body.{is_delimiter, is_delimiter_line, is_closing_line, has_boundary, delimiters}
use Rattle.mime_tree.proofs.BodyLemmas.{lines_step}

abbrev pub needle_of : List ℕ → List ℕ
needle_of boundary = codes "--" ++ boundary

-- ---- a delimiter has the needle at its front

begins_of : (boundary text : List ℕ) → is_delimiter_line boundary text ≡ true → has_boundary boundary text ≡ true
unfolding is_delimiter_line is_closing_line
begins_of boundary text h =
    elim (cases_Bool (has_boundary boundary text)) [
      | inl begun ↦ begun
      | inr other ↦ (let f = rw other at h in absurd (cc))
    ]

both : (a b : Bool) → (a && b) ≡ true → (a ≡ true) × (b ≡ true)
both true true h = (refl, refl)
both true false h = absurd (cc)
both false b h = absurd (cc)

record IsAtFront (needle text : List ℕ) : Type 0 where
  more : List ℕ
  is : text ≡ needle ++ more

needle_front : (boundary text : List ℕ) → has_boundary boundary text ≡ true → IsAtFront (needle_of boundary) text
needle_front boundary text h =
    let parts = both (starts_with eqb text (codes "--")) (starts_with eqb (drop 2 text) boundary) h in
    let dashes : text ≡ codes "--" ++ drop 2 text = (starts_is Decides-eqb text (codes "--") (starts_with eqb text (codes "--")) refl).0 parts.0 in
    let rest : drop 2 text ≡ boundary ++ drop (length boundary) (drop 2 text) = (starts_is Decides-eqb (drop 2 text) boundary (starts_with eqb (drop 2 text) boundary) refl).0 parts.1 in
    record { more = drop (length boundary) (drop 2 text); is = dashes ∙ ap (λ l. codes "--" ++ l) rest }

occurs_front : (needle more : List ℕ) → OccursAt (needle ++ more) needle 0
occurs_front needle more = record {
  fits = omega (arith, length-append needle more);
  reads = λ j h. ap (λ k. get_or (needle ++ more) k 0) (let q : 0 + j ≡ j = omega arith in q) ∙ get_or_append_left needle more 0 j h;
}

occurs_delimiter : (boundary rest : List ℕ) → is_delimiter_line boundary (first_text rest) ≡ true → OccursAt rest (needle_of boundary) 0
occurs_delimiter boundary rest h =
    let at = needle_front boundary (first_text rest) (begins_of boundary (first_text rest) h) in
    let front : IsFront (first_text rest) rest = front_first rest in
    let whole : (needle_of boundary) ++ (at.more ++ front.back) ≡ rest = sym (append_assoc (needle_of boundary) at.more front.back) ∙ ap (λ l. l ++ front.back) (sym at.is) ∙ front.is in
    subst (λ (l : List ℕ). OccursAt l (needle_of boundary) 0) whole (occurs_front (needle_of boundary) (at.more ++ front.back))

-- ---- lines before the needle

pub record NoneBelow (rest needle : List ℕ) (k : ℕ) : Type 0 where
  pub none : (j : ℕ) → j < k → OccursAt rest needle j → ⊥

occurs_later : (rest needle : List ℕ) (n j : ℕ) → n ≤ length rest → OccursAt (drop n rest) needle j → OccursAt rest needle (n + j)
occurs_later rest needle n j h at = record {
  fits = (let f = at.fits in omega (arith, length-drop n rest));
  reads = λ i k. ap (λ m. get_or rest m 0) (let q : n + j + i ≡ n + (j + i) = omega arith in q) ∙ sym (get_or-drop n rest (j + i) 0) ∙ at.reads i k;
}

none_later : (rest needle : List ℕ) (n k m : ℕ) → n ≤ length rest → n + k ≤ m → NoneBelow rest needle m → NoneBelow (drop n rest) needle k
none_later rest needle n k m h le none = record { none = λ j lt at. none.none (n + j) (omega arith) (occurs_later rest needle n j h at) }

first_passed : (boundary rest : List ℕ) (start at : ℕ) → 0 < length rest → (OccursAt rest (needle_of boundary) 0 → ⊥) → delimiters boundary start at rest ≡ delimiters boundary (at + length (first_text rest)) (at + first_size rest) (drop (first_size rest) rest)
first_passed boundary rest start at some none =
    elim (cases_Bool (is_delimiter_line boundary (first_text rest))) [
      | inl delimiting ↦ absurd (none (occurs_delimiter boundary rest delimiting))
      | inr other ↦ ap (filter (is_delimiter boundary)) (lines_step start at rest some) ∙ rw other refl
    ]

pub no_delimiter : (fuel : ℕ) (boundary rest : List ℕ) (start at : ℕ) → length rest ≤ fuel → NoneBelow rest (needle_of boundary) (length rest) → delimiters boundary start at rest ≡ []
no_delimiter fuel boundary [] start at h none = refl
no_delimiter zero boundary (b ∷ rest) start at h none = absurd (omega arith)
no_delimiter (suc fuel) boundary (b ∷ rest) start at h none =
    let text : List ℕ = b ∷ rest in
    let n = first_size text in
    first_passed boundary text start at (omega arith) (λ here. none.none 0 (omega arith) here)
    ∙ no_delimiter fuel boundary (drop n text) (at + length (first_text text)) (at + n) (omega (arith, length-drop n text)) (none_later text (needle_of boundary) n (length (drop n text)) (length text) (omega arith) (omega (arith, length-drop n text)) none)

-- ---- up to a line feed before the needle

-- one, if the byte before a place is a CR
abbrev return_len : List ℕ → ℕ → ℕ
return_len xs n = cond (eqb (get_or xs (n - 1) 0) 13) 1 0

strip_len : (n : ℕ) (xs : List ℕ) → n ≤ length xs → length (strip_carriage_return (take n xs)) ≡ n - return_len xs n
strip_len zero xs h = omega arith
strip_len (suc n) xs h =
    let size : length (take (suc n) xs) ≡ suc n = length-take-le (suc n) xs h in
    let last : get_or (take (suc n) xs) (length (take (suc n) xs) - 1) 0 ≡ get_or xs (suc n - 1) 0 = ap (λ k. get_or (take (suc n) xs) (k - 1) 0) size ∙ get_or-take (suc n) xs (suc n - 1) 0 (omega arith) in
    elim (cases_Bool (eqb (get_or xs (suc n - 1) 0) 13)) [
      | inl return ↦
          let test : eqb (get_or (take (suc n) xs) (length (take (suc n) xs) - 1) 0) 13 ≡ true = ap (λ k. eqb k 13) last ∙ return in
          ap (λ t. length (cond t (take (length (take (suc n) xs) - 1) (take (suc n) xs)) (take (suc n) xs))) test
          ∙ length-take-le (length (take (suc n) xs) - 1) (take (suc n) xs) (omega arith) ∙ ap (λ k. k - 1) size ∙ sym (ap {B = ℕ} (λ t. suc n - cond t 1 0) return)
      | inr other ↦
          let test : eqb (get_or (take (suc n) xs) (length (take (suc n) xs) - 1) 0) 13 ≡ false = ap (λ k. eqb k 13) last ∙ other in
          ap (λ t. length (cond t (take (length (take (suc n) xs) - 1) (take (suc n) xs)) (take (suc n) xs))) test
          ∙ size ∙ (let q : suc n ≡ suc n - 0 = omega arith in q) ∙ sym (ap {B = ℕ} (λ t. suc n - cond t 1 0) other)
    ]

return_shift : (xs : List ℕ) (p m : ℕ) → get_or xs p 0 ≡ 10 → (p + 1) + (m - return_len (drop (p + 1) xs) m) ≡ (p + 1 + m) - return_len xs (p + 1 + m)
return_shift xs p zero e =
    let place : get_or xs (p + 1 + 0 - 1) 0 ≡ 10 = ap (λ k. get_or xs k 0) (let q : p + 1 + 0 - 1 ≡ p = omega arith in q) ∙ e in
    let test : eqb (get_or xs (p + 1 + 0 - 1) 0) 13 ≡ false = ap (λ k. eqb k 13) place in
    let len : return_len xs (p + 1 + 0) ≡ 0 = ap {B = ℕ} (λ t. cond t 1 0) test in
    omega arith
return_shift xs p (suc m) e =
    let place : get_or (drop (p + 1) xs) (suc m - 1) 0 ≡ get_or xs (p + 1 + suc m - 1) 0 = get_or-drop (p + 1) xs (suc m - 1) 0 ∙ ap (λ k. get_or xs k 0) (let q : p + 1 + (suc m - 1) ≡ p + 1 + suc m - 1 = omega arith in q) in
    let len : return_len (drop (p + 1) xs) (suc m) ≡ return_len xs (p + 1 + suc m) = ap {B = ℕ} (λ k. cond (eqb k 13) 1 0) place in
    elim (cases_Bool (eqb (get_or xs (p + 1 + suc m - 1) 0) 13)) [
      | inl return ↦ (let f : return_len xs (p + 1 + suc m) ≡ 1 = ap {B = ℕ} (λ t. cond t 1 0) return in omega arith)
      | inr other ↦ (let f : return_len xs (p + 1 + suc m) ≡ 0 = ap {B = ℕ} (λ t. cond t 1 0) other in omega arith)
    ]

feed_first : (rest : List ℕ) (feed : ℕ) → get_or rest feed 0 ≡ 10 → position_or_len is_newline rest ≤ feed
feed_first rest feed e =
    elim (cases_lt feed (position_or_len is_newline rest)) [
      | inl lt ↦
          let other : not (is_newline (get_or rest feed 0)) ≡ true = prefix_len_passes (λ b. not (is_newline b)) rest feed 0 lt in
          let here : not (is_newline 10) ≡ true = ap (λ b. not (is_newline b)) (sym e) ∙ other in
          absurd (cc)
      | inr ge ↦ ge
    ]

-- the first line of bytes, which ends at a line feed
record FirstFeed (boundary rest : List ℕ) (start at p : ℕ) : Type 0 where
  newline : get_or rest p 0 ≡ 10
  step : delimiters boundary start at rest ≡ delimiters boundary (at + length (strip_carriage_return (take p rest))) (at + (p + 1)) (drop (p + 1) rest)

first_feed : (boundary rest : List ℕ) (start at p : ℕ) → position_or_len is_newline rest ≡ p → p < length rest → (OccursAt rest (needle_of boundary) 0 → ⊥) → FirstFeed boundary rest start at p
first_feed boundary rest start at p is found none =
    let within : position_or_len is_newline rest < length rest = omega arith in
    let size : first_size rest ≡ p + 1 = first_size_found rest within ∙ ap (λ k. k + 1) is in
    let text : first_text rest ≡ strip_carriage_return (take p rest) = first_text_found rest within ∙ ap (λ k. strip_carriage_return (take k rest)) is in
    let stops : is_newline (get_or rest (position_or_len is_newline rest) 0) ≡ true = passes_at_first is_newline rest 0 within in
    record {
      newline = ap (λ k. get_or rest k 0) (sym is) ∙ eqb-true (get_or rest (position_or_len is_newline rest) 0) 10 stops;
      step = first_passed boundary rest start at (omega arith) none
          ∙ ap (λ t. delimiters boundary (at + length t) (at + first_size rest) (drop (first_size rest) rest)) text
          ∙ ap (λ n. delimiters boundary (at + length (strip_carriage_return (take p rest))) (at + n) (drop n rest)) size;
    }

pub to_feed : (fuel : ℕ) (boundary rest : List ℕ) (start at feed : ℕ) → feed < fuel → feed < length rest → get_or rest feed 0 ≡ 10 → NoneBelow rest (needle_of boundary) (feed + 1) → delimiters boundary start at rest ≡ delimiters boundary (at + length (strip_carriage_return (take feed rest))) (at + (feed + 1)) (drop (feed + 1) rest)
to_feed zero boundary rest start at feed h lt e none = absurd (omega arith)
to_feed (suc fuel) boundary rest start at feed h lt e none =
    let p = position_or_len is_newline rest in
    let le : p ≤ feed = feed_first rest feed e in
    let first = first_feed boundary rest start at p refl (omega arith) (λ here. none.none 0 (omega arith) here) in
    elim (cases_lt p feed) [
      | inl before ↦
          let m = feed - (p + 1) in
          let rest_from = drop (p + 1) rest in
          let place : get_or rest_from m 0 ≡ 10 = get_or-drop (p + 1) rest m 0 ∙ ap (λ k. get_or rest k 0) (let q : p + 1 + m ≡ feed = omega arith in q) ∙ e in
          let more = to_feed fuel boundary rest_from (at + length (strip_carriage_return (take p rest))) (at + (p + 1)) m (omega arith) (omega (arith, length-drop (p + 1) rest)) place (none_later rest (needle_of boundary) (p + 1) (m + 1) (feed + 1) (omega arith) (omega arith) none) in
          let feed_is : p + 1 + m ≡ feed = omega arith in
          let shifted : (p + 1) + (m - return_len rest_from m) ≡ feed - return_len rest feed = return_shift rest p m first.newline ∙ ap (λ k. k - return_len rest k) feed_is in
          let break_is : at + (p + 1) + length (strip_carriage_return (take m rest_from)) ≡ at + length (strip_carriage_return (take feed rest)) =
          omega (arith, strip_len m rest_from (omega (arith, length-drop (p + 1) rest)), strip_len feed rest (omega arith)) in
          let at_is : at + (p + 1) + (m + 1) ≡ at + (feed + 1) = omega arith in
          first.step ∙ more
          ∙ ap (λ k. delimiters boundary k (at + (p + 1) + (m + 1)) (drop (m + 1) rest_from)) break_is
          ∙ ap (λ k. delimiters boundary (at + length (strip_carriage_return (take feed rest))) k (drop (m + 1) rest_from)) at_is
          ∙ ap (λ l. delimiters boundary (at + length (strip_carriage_return (take feed rest))) (at + (feed + 1)) l) (drop-drop (m + 1) (p + 1) rest ∙ ap (λ k. drop k rest) (let q : p + 1 + (m + 1) ≡ feed + 1 = omega arith in q))
      | inr after ↦
          first.step ∙ ap (λ k. delimiters boundary (at + length (strip_carriage_return (take k rest))) (at + (k + 1)) (drop (k + 1) rest)) (let q : p ≡ feed = omega arith in q)
    ]

-- ---- what a search finds

pub nothing_found : (boundary text needle rest : List ℕ) (start at : ℕ) → needle ≡ needle_of boundary → rest ≡ take (length text - at) (drop at text) → Nowhere (OccursAt rest needle) 0 (length rest + 1) → delimiters boundary start at (drop at text) ≡ []
nothing_found boundary text needle rest start at e f none =
    let is : drop at text ≡ rest = sym (f ∙ take_rest text at) in
    let below : NoneBelow rest needle (length rest) = record { none = λ j lt. none j (omega arith) (omega arith) } in
    ap (delimiters boundary start at) is ∙ no_delimiter (length rest) boundary rest start at (omega arith) (subst (λ (l : List ℕ). NoneBelow rest l (length rest)) e below)

pub found_after : (boundary text needle rest : List ℕ) (start at found feed : ℕ) → needle ≡ needle_of boundary → rest ≡ take (length text - at) (drop at text) → at ≤ length text → found ≤ length rest → Nowhere (OccursAt rest needle) 0 found → feed < found → get_or (take found rest) feed 0 ≡ 10 → delimiters boundary (at + length (strip_carriage_return (take feed rest))) (at + feed + 1) (drop (at + feed + 1) text) ≡ delimiters boundary start at (drop at text)
found_after boundary text needle rest start at found feed e f h within none lt newline =
    let is : drop at text ≡ rest = sym (f ∙ take_rest text at) in
    let below : NoneBelow rest needle (feed + 1) = record { none = λ j less. none j (omega arith) (omega arith) } in
    let at_feed : get_or rest feed 0 ≡ 10 = sym (get_or-take found rest feed 0 lt) ∙ newline in
    let after : drop (feed + 1) rest ≡ drop (at + feed + 1) text = ap (drop (feed + 1)) (sym is) ∙ drop-drop (feed + 1) at text ∙ ap (λ k. drop k text) (let q : at + (feed + 1) ≡ at + feed + 1 = omega arith in q) in
    let whole = to_feed (suc feed) boundary rest start at feed (omega arith) (omega arith) at_feed (subst (λ (l : List ℕ). NoneBelow rest l (feed + 1)) e below) in
    sym (ap (delimiters boundary start at) is ∙ whole
    ∙ ap (λ k. delimiters boundary (at + length (strip_carriage_return (take feed rest))) k (drop (feed + 1) rest)) (let q : at + (feed + 1) ≡ at + feed + 1 = omega arith in q)
    ∙ ap (delimiters boundary (at + length (strip_carriage_return (take feed rest))) (at + feed + 1)) after)
