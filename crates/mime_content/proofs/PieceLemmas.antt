-- A field as its pieces, one at a time.
use Rattle.std.proofs.Common.{◌≡◌, ℕ, ◌+◌, ◌-◌, ◌<◌, ◌≤◌, ◌==◌, Bool, true, false, cond, ltb, List, [], ◌∷◌, ◌++◌, length, take, drop, get_or, refl, sym, ap, ◌∙◌, inl, inr, arith, append_assoc, append-nil, add-one, drop-cons, length-drop}
use Rattle.std.proofs.lemmas.Bool.{cases_Bool, cases_lt, lt-ltb, le-ltb}
use Rattle.std.proofs.lemmas.Bool.Decides.{nat_tests}
use Rattle.std.proofs.lemmas.List.{drop-drop, drop_all, take_rest}
use Rattle.std.specs.Prelude.{Option, Some, None}
use Rattle.std.specs.List.{onto_first, filter_map, slice_get, cons_option}
use Rattle.std.specs.Option.{option_map, option_or}
use Rattle.mime_content.specs.declared.pieces.Quoting.{Quoting}
use Rattle.mime_content.specs.declared.pieces.Quoting.TheVariants.{Outside, Inside, Escaped}
use Rattle.mime_content.specs.Pieces.{with_byte, pieces_from, pieces, cuts, quoting_after, size_from, is_outside, is_kept, with_kept, kept, unquoted, value_in, parameter, first_piece, first_of_pieces}
use Rattle.header_words.specs.Value.{trimmed}

drop_one : (xs : List ℕ) (i : ℕ) → i < length xs → drop i xs ≡ get_or xs i 0 ∷ drop (i + 1) xs
drop_one xs i h = rw (add-one, drop-cons xs i 0 h) refl

-- a byte that doesn't cut is one of the first piece
pub size_step : (q : Quoting) (xs : List ℕ) (i size : ℕ) → i < length xs → false ≡ cuts q (get_or xs i 0) → i + size_from q (drop i xs) ≡ size → i + 1 + size_from (quoting_after q (get_or xs i 0)) (drop (i + 1) xs) ≡ size
size_step q xs i size lt no_cut s =
    let b = get_or xs i 0 in
    let one : size_from q (drop i xs) ≡ size_from (quoting_after q b) (drop (i + 1) xs) + 1 =
    ap (size_from q) (drop_one xs i lt) ∙ ap (λ t. cond t 0 (size_from (quoting_after q b) (drop (i + 1) xs) + 1)) (sym no_cut) in
    omega (arith, one, s)

-- a byte that cuts ends it
pub size_cut : (q : Quoting) (xs : List ℕ) (i size : ℕ) → i < length xs → true ≡ cuts q (get_or xs i 0) → i + size_from q (drop i xs) ≡ size → i ≡ size
size_cut q xs i size lt cut s =
    let b = get_or xs i 0 in
    let none : size_from q (drop i xs) ≡ 0 =
    ap (size_from q) (drop_one xs i lt) ∙ ap (λ t. cond t 0 (size_from (quoting_after q b) (drop (i + 1) xs) + 1)) (sym cut) in
    omega (arith, none, s)

-- the pieces after one of this size
abbrev pub pieces_after : ℕ → List ℕ → List (List ℕ)
pieces_after n xs = cond (ltb n (length xs)) (pieces (drop (n + 1) xs)) []

is_quote : (b : ℕ) → (b == 59) ≡ true → (b == 34) ≡ false
is_quote b h = grind (arith, nat_tests)

cut_outside : (q : Quoting) (b : ℕ) → cuts q b ≡ true → quoting_after q b ≡ Outside
cut_outside Outside b h = ap (λ t. cond t Inside Outside) (is_quote b h)
cut_outside Inside b h = absurd cc
cut_outside Escaped b h = absurd cc

after_step : (n b : ℕ) (bs : List ℕ) → pieces_after (n + 1) (b ∷ bs) ≡ pieces_after n bs
after_step n b bs =
    let more : drop (n + 1 + 1) (b ∷ bs) ≡ drop (n + 1) bs = ap (λ k. drop k (b ∷ bs)) (add-one (n + 1)) in
    elim (cases_lt n (length bs)) [
      | inl lt ↦
          let far : n + 1 < length (b ∷ bs) = omega arith in
          rw (lt-ltb (n + 1) (length (b ∷ bs)) far, lt-ltb n (length bs) lt) (ap pieces more)
      | inr ge ↦
          let far : length (b ∷ bs) ≤ n + 1 = omega arith in
          rw (le-ltb (n + 1) (length (b ∷ bs)) far, le-ltb n (length bs) ge) refl
    ]

take_step : (n b : ℕ) (bs : List ℕ) → take (n + 1) (b ∷ bs) ≡ b ∷ take n bs
take_step n b bs = ap (λ k. take k (b ∷ bs)) (add-one n)

after_none : (b : ℕ) (bs : List ℕ) → pieces_after 0 (b ∷ bs) ≡ pieces bs
after_none b bs =
    let some : 0 < length (b ∷ bs) = omega arith in
    rw (lt-ltb 0 (length (b ∷ bs)) some) refl

first_and_rest : (q : Quoting) (xs : List ℕ) → pieces_from q xs ≡ take (size_from q xs) xs ∷ pieces_after (size_from q xs) xs
first_and_rest q [] = refl
first_and_rest q (b ∷ bs) =
    let next = quoting_after q b in
    let n = size_from next bs in
    elim (cases_Bool (cuts q b)) [
      | inl cut ↦
          let size : size_from q (b ∷ bs) ≡ 0 = ap (λ t. cond t 0 (n + 1)) cut in
          ap (λ t. with_byte t b (pieces_from next bs)) cut
          ∙ ap (λ k. [] ∷ pieces_from k bs) (cut_outside q b cut)
          ∙ ap (λ ps. [] ∷ ps) (sym (after_none b bs))
          ∙ ap (λ k. take k (b ∷ bs) ∷ pieces_after k (b ∷ bs)) (sym size)
      | inr on ↦
          let size : size_from q (b ∷ bs) ≡ n + 1 = ap (λ t. cond t 0 (n + 1)) on in
          ap (λ t. with_byte t b (pieces_from next bs)) on
          ∙ ap (onto_first b) (first_and_rest next bs)
          ∙ ap (λ ps. (b ∷ take n bs) ∷ ps) (sym (after_step n b bs))
          ∙ ap (λ p. p ∷ pieces_after (n + 1) (b ∷ bs)) (sym (take_step n b bs))
          ∙ ap (λ k. take k (b ∷ bs) ∷ pieces_after k (b ∷ bs)) (sym size)
    ]

-- the first value of a name among pieces
abbrev pub first_value : List ℕ → List (List ℕ) → Option (List ℕ)
first_value name ps = slice_get (filter_map (value_in name) ps) 0

pub pieces_first : (value : List ℕ) → pieces value ≡ take (size_from Outside value) value ∷ pieces_after (size_from Outside value) value
pieces_first value = first_and_rest Outside value

pub first_piece_is : (value : List ℕ) (size : ℕ) → size ≡ size_from Outside value → trimmed (take size value) ≡ first_piece value
first_piece_is value size e = ap (λ n. trimmed (take n value)) e ∙ ap first_of_pieces (sym (pieces_first value))

-- the pieces after the first
pub parameter_starts : (name value : List ℕ) (at : ℕ) → at ≡ size_from Outside value → first_value name (pieces_after at value) ≡ parameter name value
parameter_starts name value at e =
    ap (λ n. first_value name (pieces_after n value)) e ∙ ap (λ ps. first_value name (drop 1 ps)) (sym (pieces_first value))

after_at : (at : ℕ) (value : List ℕ) → at < length value → pieces_after at value ≡ pieces (drop (at + 1) value)
after_at at value lt = rw (lt-ltb at (length value) lt) refl

after_over : (at : ℕ) (value : List ℕ) → length value ≤ at → pieces_after at value ≡ []
after_over at value ge = rw (le-ltb at (length value) ge) refl

-- the pieces after one of the rest are those at its place in the whole
after_rest : (at size : ℕ) (value : List ℕ) → at < length value → pieces_after size (drop (at + 1) value) ≡ pieces_after (at + (size + 1)) value
after_rest at size value lt =
    let place : at + 1 + (size + 1) ≡ at + (size + 1) + 1 = omega arith in
    let left : length (drop (at + 1) value) ≡ length value - (at + 1) = length-drop (at + 1) value in
    elim (cases_lt size (length (drop (at + 1) value))) [
      | inl lt ↦
          let far : at + (size + 1) < length value = omega arith in
          after_at size (drop (at + 1) value) lt ∙ ap pieces (drop-drop (size + 1) (at + 1) value ∙ ap (λ k. drop k value) place) ∙ sym (after_at (at + (size + 1)) value far)
      | inr ge ↦
          let far : length value ≤ at + (size + 1) = omega arith in
          after_over size (drop (at + 1) value) ge ∙ sym (after_over (at + (size + 1)) value far)
    ]

first_value_step : (name p : List ℕ) (ps : List (List ℕ)) (found : Option (List ℕ)) → value_in name p ≡ found → first_value name (p ∷ ps) ≡ option_or found (first_value name ps)
first_value_step name p ps None e = ap (λ o. slice_get (cons_option o (filter_map (value_in name) ps)) 0) e
first_value_step name p ps (Some v) e = ap (λ o. slice_get (cons_option o (filter_map (value_in name) ps)) 0) e

-- the piece at a place
pub parameter_turn : (name value piece : List ℕ) (at size : ℕ) (found whole : Option (List ℕ)) → at < length value → size ≡ size_from Outside (drop (at + 1) value) → piece ≡ take size (drop (at + 1) value) → found ≡ value_in name piece → first_value name (pieces_after at value) ≡ whole → option_or found (first_value name (pieces_after (at + (size + 1)) value)) ≡ whole
parameter_turn name value piece at size found whole lt s p f w =
    let rest = drop (at + 1) value in
    let cut : pieces_after at value ≡ piece ∷ pieces_after (at + (size + 1)) value =
    after_at at value lt ∙ pieces_first rest ∙ ap (λ n. take n rest ∷ pieces_after n rest) (sym s)
    ∙ ap (λ q. q ∷ pieces_after size rest) (sym p) ∙ ap (λ ps. piece ∷ ps) (after_rest at size value lt) in
    sym (first_value_step name piece (pieces_after (at + (size + 1)) value) found (sym f)) ∙ ap (first_value name) (sym cut) ∙ w

-- the same at a place of the code
pub parameter_read : (name value : List ℕ) (at size : ℕ) (found whole : Option (List ℕ)) → at < length value → size ≡ size_from Outside (take (length value - (at + 1)) (drop (at + 1) value)) → found ≡ value_in name (take size (take (length value - (at + 1)) (drop (at + 1) value))) → first_value name (pieces_after at value) ≡ whole → option_or found (first_value name (pieces_after (at + (size + 1)) value)) ≡ whole
parameter_read name value at size found whole lt s f w =
    let rest = take_rest value (at + 1) in
    parameter_turn name value (take size (drop (at + 1) value)) at size found whole lt (s ∙ ap (size_from Outside) rest) refl
    (f ∙ ap (λ r. value_in name (take size r)) rest) w

pub parameter_none : (name value : List ℕ) (at : ℕ) (whole : Option (List ℕ)) → length value ≤ at → first_value name (pieces_after at value) ≡ whole → None ≡ whole
parameter_none name value at whole ge w = ap (first_value name) (sym (after_over at value ge)) ∙ w

-- the text of a quoted string whose front is read
abbrev pub joined_text : List ℕ → Option (List ℕ) → Option (List ℕ)
joined_text text rest = option_map (λ xs. text ++ xs) rest

joined_none : (rest : Option (List ℕ)) → joined_text [] rest ≡ rest
joined_none None = refl
joined_none (Some xs) = refl

joined_kept : (keep : Bool) (b : ℕ) (text : List ℕ) (rest : Option (List ℕ)) → joined_text text (kept keep b rest) ≡ joined_text (cond keep (text ++ b ∷ []) text) rest
joined_kept true b text None = refl
joined_kept true b text (Some xs) = ap Some (sym (append_assoc text (b ∷ []) xs))
joined_kept false b text rest = refl

pub text_starts : (quoted text : List ℕ) → text ≡ [] → joined_text text (unquoted Inside quoted) ≡ unquoted Inside quoted
text_starts quoted text e = ap (λ t. joined_text t (unquoted Inside quoted)) e ∙ joined_none (unquoted Inside quoted)

here : (q : Quoting) (quoted : List ℕ) (i : ℕ) → i < length quoted → unquoted q (drop i quoted) ≡ cond (is_outside q) None (kept (is_kept q (get_or quoted i 0)) (get_or quoted i 0) (unquoted (quoting_after q (get_or quoted i 0)) (drop (i + 1) quoted)))
here q quoted i lt = ap (unquoted q) (drop_one quoted i lt)

pub text_turn : (quoted text now : List ℕ) (q next : Quoting) (i : ℕ) (whole : Option (List ℕ)) → i < length quoted → false ≡ is_outside q → now ≡ with_kept q (get_or quoted i 0) text → next ≡ quoting_after q (get_or quoted i 0) → joined_text text (unquoted q (drop i quoted)) ≡ whole → joined_text now (unquoted next (drop (i + 1) quoted)) ≡ whole
text_turn quoted text now q next i whole lt h e f w =
    let b = get_or quoted i 0 in
    let more = unquoted (quoting_after q b) (drop (i + 1) quoted) in
    ap (λ k. joined_text now (unquoted k (drop (i + 1) quoted))) f ∙ ap (λ t. joined_text t more) e
    ∙ sym (joined_kept (is_kept q b) b text more)
    ∙ ap (λ t. joined_text text (cond t None (kept (is_kept q b) b more))) h
    ∙ ap (joined_text text) (sym (here q quoted i lt)) ∙ w

-- bytes after the last quote
pub text_broken : (quoted text : List ℕ) (q : Quoting) (i : ℕ) (whole : Option (List ℕ)) → i < length quoted → true ≡ is_outside q → joined_text text (unquoted q (drop i quoted)) ≡ whole → None ≡ whole
text_broken quoted text q i whole lt h w =
    let b = get_or quoted i 0 in
    ap (λ t. joined_text text (cond t None (kept (is_kept q b) b (unquoted (quoting_after q b) (drop (i + 1) quoted))))) h
    ∙ ap (joined_text text) (sym (here q quoted i lt)) ∙ w

over : (q : Quoting) (quoted : List ℕ) (i : ℕ) → length quoted ≤ i → unquoted q (drop i quoted) ≡ cond (is_outside q) (Some []) None
over q quoted i ge = ap (unquoted q) (drop_all i quoted ge)

pub text_ended : (quoted text : List ℕ) (q : Quoting) (i : ℕ) (whole : Option (List ℕ)) → length quoted ≤ i → true ≡ is_outside q → joined_text text (unquoted q (drop i quoted)) ≡ whole → Some text ≡ whole
text_ended quoted text q i whole ge h w =
    ap Some (sym (append-nil text)) ∙ ap (λ t. joined_text text (cond t (Some []) None)) h ∙ ap (joined_text text) (sym (over q quoted i ge)) ∙ w

pub text_unended : (quoted text : List ℕ) (q : Quoting) (i : ℕ) (whole : Option (List ℕ)) → length quoted ≤ i → false ≡ is_outside q → joined_text text (unquoted q (drop i quoted)) ≡ whole → None ≡ whole
text_unended quoted text q i whole ge h w =
    ap (λ t. joined_text text (cond t (Some []) None)) h ∙ ap (joined_text text) (sym (over q quoted i ge)) ∙ w
