-- A text with escapes, step by step.
use Rattle.std.proofs.Common.{◌≡◌, ℕ, ◌+◌, ◌-◌, ◌<◌, ◌≤◌, true, false, cond, List, [], ◌∷◌, ◌++◌, length, get_or, take, drop, Option, Some, None, refl, sym, ap, ◌∙◌, arith, inl, inr}
use Rattle.std.specs.List.{All, slice_split, onto_first, flat_map, position_or_len, suffix_len}
use Rattle.std.proofs.lemmas.List.{append-nil, append_assoc, get_or-take, length-take, nil_from_length, take-append-drop}
use Rattle.std.proofs.lemmas.List.Elements.{All-head, All-tail}
use Rattle.std.proofs.lemmas.List.Sums.{fails_before_first}
use Rattle.std.proofs.lemmas.List.Splits.{slice_split-cons_no, length-slice_split, slice_split_first, slice_split_none}
use Rattle.std.proofs.lemmas.Bool.{cases_Bool, eqb-true}
use Rattle.transfer_codings.specs.Base64.{is_equals}
use Rattle.transfer_codings.specs.Quoted.{escaped_byte, byte_of_digits, hex_value, with_escape, after_equals, unescaped_parts, unescaped, is_line_feed, broken_line, lines_bytes, quoted_bytes, line_bytes, ends_in, is_blank, without_blanks, without_last}

unescaped_parts-onto_first : (b : ℕ) (parts : List (List ℕ)) → unescaped_parts (onto_first b parts) ≡ b ∷ unescaped_parts parts
unescaped_parts-onto_first b [] = refl
unescaped_parts-onto_first b (part ∷ parts) = refl

-- a character that is no `=` is itself
pub unescaped-plain : (b : ℕ) (text : List ℕ) → is_equals b ≡ false → unescaped (b ∷ text) ≡ b ∷ unescaped text
unfolding unescaped
unescaped-plain b text other =
    ap unescaped_parts (slice_split-cons_no is_equals b text other) ∙ unescaped_parts-onto_first b (slice_split is_equals text)

unescaped-equals_is : (text : List ℕ) → unescaped (61 ∷ text) ≡ flat_map after_equals (slice_split is_equals text)
unfolding unescaped
unescaped-equals_is text = refl

abbrev first_part : List (List ℕ) → List ℕ
first_part [] = []
first_part (part ∷ parts) = part

-- the digits of an escape are no `=`
hex_value-equals : (digit : ℕ) → is_equals digit ≡ true → hex_value digit ≡ None
hex_value-equals digit e = let at : digit ≡ 61 = eqb-true digit 61 e in rw at refl

byte_of_digits-None : (o : Option ℕ) → byte_of_digits o None ≡ None
byte_of_digits-None None = refl
byte_of_digits-None (Some high) = refl

escaped_byte-onto_first : (high low : ℕ) (parts : List (List ℕ))
    → escaped_byte (first_part (onto_first high (onto_first low parts))) ≡ byte_of_digits (hex_value high) (hex_value low)
escaped_byte-onto_first high low [] = refl
escaped_byte-onto_first high low (part ∷ parts) = refl

-- the part up to the next `=` begins with the same escape as the whole text
escaped_byte-first : (text : List ℕ) → escaped_byte (first_part (slice_split is_equals text)) ≡ escaped_byte text
escaped_byte-first [] = refl
escaped_byte-first (high ∷ []) = elim (is_equals high) as (λ v. escaped_byte (first_part (cond v ([] ∷ [] ∷ []) ((high ∷ []) ∷ []))) ≡ None) [ true ↦ refl | false ↦ refl ]
escaped_byte-first (high ∷ low ∷ rest) = elim (cases_Bool (is_equals high)) [
  | inl yes_high ↦ rw yes_high (sym (ap (λ o. byte_of_digits o (hex_value low)) (hex_value-equals high yes_high)))
  | inr no_high ↦ elim (cases_Bool (is_equals low)) [
    | inl yes_low ↦ rw (no_high, yes_low) (sym (ap (byte_of_digits (hex_value high)) (hex_value-equals low yes_low) ∙ byte_of_digits-None (hex_value high)))
    | inr no_low ↦ rw (no_high, no_low) (escaped_byte-onto_first high low (slice_split is_equals rest))
  ]
]

flat_map-none : (parts : List (List ℕ)) → 0 < length parts → escaped_byte (first_part parts) ≡ None
    → flat_map after_equals parts ≡ 61 ∷ unescaped_parts parts
flat_map-none [] some e = absurd (omega arith)
flat_map-none (part ∷ parts) some e = ap (λ o. with_escape o part ++ flat_map after_equals parts) e

-- an `=` without two digits after it is itself
pub unescaped-none : (text : List ℕ) → escaped_byte text ≡ None → unescaped (61 ∷ text) ≡ 61 ∷ unescaped text
unfolding unescaped
unescaped-none text e =
    flat_map-none (slice_split is_equals text) (omega (arith, length-slice_split is_equals text)) (escaped_byte-first text ∙ e)

flat_map-some : (high low byte : ℕ) (parts : List (List ℕ)) → byte_of_digits (hex_value high) (hex_value low) ≡ Some byte
    → flat_map after_equals (onto_first high (onto_first low parts)) ≡ byte ∷ unescaped_parts parts
flat_map-some high low byte [] e = ap (λ o. with_escape o (high ∷ low ∷ []) ++ []) e
flat_map-some high low byte (part ∷ parts) e = ap (λ o. with_escape o (high ∷ low ∷ part) ++ flat_map after_equals parts) e

-- an `=` and two digits are one byte
pub unescaped-some : (text : List ℕ) (byte : ℕ) → escaped_byte text ≡ Some byte → unescaped (61 ∷ text) ≡ byte ∷ unescaped (drop 2 text)
unfolding unescaped
unescaped-some [] byte e = cc
unescaped-some (high ∷ []) byte e = cc
unescaped-some (high ∷ low ∷ rest) byte e = elim (cases_Bool (is_equals high)) [
  | inl yes_high ↦
      let none : byte_of_digits (hex_value high) (hex_value low) ≡ None = ap (λ o. byte_of_digits o (hex_value low)) (hex_value-equals high yes_high) in
      cc
  | inr no_high ↦ elim (cases_Bool (is_equals low)) [
    | inl yes_low ↦
        let none : byte_of_digits (hex_value high) (hex_value low) ≡ None = ap (byte_of_digits (hex_value high)) (hex_value-equals low yes_low) ∙ byte_of_digits-None (hex_value high) in
        cc
    | inr no_low ↦
        ap (flat_map after_equals) (slice_split-cons_no is_equals high (low ∷ rest) no_high ∙ ap (onto_first high) (slice_split-cons_no is_equals low rest no_low))
        ∙ flat_map-some high low byte (slice_split is_equals rest) e
  ]
]

pub unescaped-nothing : (front rest : List ℕ) → length rest < 1 → front ≡ front ++ unescaped rest
unfolding unescaped
unescaped-nothing front rest short = let e : rest ≡ [] = nil_from_length rest (omega arith) in rw e (sym (append-nil front))

plain_run : (front rest : List ℕ) → All (λ b. is_equals b ≡ false) front → unescaped (front ++ rest) ≡ front ++ unescaped rest
plain_run [] rest plain = refl
plain_run (b ∷ front) rest plain =
    unescaped-plain b (front ++ rest) (All-head (λ x. is_equals x ≡ false) b front plain)
    ∙ ap (λ xs. b ∷ xs) (plain_run front rest (All-tail (λ x. is_equals x ≡ false) b front plain))

-- the text up to the next `=` is itself
pub unescaped-run : (text : List ℕ) (run : ℕ) → run ≡ position_or_len is_equals text → unescaped text ≡ take run text ++ unescaped (drop run text)
unescaped-run text run place =
    ap unescaped (sym (take-append-drop run text))
    ∙ plain_run (take run text) (drop run text) (λ k d below.
    let within : k < run = omega (arith, length-take run text) in
    let same : get_or (take run text) k d ≡ get_or text k d = get_or-take run text k d within in
    ap is_equals same ∙ fails_before_first is_equals text k d (omega arith))

pub unescaped-copied : (written front text rest : List ℕ) (run : ℕ) → run ≡ position_or_len is_equals text
    → written ≡ front ++ take run text → rest ≡ drop run text → written ++ unescaped rest ≡ front ++ unescaped text
unescaped-copied written front text rest run place w r =
    ap (λ xs. xs ++ unescaped rest) w ∙ append_assoc front (take run text) (unescaped rest)
    ∙ ap (λ xs. front ++ (take run text ++ unescaped xs)) r ∙ ap (λ xs. front ++ xs) (sym (unescaped-run text run place))

-- ---- lines

pub slice_split_cut : (text : List ℕ) (end : ℕ) → end ≡ position_or_len is_line_feed text → end < length text
    → slice_split is_line_feed text ≡ take end text ∷ slice_split is_line_feed (drop (end + 1) text)
slice_split_cut text end place below =
    slice_split_first is_line_feed text 0 (omega arith)
    ∙ ap (λ n. take n text ∷ slice_split is_line_feed (drop (n + 1) text)) (sym place)

pub slice_split_whole : (text : List ℕ) → position_or_len is_line_feed text ≡ length text → slice_split is_line_feed text ≡ text ∷ []
slice_split_whole text place =
    slice_split_none is_line_feed text (λ k d below. fails_before_first is_line_feed text k d (omega arith))

lines_bytes-more : (line : List ℕ) (parts : List (List ℕ)) → 0 < length parts → lines_bytes (line ∷ parts) ≡ broken_line line ++ lines_bytes parts
lines_bytes-more line [] some = absurd (omega arith)
lines_bytes-more line (next ∷ more) some = refl

pub quoted_bytes-line : (written front text line rest : List ℕ)
    → slice_split is_line_feed text ≡ line ∷ slice_split is_line_feed rest
    → written ≡ front ++ broken_line line
    → written ++ quoted_bytes rest ≡ front ++ quoted_bytes text
unfolding quoted_bytes
quoted_bytes-line written front text line rest cut w =
    let first = ap lines_bytes cut ∙ lines_bytes-more line (slice_split is_line_feed rest) (omega (arith, length-slice_split is_line_feed rest)) in
    rw w (append_assoc front (broken_line line) (lines_bytes (slice_split is_line_feed rest)) ∙ ap (λ bytes. front ++ bytes) (sym first))

pub quoted_bytes-last : (text : List ℕ) → slice_split is_line_feed text ≡ text ∷ [] → quoted_bytes text ≡ line_bytes text []
unfolding quoted_bytes
quoted_bytes-last text cut = ap lines_bytes cut

pub line_bytes-soft : (line ending text front : List ℕ) → text ≡ without_blanks line → ends_in 61 text ≡ true → front ≡ without_last text
    → line_bytes line ending ≡ unescaped front
unfolding line_bytes
line_bytes-soft line ending text front e soft f = rw (← e, soft, f) refl

pub line_bytes-hard : (line ending text : List ℕ) → text ≡ without_blanks line → ends_in 61 text ≡ false
    → line_bytes line ending ≡ unescaped text ++ ending
unfolding line_bytes
line_bytes-hard line ending text e hard = rw (← e, hard) refl

-- a line cut after a byte that is no blank, with only blanks after the cut
pub without_blanks-is : (line : List ℕ) (end : ℕ) → end ≤ length line
    → end + suffix_len is_blank line ≡ length line + suffix_len is_blank (take end line)
    → suffix_len is_blank (take end line) ≡ 0 → take end line ≡ without_blanks line
unfolding without_blanks
without_blanks-is line end within trimmed none =
    let e : end ≡ length line - suffix_len is_blank line = omega arith in
    ap (λ n. take n line) e
