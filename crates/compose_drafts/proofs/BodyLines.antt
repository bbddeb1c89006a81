-- A body is lines that end with CR LF, as flowed text and as quoted-printable.
use Rattle.std.proofs.Common.{◌≡◌, ℕ, zero, suc, ◌/◌, ◌%◌, ◌<◌, inl, inr, Bool, true, false, not, List, [], ◌∷◌, ◌++◌, length, take, drop, map, replicate, append_assoc, refl, ap, ◌∙◌, arith}
use Rattle.std.specs.Prelude.{◌&&◌, ◌==◌, nat_le, nat_lt, Some, None}
use Rattle.std.specs.List.{flat_map, join_by, list_all, onto_first, slice_split}
use Rattle.std.specs.Str.{bytes_eq}
use Rattle.std.proofs.lemmas.Bool.{and_parts, cases_Bool}
use Rattle.std.proofs.lemmas.Bool.Decides.{nat_tests}
use Rattle.std.proofs.lemmas.List.{append-nil}
use Rattle.flowed_text.specs.declared.Para.{Para}
use Rattle.flowed_text.specs.Flow.{flow, flow_para, is_stuffed, line_break, prefix, texts, texts_within, whole_line}
use Rattle.flowed_text.specs.Lines.{is_ending, lines, single_endings, strip_first, without_empty_last}
use Rattle.flowed_text.specs.Paragraphs.{mark_count, read_line, signature}
use Rattle.mail_addresses.specs.Runs.{skip_spaces}
use Rattle.transfer_codings.specs.QuotedRows.{break, broken_lines, ended_row, fits, is_empty, is_literal, next_row, quoted_text, rows_from, rows_text, unit_of, upper_digit}
use Rattle.compose_drafts.specs.Lines.{IsLines, is_line, is_unbroken}
use Rattle.compose_drafts.specs.Paragraphs.{coded, paragraph_of, paragraphs_of, trimmed}
use Rattle.compose_drafts.specs.Texts.{ended}
use Rattle.compose_drafts.proofs.Unbroken.{all_append, all_drop, all_replicate, all_take, both}
use Rattle.compose_drafts.proofs.WholeLines.{lines_join, lines_same, no_lines, one_line}

-- ---- lists of lines

pub flat_lines : {X : Type 0} (f : X → List ℕ) → (xs : List X) → list_all (λ x. is_line (f x)) xs ≡ true → IsLines (flat_map (λ x. ended (f x)) xs)
flat_lines f [] h = no_lines
flat_lines f (x ∷ xs) h =
    let parts = and_parts (is_line (f x)) (list_all (λ y. is_line (f y)) xs) h in
    lines_join (ended (f x)) (flat_map (λ y. ended (f y)) xs) (one_line (f x) parts.0) (flat_lines f xs parts.1)

-- ---- the lines of a text

onto_lines : (p : ℕ → Bool) (c : ℕ) (parts : List (List ℕ)) → p c ≡ true → list_all (list_all p) parts ≡ true → list_all (list_all p) (onto_first c parts) ≡ true
onto_lines p c [] e h = both (list_all p (c ∷ [])) true (both (p c) true e refl) refl
onto_lines p c (part ∷ parts) e h =
    let cut = and_parts (list_all p part) (list_all (list_all p) parts) h in
    both (list_all p (c ∷ part)) (list_all (list_all p) parts) (both (p c) (list_all p part) e cut.0) cut.1

split_lines : (text : List ℕ) → list_all is_line (slice_split is_ending text) ≡ true
split_lines [] = refl
split_lines (c ∷ text) = elim (cases_Bool (is_ending c)) [
  | inl e ↦ rw e (split_lines text)
  | inr e ↦ rw e (onto_lines is_unbroken c (slice_split is_ending text) (rw e refl) (split_lines text))
]

nonempty_lines : (parts : List (List ℕ)) → list_all is_line parts ≡ true → list_all is_line (without_empty_last parts) ≡ true
nonempty_lines [] h = refl
nonempty_lines (line ∷ []) h = elim (cases_Bool (length line == 0)) [
  | inl e ↦ rw e refl
  | inr e ↦ rw e h
]
nonempty_lines (line ∷ next ∷ more) h =
    let cut = and_parts (is_line line) (list_all is_line (next ∷ more)) h in
    both (is_line line) (list_all is_line (without_empty_last (next ∷ more))) cut.0 (nonempty_lines (next ∷ more) cut.1)

pub text_lines : (text : List ℕ) → list_all is_line (lines text) ≡ true
unfolding lines
text_lines text = nonempty_lines (slice_split is_ending (single_endings text)) (split_lines (single_endings text))

-- ---- paragraphs

trimmed_line : (line : List ℕ) → is_line line ≡ true → is_line (trimmed line) ≡ true
trimmed_line line h = elim (cases_Bool (bytes_eq line signature)) [
  | inl e ↦ rw e h
  | inr e ↦ rw e (all_take is_unbroken _ (skip_spaces line) (all_drop is_unbroken _ line h))
]

stripped_line : (line : List ℕ) → is_line line ≡ true → is_line (strip_first 32 line) ≡ true
stripped_line [] h = refl
stripped_line (c ∷ line) h = elim (cases_Bool (c == 32)) [
  | inl e ↦ rw e (and_parts (is_unbroken c) (is_line line) h).1
  | inr e ↦ rw e h
]

pub paragraph_line : (line : List ℕ) → is_line line ≡ true → is_line (paragraph_of line).text ≡ true
paragraph_line line h =
    all_drop is_unbroken _ (read_line (trimmed line)).text (stripped_line (drop (mark_count (trimmed line)) (trimmed line)) (all_drop is_unbroken (mark_count (trimmed line)) (trimmed line) (trimmed_line line h)))

abbrev HaveLines : List Para → Type 0
HaveLines paras = list_all (λ para. is_line para.text) paras ≡ true

mapped_lines : (texts : List (List ℕ)) → list_all is_line texts ≡ true → HaveLines (map paragraph_of texts)
mapped_lines [] h = refl
mapped_lines (line ∷ more) h =
    let cut = and_parts (is_line line) (list_all is_line more) h in
    both (is_line (paragraph_of line).text) (list_all (λ para. is_line para.text) (map paragraph_of more)) (paragraph_line line cut.0) (mapped_lines more cut.1)

pub paragraph_lines : (text : List ℕ) → HaveLines (paragraphs_of text)
unfolding paragraphs_of
paragraph_lines text = mapped_lines (lines text) (text_lines text)

-- ---- flowed text

front_line : (depth : ℕ) (text : List ℕ) → is_line (prefix depth text) ≡ true
front_line depth text = elim (cases_Bool (is_stuffed depth text)) [
  | inl e ↦ rw e (all_append is_unbroken (replicate depth 62) (32 ∷ []) (all_replicate is_unbroken depth 62 refl) refl)
  | inr e ↦ rw e (all_append is_unbroken (replicate depth 62) [] (all_replicate is_unbroken depth 62 refl) refl)
]

whole_lines : (depth : ℕ) (texts : List (List ℕ)) → list_all is_line texts ≡ true → list_all (λ text. is_line (whole_line depth text)) texts ≡ true
whole_lines depth [] h = refl
whole_lines depth (text ∷ more) h =
    let cut = and_parts (is_line text) (list_all is_line more) h in
    both (is_line (whole_line depth text)) (list_all (λ one. is_line (whole_line depth one)) more) (all_append is_unbroken (prefix depth text) text (front_line depth text) cut.0) (whole_lines depth more cut.1)

cut_texts : (more depth : ℕ) (text : List ℕ) → is_line text ≡ true → list_all is_line (texts_within more depth text) ≡ true
cut_texts zero depth text h = both (is_line text) true h refl
cut_texts (suc more) depth text h = elim (line_break depth text) as (λ found. list_all is_line (elim found as (λ _. List (List ℕ)) [ None ↦ text ∷ [] | Some size ↦ take size text ∷ texts_within more depth (drop size text) ]) ≡ true) [
  | None ↦ both (is_line text) true h refl
  | Some size ↦ both (is_line (take size text)) (list_all is_line (texts_within more depth (drop size text))) (all_take is_unbroken size text h) (cut_texts more depth (drop size text) (all_drop is_unbroken size text h))
]

para_lines : (para : Para) → is_line para.text ≡ true → IsLines (flow_para para)
para_lines para h = flat_lines (whole_line para.depth) (texts para.depth para.text) (whole_lines para.depth (texts para.depth para.text) (cut_texts (length para.text) para.depth para.text h))

all_paras : (paras : List Para) → HaveLines paras → IsLines (flat_map flow_para paras)
all_paras [] h = no_lines
all_paras (para ∷ more) h =
    let cut = and_parts (is_line para.text) (list_all (λ one. is_line one.text) more) h in
    lines_join (flow_para para) (flat_map flow_para more) (para_lines para cut.0) (all_paras more cut.1)

pub flow_lines : (paras : List Para) → HaveLines paras → IsLines (flow paras)
unfolding flow
flow_lines paras h = all_paras paras h

-- ---- quoted-printable

digit_unbroken : (value : ℕ) → is_unbroken (upper_digit value) ≡ true
digit_unbroken value = elim (cases_Bool (nat_lt value 10)) [
  | inl e ↦ rw e (grind (arith, nat_tests))
  | inr e ↦ rw e (grind (arith, nat_tests))
]

literal_unbroken : (at_end : Bool) (byte : ℕ) → is_literal at_end byte ≡ true → is_unbroken byte ≡ true
literal_unbroken at_end byte e =
    let some = and_parts (nat_le 32 byte && nat_le byte 126 && not (byte == 61)) (not (at_end && (byte == 32))) e in
    let more = and_parts (nat_le 32 byte && nat_le byte 126) (not (byte == 61)) some.0 in
    let least = and_parts (nat_le 32 byte) (nat_le byte 126) more.0 in
    let low = least.0 in grind (arith, nat_tests)

unit_line : (at_end : Bool) (byte : ℕ) → is_line (unit_of at_end byte) ≡ true
unfolding unit_of
unit_line at_end byte = elim (cases_Bool (is_literal at_end byte)) [
  | inl e ↦ rw e (both (is_unbroken byte) true (literal_unbroken at_end byte e) refl)
  | inr e ↦ rw e (both (is_unbroken (upper_digit (byte / 16))) (is_line (upper_digit (byte % 16) ∷ [])) (digit_unbroken (byte / 16)) (both (is_unbroken (upper_digit (byte % 16))) true (digit_unbroken (byte % 16)) refl))
]

next_line : (row unit : List ℕ) (at_end : Bool) → is_line row ≡ true → is_line unit ≡ true → is_line (next_row row unit at_end) ≡ true
next_line row unit at_end r u = elim (cases_Bool (fits (length row) (length unit) at_end)) [
  | inl e ↦ rw e (all_append is_unbroken row unit r u)
  | inr e ↦ rw e u
]

ended_line : (row unit : List ℕ) (at_end : Bool) → is_line row ≡ true → list_all is_line (ended_row row unit at_end) ≡ true
ended_line row unit at_end r = elim (cases_Bool (fits (length row) (length unit) at_end)) [
  | inl e ↦ rw e refl
  | inr e ↦ rw e (both (is_line (row ++ 61 ∷ [])) true (all_append is_unbroken row (61 ∷ []) r refl) refl)
]

row_lines : (row line : List ℕ) → is_line row ≡ true → list_all is_line (rows_from row line) ≡ true
row_lines row [] r = both (is_line row) true r refl
row_lines row (byte ∷ more) r =
    let u = unit_line (is_empty more) byte in
    all_append is_line (ended_row row (unit_of (is_empty more) byte) (is_empty more)) (rows_from (next_row row (unit_of (is_empty more) byte) (is_empty more)) more)
    (ended_line row (unit_of (is_empty more) byte) (is_empty more) r)
    (row_lines (next_row row (unit_of (is_empty more) byte) (is_empty more)) more (next_line row (unit_of (is_empty more) byte) (is_empty more) r u))

-- texts with CR LF between them
more_rows : (front : List ℕ) (rows : List (List ℕ)) → is_line front ≡ true → list_all is_line rows ≡ true → IsLines (ended (front ++ flat_map (λ row. break ++ row) rows))
more_rows front [] f h = lines_same _ (ended front) (ap ended (append-nil front)) (one_line front f)
more_rows front (row ∷ rows) f h =
    let cut = and_parts (is_line row) (list_all is_line rows) h in
    lines_same _ (ended front ++ ended (row ++ flat_map (λ one. break ++ one) rows)) (simp append_assoc refl) (lines_join (ended front) _ (one_line front f) (more_rows row rows cut.0 cut.1))

joined_rows : (rows : List (List ℕ)) → list_all is_line rows ≡ true → IsLines (ended (join_by (λ row. row) break rows))
joined_rows [] h = one_line [] refl
joined_rows (row ∷ rows) h =
    let cut = and_parts (is_line row) (list_all is_line rows) h in
    more_rows row rows cut.0 cut.1

quoted_line : (line : List ℕ) → IsLines (ended (rows_text line))
unfolding rows_text
quoted_line line = joined_rows (rows_from [] line) (row_lines [] line refl)

onto_some : (c : ℕ) (parts : List (List ℕ)) → 0 < length (onto_first c parts)
onto_some c [] = omega arith
onto_some c (part ∷ parts) = omega arith

not_return : (c : ℕ) → is_unbroken c ≡ true → (c == 13) ≡ false
not_return c h = elim (cases_Bool (c == 13)) [
  | inl e ↦
      let broken : is_unbroken c ≡ false = rw e refl in
      cc (h, broken)
  | inr e ↦ e
]

some_lines : (text : List ℕ) → 0 < length (broken_lines text)
unfolding broken_lines
some_lines [] = omega arith
some_lines (c ∷ []) = omega arith
some_lines (c ∷ d ∷ more) = elim (cases_Bool ((c == 13) && (d == 10))) [
  | inl e ↦ rw e (omega arith)
  | inr e ↦ rw e (onto_some c (broken_lines (d ∷ more)))
]

cut_line : (line rest : List ℕ) → is_line line ≡ true → broken_lines (line ++ 13 ∷ 10 ∷ rest) ≡ line ∷ broken_lines rest
unfolding broken_lines
cut_line [] rest h = refl
cut_line (c ∷ []) rest h =
    let other : (c == 13) ≡ false = not_return c (and_parts (is_unbroken c) true h).0 in
    rw other refl
cut_line (c ∷ d ∷ line) rest h =
    let cut = and_parts (is_unbroken c) (is_line (d ∷ line)) h in
    let other : (c == 13) ≡ false = not_return c cut.0 in
    rw other (ap (onto_first c) (cut_line (d ∷ line) rest cut.1))

joined_step : (f : List ℕ → List ℕ) (x : List ℕ) (xs : List (List ℕ)) → 0 < length xs → join_by f break (x ∷ xs) ≡ f x ++ break ++ join_by f break xs
joined_step f x [] some = absurd (omega arith)
joined_step f x (y ∷ ys) some = simp append_assoc refl

quoted_step : (line rest : List ℕ) → is_line line ≡ true → quoted_text (line ++ 13 ∷ 10 ∷ rest) ≡ ended (rows_text line) ++ quoted_text rest
unfolding quoted_text
quoted_step line rest h = ap (join_by rows_text break) (cut_line line rest h) ∙ joined_step rows_text line (broken_lines rest) (some_lines rest)

quoted_none : quoted_text [] ≡ []
unfolding quoted_text broken_lines rows_text
quoted_none = refl

quoted_lines : (parts : List (List ℕ)) → list_all is_line parts ≡ true → IsLines (quoted_text (flat_map ended parts))
quoted_lines [] h = lines_same _ [] quoted_none no_lines
quoted_lines (line ∷ more) h =
    let cut = and_parts (is_line line) (list_all is_line more) h in
    let rest : List ℕ = flat_map ended more in
    lines_same _ _ (ap quoted_text (append_assoc line (13 ∷ 10 ∷ []) rest) ∙ quoted_step line rest cut.0) (lines_join (ended (rows_text line)) (quoted_text rest) (quoted_line line) (quoted_lines more cut.1))

-- ---- the body of a message

pub coded_lines : (seven_bit : Bool) (body : List ℕ) → IsLines body → IsLines (coded seven_bit body)
coded_lines true body b = b
coded_lines false body b = lines_same _ _ (ap quoted_text b.bytes_are) (quoted_lines b.lines b.are_lines)
