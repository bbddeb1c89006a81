-- The text of a line in rows, and the lines of a text.
use Rattle.std.proofs.Common.{◌≡◌, ℕ, ◌+◌, ◌<◌, ◌≤◌, ◌==◌, Bool, true, false, cond, ◌&&◌, List, [], ◌∷◌, ◌++◌, length, get_or, take, drop, refl, sym, ap, ◌∙◌, arith}
use Rattle.std.specs.List.{flat_map, join_by, onto_first}
use Rattle.std.proofs.lemmas.List.{append-nil, append_assoc, drop_more, length-append, length-drop, take-append-drop, take_more}
use Rattle.transfer_codings.specs.QuotedRows.{break, broken_lines, column_after, ended_row, escape_of, fits, is_empty, next_row, placed_unit, quoted_text, rest_of_line, rows_from, rows_text, soft_break, is_literal, unit_column, unit_of}

pub unit_of-literal : (at_end : Bool) (byte : ℕ) → is_literal at_end byte ≡ true → unit_of at_end byte ≡ byte ∷ []
unfolding unit_of
unit_of-literal at_end byte e = rw e refl

pub unit_of-escaped : (at_end : Bool) (byte : ℕ) → is_literal at_end byte ≡ false → unit_of at_end byte ≡ escape_of byte
unfolding unit_of
unit_of-escaped at_end byte e = rw e refl

-- a unit that is written after a soft break, or after nothing
pub written_unit : (new middle old unit : List ℕ) (column : ℕ) (at_end : Bool) (byte : ℕ) → unit_of at_end byte ≡ unit
    → middle ≡ old ++ soft_break column (length unit) at_end → new ≡ middle ++ unit
    → new ≡ old ++ placed_unit column at_end byte
unfolding placed_unit
written_unit new middle old unit column at_end byte e m n =
    n ∙ ap (λ xs. xs ++ unit) m ∙ append_assoc old (soft_break column (length unit) at_end) unit
    ∙ ap (λ u. old ++ (soft_break column (length u) at_end ++ u)) (sym e)

pub column_of_unit : (start : ℕ) (unit : List ℕ) (column : ℕ) (at_end : Bool) (byte : ℕ) → unit_of at_end byte ≡ unit
    → start ≡ unit_column column (length unit) at_end → start + length unit ≡ column_after column at_end byte
unfolding column_after
column_of_unit start unit column at_end byte e s =
    ap (λ n. n + length unit) s ∙ ap (λ u. unit_column column (length u) at_end + length u) (sym e)

-- ---- rows

join-more : {X : Type 0} (f : X → List ℕ) (sep : List ℕ) (x : X) (xs : List X) → 0 < length xs
    → join_by f sep (x ∷ xs) ≡ f x ++ (sep ++ join_by f sep xs)
join-more f sep x [] some = absurd (omega arith)
join-more f sep x (y ∷ ys) some = ap (λ rest. f x ++ rest) (append_assoc sep (f y) (flat_map (λ z. sep ++ f z) ys))

rows_from-some : (row line : List ℕ) → 0 < length (rows_from row line)
rows_from-some row [] = omega arith
rows_from-some row (byte ∷ more) =
    let unit = unit_of (is_empty more) byte in
    omega (arith, length-append (ended_row row unit (is_empty more)) (rows_from (next_row row unit (is_empty more)) more), rows_from-some (next_row row unit (is_empty more)) more)

rows_step : (goes_on : Bool) (row unit more : List ℕ)
    → ((begun : List ℕ) → join_by (λ r. r) break (rows_from begun more) ≡ begun ++ rest_of_line (length begun) more)
    → join_by (λ r. r) break (cond goes_on [] ((row ++ 61 ∷ []) ∷ []) ++ rows_from (cond goes_on (row ++ unit) unit) more)
    ≡ row ++ ((cond goes_on [] (61 ∷ 13 ∷ 10 ∷ []) ++ unit) ++ rest_of_line (cond goes_on (length row) 0 + length unit) more)
rows_step true row unit more later =
    later (row ++ unit) ∙ append_assoc row unit (rest_of_line (length (row ++ unit)) more)
    ∙ ap (λ n. row ++ (unit ++ rest_of_line n more)) (length-append row unit)
rows_step false row unit more later =
    let here : 0 + length unit ≡ length unit = omega arith in
    join-more (λ r. r) break (row ++ 61 ∷ []) (rows_from unit more) (rows_from-some unit more)
    ∙ append_assoc row (61 ∷ []) (break ++ join_by (λ r. r) break (rows_from unit more))
    ∙ ap (λ rest. row ++ 61 ∷ 13 ∷ 10 ∷ rest) (later unit)
    ∙ ap (λ n. row ++ 61 ∷ 13 ∷ 10 ∷ (unit ++ rest_of_line n more)) (sym here)

rows-rest : (line row : List ℕ) → join_by (λ r. r) break (rows_from row line) ≡ row ++ rest_of_line (length row) line
unfolding placed_unit column_after
rows-rest [] row = refl
rows-rest (byte ∷ more) row =
    rows_step (fits (length row) (length (unit_of (is_empty more) byte)) (is_empty more)) row (unit_of (is_empty more) byte) more (rows-rest more)

pub rows_text-rest : (line : List ℕ) → rows_text line ≡ rest_of_line 0 line
unfolding rows_text
rows_text-rest line = rows-rest line []

-- ---- lines

cond-some : (b : Bool) (xs ys : List (List ℕ)) → 0 < length xs → 0 < length ys → 0 < length (cond b xs ys)
cond-some true xs ys here there = here
cond-some false xs ys here there = there

onto_first-some : (byte : ℕ) (lines : List (List ℕ)) → 0 < length (onto_first byte lines)
onto_first-some byte [] = omega arith
onto_first-some byte (line ∷ lines) = omega arith

pub broken_lines-some : (text : List ℕ) → 0 < length (broken_lines text)
unfolding broken_lines
broken_lines-some [] = omega arith
broken_lines-some (only ∷ []) = omega arith
broken_lines-some (first ∷ second ∷ more) =
    cond-some ((first == 13) && (second == 10)) ([] ∷ broken_lines more) (onto_first first (broken_lines (second ∷ more)))
    (omega arith) (onto_first-some first (broken_lines (second ∷ more)))

pub quoted_text-line : (text line rest : List ℕ) → broken_lines text ≡ line ∷ broken_lines rest
    → quoted_text text ≡ rest_of_line 0 line ++ 13 ∷ 10 ∷ quoted_text rest
unfolding quoted_text
quoted_text-line text line rest cut =
    ap (join_by rows_text break) cut ∙ join-more rows_text break line (broken_lines rest) (broken_lines-some rest)
    ∙ ap (λ xs. xs ++ 13 ∷ 10 ∷ quoted_text rest) (rows_text-rest line)

pub quoted_text-last : (text : List ℕ) → broken_lines text ≡ text ∷ [] → quoted_text text ≡ rest_of_line 0 text
unfolding quoted_text
quoted_text-last text cut =
    ap (join_by rows_text break) cut ∙ append-nil (rows_text text) ∙ rows_text-rest text

-- a front of the first line before the lines of the rest
abbrev pub before : List ℕ → List (List ℕ) → List (List ℕ)
before front [] = front ∷ []
before front (line ∷ lines) = (front ++ line) ∷ lines

before-onto_first : (front : List ℕ) (byte : ℕ) (lines : List (List ℕ)) → before front (onto_first byte lines) ≡ before (front ++ byte ∷ []) lines
before-onto_first front byte [] = refl
before-onto_first front byte (line ∷ lines) = ap (λ first. first ∷ lines) (sym (append_assoc front (byte ∷ []) line))

broken_lines-two : (first second : ℕ) (more : List ℕ) → (first == 13) && (second == 10) ≡ false
    → broken_lines (first ∷ second ∷ more) ≡ onto_first first (broken_lines (second ∷ more))
unfolding broken_lines
broken_lines-two first second more e = rw e refl

broken_lines-break : (first second : ℕ) (more : List ℕ) → (first == 13) && (second == 10) ≡ true
    → broken_lines (first ∷ second ∷ more) ≡ [] ∷ broken_lines more
unfolding broken_lines
broken_lines-break first second more e = rw e refl

broken_lines-short : (text : List ℕ) → length text ≤ 1 → broken_lines text ≡ text ∷ []
unfolding broken_lines
broken_lines-short [] short = refl
broken_lines-short (only ∷ []) short = refl
broken_lines-short (first ∷ second ∷ more) short = absurd (omega arith)

two_more : (text : List ℕ) (i : ℕ) → i + 1 < length text → drop i text ≡ get_or text i 0 ∷ get_or text (i + 1) 0 ∷ drop (i + 2) text
two_more text i lt =
    let next : drop (i + 1) text ≡ get_or text (i + 1) 0 ∷ drop (i + 1 + 1) text = drop_more text (i + 1) 0 lt in
    let count : i + 1 + 1 ≡ i + 2 = omega arith in
    drop_more text i 0 (omega arith) ∙ ap (λ xs. get_or text i 0 ∷ xs) (next ∙ ap (λ n. get_or text (i + 1) 0 ∷ drop n text) count)

pub before-more : (text : List ℕ) (i : ℕ) → i + 1 < length text → (get_or text i 0 == 13) && (get_or text (i + 1) 0 == 10) ≡ false
    → before (take i text) (broken_lines (drop i text)) ≡ before (take (i + 1) text) (broken_lines (drop (i + 1) text))
before-more text i lt e =
    let x = get_or text i 0 in
    let y = get_or text (i + 1) 0 in
    let next : drop (i + 1) text ≡ y ∷ drop (i + 1 + 1) text = drop_more text (i + 1) 0 lt in
    let count : i + 1 + 1 ≡ i + 2 = omega arith in
    let after : drop (i + 1) text ≡ y ∷ drop (i + 2) text = next ∙ ap (λ n. y ∷ drop n text) count in
    ap (λ xs. before (take i text) (broken_lines xs)) (two_more text i lt)
    ∙ ap (before (take i text)) (broken_lines-two x y (drop (i + 2) text) e)
    ∙ before-onto_first (take i text) x (broken_lines (y ∷ drop (i + 2) text))
    ∙ ap (λ xs. before (take i text ++ x ∷ []) (broken_lines xs)) (sym after)
    ∙ ap (λ xs. before xs (broken_lines (drop (i + 1) text))) (sym (take_more text i 0 (omega arith)))

pub before-break : (text : List ℕ) (i : ℕ) → i + 1 < length text → (get_or text i 0 == 13) && (get_or text (i + 1) 0 == 10) ≡ true
    → before (take i text) (broken_lines (drop i text)) ≡ take i text ∷ broken_lines (drop (i + 2) text)
before-break text i lt e =
    ap (λ xs. before (take i text) (broken_lines xs)) (two_more text i lt)
    ∙ ap (before (take i text)) (broken_lines-break (get_or text i 0) (get_or text (i + 1) 0) (drop (i + 2) text) e)
    ∙ ap (λ first. first ∷ broken_lines (drop (i + 2) text)) (append-nil (take i text))

pub before-last : (text : List ℕ) (i : ℕ) → length text ≤ i + 1 → before (take i text) (broken_lines (drop i text)) ≡ text ∷ []
before-last text i le =
    ap (before (take i text)) (broken_lines-short (drop i text) (omega (arith, length-drop i text)))
    ∙ ap (λ first. first ∷ []) (take-append-drop i text)

pub before-nothing : (lines : List (List ℕ)) → 0 < length lines → before [] lines ≡ lines
before-nothing [] some = absurd (omega arith)
before-nothing (line ∷ lines) some = refl

pub broken_lines-before : (text : List ℕ) → broken_lines text ≡ before [] (broken_lines text)
broken_lines-before text = sym (before-nothing (broken_lines text) (broken_lines-some text))

-- a written line, and its break after it
pub written_line : (new middle old text line rest : List ℕ) → broken_lines text ≡ line ∷ broken_lines rest
    → middle ≡ old ++ rest_of_line 0 line → new ≡ middle ++ 13 ∷ 10 ∷ []
    → new ++ quoted_text rest ≡ old ++ quoted_text text
written_line new middle old text line rest cut m n =
    ap (λ xs. xs ++ quoted_text rest) n ∙ append_assoc middle (13 ∷ 10 ∷ []) (quoted_text rest)
    ∙ ap (λ xs. xs ++ 13 ∷ 10 ∷ quoted_text rest) m
    ∙ append_assoc old (rest_of_line 0 line) (13 ∷ 10 ∷ quoted_text rest)
    ∙ ap (λ xs. old ++ xs) (sym (quoted_text-line text line rest cut))

pub written_last : (new old text : List ℕ) → broken_lines text ≡ text ∷ [] → new ≡ old ++ rest_of_line 0 text → new ≡ old ++ quoted_text text
written_last new old text cut n = n ∙ ap (λ xs. old ++ xs) (sym (quoted_text-last text cut))
