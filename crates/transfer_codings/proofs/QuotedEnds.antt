-- Where a line of a quoted-printable text ends.
use Rattle.std.proofs.Common.{◌≡◌, ℕ, ◌+◌, ◌-◌, ◌==◌, nat_lt, true, false, cond, List, [], ◌∷◌, ◌++◌, length, get_or, take, reverse, refl, sym, ap, ◌∙◌, arith}
use Rattle.std.specs.List.{All, prefix_len, slice_split, suffix_len}
use Rattle.std.proofs.lemmas.Bool.{and_from, and_right, cond-true, eq-eqb, lt-ltb}
use Rattle.std.proofs.lemmas.List.{append-nil, append_assoc, get_or_push, length_push, reverse-append, take_all, take_at}
use Rattle.std.proofs.lemmas.List.Elements.{All-append, All-cons, All-nil}
use Rattle.std.proofs.lemmas.List.Splits.{slice_split_at, slice_split_none}
use Rattle.transfer_codings.specs.Base64.{is_equals}
use Rattle.transfer_codings.specs.Quoted.{broken_line, ends_in, is_blank, is_line_feed, line_bytes, quoted_bytes, unescaped, without_blanks, without_last}
use Rattle.transfer_codings.proofs.QuotedLemmas.{line_bytes-hard, line_bytes-soft, quoted_bytes-last, quoted_bytes-line}

length_before : (front : List ℕ) (x : ℕ) → length (front ++ x ∷ []) - 1 ≡ length front
length_before front x = omega (arith, length_push front x)

last_of : (front : List ℕ) (x : ℕ) → get_or (front ++ x ∷ []) (length (front ++ x ∷ []) - 1) 0 ≡ x
last_of front x = ap (λ n. get_or (front ++ x ∷ []) n 0) (length_before front x) ∙ get_or_push front x 0 (length front) refl

pub ends_in-push : (front : List ℕ) (x : ℕ) → ends_in x (front ++ x ∷ []) ≡ true
ends_in-push front x =
    let line = front ++ x ∷ [] in
    and_from (nat_lt 0 (length line)) (get_or line (length line - 1) 0 == x)
    (lt-ltb 0 (length line) (omega (arith, length_push front x))) (eq-eqb (get_or line (length line - 1) 0) x (last_of front x))

pub ends_in-other : (front : List ℕ) (x y : ℕ) → (x == y) ≡ false → ends_in y (front ++ x ∷ []) ≡ false
ends_in-other front x y other =
    let line = front ++ x ∷ [] in
    and_right (nat_lt 0 (length line)) (get_or line (length line - 1) 0 == y) (ap (λ n. n == y) (last_of front x) ∙ other)

pub without_last-push : (front : List ℕ) (x : ℕ) → without_last (front ++ x ∷ []) ≡ front
without_last-push front x = ap (λ n. take n (front ++ x ∷ [])) (length_before front x) ∙ take_at front (x ∷ []) (length front) refl

no_blanks : (front : List ℕ) (x : ℕ) → is_blank x ≡ false → suffix_len is_blank (front ++ x ∷ []) ≡ 0
no_blanks front x solid =
    ap (prefix_len is_blank) (reverse-append front (x ∷ [])) ∙ ap (λ b. cond b (1 + prefix_len is_blank (reverse front)) 0) solid

pub without_blanks-push : (front : List ℕ) (x : ℕ) → is_blank x ≡ false → without_blanks (front ++ x ∷ []) ≡ front ++ x ∷ []
unfolding without_blanks
without_blanks-push front x solid =
    let line = front ++ x ∷ [] in
    take_all (length line - suffix_len is_blank line) line (omega (arith, no_blanks front x solid))

-- a line that is read as it is, up to its break
pub record EndsWell (line : List ℕ) : Type 0 where
  pub trimmed : without_blanks line ≡ line
  pub hard : ends_in 61 line ≡ false

pub ends_well-nothing : EndsWell []
unfolding without_blanks
ends_well-nothing = record { trimmed = refl; hard = refl }

pub ends_well-push : (front : List ℕ) (x : ℕ) → is_blank x ≡ false → is_equals x ≡ false → EndsWell (front ++ x ∷ [])
ends_well-push front x solid other =
    record { trimmed = without_blanks-push front x solid; hard = ends_in-other front x 61 other }

-- there is no LF
abbrev pub IsOneLine : List ℕ → Type 0
IsOneLine line = All (λ byte. is_line_feed byte ≡ false) line

pub broken_line-return : (line : List ℕ) → broken_line (line ++ 13 ∷ []) ≡ line_bytes line (13 ∷ 10 ∷ [])
broken_line-return line =
    cond-true (ends_in 13 (line ++ 13 ∷ [])) (line_bytes (without_last (line ++ 13 ∷ [])) (13 ∷ 10 ∷ [])) (line_bytes (line ++ 13 ∷ []) (10 ∷ [])) (ends_in-push line 13)
    ∙ ap (λ xs. line_bytes xs (13 ∷ 10 ∷ [])) (without_last-push line 13)

quoted_bytes-break : (line rest : List ℕ) → IsOneLine line → quoted_bytes (line ++ 13 ∷ 10 ∷ rest) ≡ line_bytes line (13 ∷ 10 ∷ []) ++ quoted_bytes rest
quoted_bytes-break line rest one =
    let plain : ℕ → Type 0 = λ byte. is_line_feed byte ≡ false in
    let returned : IsOneLine (line ++ 13 ∷ []) = All-append plain line (13 ∷ []) one (All-cons plain 13 [] refl (All-nil plain)) in
    let cut : slice_split is_line_feed (line ++ 13 ∷ 10 ∷ rest) ≡ (line ++ 13 ∷ []) ∷ slice_split is_line_feed rest =
    ap (slice_split is_line_feed) (sym (append_assoc line (13 ∷ []) (10 ∷ rest))) ∙ slice_split_at is_line_feed (line ++ 13 ∷ []) 10 rest returned refl in
    sym (quoted_bytes-line (broken_line (line ++ 13 ∷ [])) [] (line ++ 13 ∷ 10 ∷ rest) (line ++ 13 ∷ []) rest cut refl)
    ∙ ap (λ xs. xs ++ quoted_bytes rest) (broken_line-return line)

-- a row and a soft break, a line and its break, and the last line
pub quoted_bytes-soft : (row rest : List ℕ) → IsOneLine row → quoted_bytes (row ++ 61 ∷ 13 ∷ 10 ∷ rest) ≡ unescaped row ++ quoted_bytes rest
quoted_bytes-soft row rest one =
    let plain : ℕ → Type 0 = λ byte. is_line_feed byte ≡ false in
    let line : List ℕ = row ++ 61 ∷ [] in
    let whole : IsOneLine line = All-append plain row (61 ∷ []) one (All-cons plain 61 [] refl (All-nil plain)) in
    let soft : line_bytes line (13 ∷ 10 ∷ []) ≡ unescaped row =
    line_bytes-soft line (13 ∷ 10 ∷ []) line row (sym (without_blanks-push row 61 refl)) (ends_in-push row 61) (sym (without_last-push row 61)) in
    ap quoted_bytes (sym (append_assoc row (61 ∷ []) (13 ∷ 10 ∷ rest))) ∙ quoted_bytes-break line rest whole
    ∙ ap (λ xs. xs ++ quoted_bytes rest) soft

pub quoted_bytes-hard : (line rest : List ℕ) → IsOneLine line → EndsWell line
    → quoted_bytes (line ++ 13 ∷ 10 ∷ rest) ≡ unescaped line ++ 13 ∷ 10 ∷ quoted_bytes rest
quoted_bytes-hard line rest one well =
    quoted_bytes-break line rest one
    ∙ ap (λ xs. xs ++ quoted_bytes rest) (line_bytes-hard line (13 ∷ 10 ∷ []) line (sym well.trimmed) well.hard)
    ∙ append_assoc (unescaped line) (13 ∷ 10 ∷ []) (quoted_bytes rest)

pub quoted_bytes-end : (line : List ℕ) → IsOneLine line → EndsWell line → quoted_bytes line ≡ unescaped line
quoted_bytes-end line one well =
    quoted_bytes-last line (slice_split_none is_line_feed line one)
    ∙ line_bytes-hard line [] line (sym well.trimmed) well.hard ∙ append-nil (unescaped line)
