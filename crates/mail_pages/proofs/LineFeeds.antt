-- A text with CR LF and lone CR as LF, a line at a time.
use Rattle.std.proofs.Common.{◌≡◌, ◌≢◌, ℕ, ◌<◌, ◌≤◌, inl, inr, Bool, true, false, eqb, List, [], ◌∷◌, ◌++◌, length, refl, sym, ap, subst, ◌∙◌, arith, append_assoc, Option, Some, None}
use Rattle.memchr.specs.Find.{IsFirstByte, is_byte}
use Rattle.std.specs.Option.{is_some, MatchOption, IfSome, OnSome, IfNone}
use Rattle.std.specs.List.{slice_split, onto_first, position_or_len, before_first, after_first}
use Rattle.std.specs.Str.{IsUtf8}
use Rattle.std.specs.Str.Lossy.{utf8_lossy}
use Rattle.std.proofs.lemmas.Str.{utf8_lossy-IsUtf8}
use Rattle.std.proofs.lemmas.Bool.{cases_lt, cases_Bool, eqb-true}
use Rattle.std.proofs.lemmas.List.Sums.{passes_at_first}
use Rattle.std.proofs.lemmas.List.{append-nil}
use Rattle.std.proofs.lemmas.List.Splits.{slice_split_first, slice_split-cons_yes, slice_split-cons_no}
use Rattle.header_words.proofs.FirstLine.{slice_split_some, slice_split_whole}
use Rattle.mail_pages.specs.Text.{is_carriage_return, skip_line_feed, join_lines, with_line_feeds}

-- a text without CR
pub line_feeds-clean : (text : List ℕ) → length text ≤ position_or_len is_carriage_return text → with_line_feeds text ≡ text
unfolding with_line_feeds
line_feeds-clean text clean = ap join_lines (slice_split_whole is_carriage_return text clean) ∙ append-nil text

-- the first piece without its leading LF
abbrev first_without : List (List ℕ) → List (List ℕ)
first_without [] = []
first_without (piece ∷ more) = skip_line_feed piece ∷ more

without_on : (c : ℕ) (rest : List ℕ) → eqb c 10 ≡ false → skip_line_feed (c ∷ rest) ≡ c ∷ rest
without_on c rest other = rw other refl

without_here : (c : ℕ) (rest : List ℕ) → eqb c 10 ≡ true → skip_line_feed (c ∷ rest) ≡ rest
without_here c rest here = rw here refl

not_return : (c : ℕ) → eqb c 10 ≡ true → is_carriage_return c ≡ false
not_return c here = let e : c ≡ 10 = eqb-true c 10 here in rw e refl

pieces_of : (c : ℕ) (rest head : List ℕ) (tail : List (List ℕ)) → is_carriage_return c ≡ false → slice_split is_carriage_return rest ≡ head ∷ tail → slice_split is_carriage_return (c ∷ rest) ≡ (c ∷ head) ∷ tail
pieces_of c rest head tail stays e = slice_split-cons_no is_carriage_return c rest stays ∙ ap (onto_first c) e

pieces_without : (text : List ℕ) → slice_split is_carriage_return (skip_line_feed text) ≡ first_without (slice_split is_carriage_return text)
pieces_without [] = refl
pieces_without (c ∷ rest) =
    let after = slice_split_some is_carriage_return rest in
    elim (cases_Bool (eqb c 10)) [
      | inl here ↦
          ap (slice_split is_carriage_return) (without_here c rest here) ∙ after.is
          ∙ ap (λ h. h ∷ after.tail) (sym (without_here c after.head here))
          ∙ sym (ap first_without (pieces_of c rest after.head after.tail (not_return c here) after.is))
      | inr other ↦
          ap (slice_split is_carriage_return) (without_on c rest other)
          ∙ elim (cases_Bool (is_carriage_return c)) [
            | inl returns ↦ slice_split-cons_yes is_carriage_return c rest returns ∙ sym (ap first_without (slice_split-cons_yes is_carriage_return c rest returns))
            | inr stays ↦
                pieces_of c rest after.head after.tail stays after.is ∙ ap (λ h. h ∷ after.tail) (sym (without_on c after.head other))
                ∙ sym (ap first_without (pieces_of c rest after.head after.tail stays after.is))
          ]
    ]

-- a line and what follows it
pub line_feeds-step : (text : List ℕ) → position_or_len is_carriage_return text < length text → with_line_feeds text ≡ before_first is_carriage_return text ++ 10 ∷ with_line_feeds (skip_line_feed (after_first is_carriage_return text))
unfolding with_line_feeds
line_feeds-step text found =
    let after = slice_split_some is_carriage_return (after_first is_carriage_return text) in
    let parts : slice_split is_carriage_return text ≡ before_first is_carriage_return text ∷ (after.head ∷ after.tail) = slice_split_first is_carriage_return text 0 found ∙ ap (λ ps. before_first is_carriage_return text ∷ ps) after.is in
    ap join_lines parts ∙ ap (λ ps. before_first is_carriage_return text ++ 10 ∷ join_lines ps) (sym (pieces_without (after_first is_carriage_return text) ∙ ap first_without after.is))

-- the bytes without a leading LF
pub without-stripped : (text rest : List ℕ) → text ≡ 10 ∷ rest → rest ≡ skip_line_feed text
without-stripped text rest e = ap skip_line_feed (sym e)

pub without-kept : (text : List ℕ) → ((rest : List ℕ) → text ≢ 10 ∷ rest) → text ≡ skip_line_feed text
without-kept [] other = refl
without-kept (c ∷ rest) other =
    elim (cases_Bool (eqb c 10)) [
      | inl here ↦ absurd (other rest (ap (λ k. k ∷ rest) (eqb-true c 10 here)))
      | inr differs ↦ sym (without_on c rest differs)
    ]

-- a line and what is left, which begins after its end
pub next_line : (rest line after : List ℕ) → position_or_len is_carriage_return rest < length rest → line ≡ before_first is_carriage_return rest
    → after ≡ skip_line_feed (after_first is_carriage_return rest) → (line ++ 10 ∷ []) ++ with_line_feeds after ≡ with_line_feeds rest
next_line rest line after found l a =
    append_assoc line (10 ∷ []) (with_line_feeds after)
    ∙ ap (λ t. line ++ 10 ∷ with_line_feeds t) a
    ∙ ap (λ t. t ++ 10 ∷ with_line_feeds (skip_line_feed (after_first is_carriage_return rest))) l
    ∙ sym (line_feeds-step rest found)

-- a byte that is no CR stays
line_feeds-other : (c : ℕ) (rest : List ℕ) → is_carriage_return c ≡ false → with_line_feeds (c ∷ rest) ≡ c ∷ with_line_feeds rest
unfolding with_line_feeds
line_feeds-other c rest other =
    let after = slice_split_some is_carriage_return rest in
    ap join_lines (pieces_of c rest after.head after.tail other after.is) ∙ sym (ap (λ ps. c ∷ join_lines ps) after.is)

line_feeds-return : (c : ℕ) (rest : List ℕ) → is_carriage_return c ≡ true → with_line_feeds (c ∷ rest) ≡ 10 ∷ with_line_feeds (skip_line_feed rest)
line_feeds-return c rest returns =
    let e : c ≡ 13 = eqb-true c 13 returns in
    rw e (line_feeds-step (13 ∷ rest) (omega arith))

pub line_feeds-nil : with_line_feeds [] ≡ []
unfolding with_line_feeds
line_feeds-nil = refl

-- before a byte that is no LF a text ends in itself
pub line_feeds-cut : (front : List ℕ) (c : ℕ) (back : List ℕ) → eqb c 10 ≡ false → with_line_feeds (front ++ c ∷ back) ≡ with_line_feeds front ++ with_line_feeds (c ∷ back)
line_feeds-cut [] c back other = ap (λ t. t ++ with_line_feeds (c ∷ back)) (sym line_feeds-nil)
line_feeds-cut (a ∷ []) c back other =
    elim (cases_Bool (is_carriage_return a)) [
      | inl returns ↦
          line_feeds-return a (c ∷ back) returns ∙ ap (λ t. 10 ∷ with_line_feeds t) (without_on c back other)
          ∙ ap (λ t. (10 ∷ t) ++ with_line_feeds (c ∷ back)) (sym line_feeds-nil) ∙ ap (λ t. t ++ with_line_feeds (c ∷ back)) (sym (line_feeds-return a [] returns))
      | inr stays ↦
          line_feeds-other a (c ∷ back) stays
          ∙ ap (λ t. (a ∷ t) ++ with_line_feeds (c ∷ back)) (sym line_feeds-nil) ∙ ap (λ t. t ++ with_line_feeds (c ∷ back)) (sym (line_feeds-other a [] stays))
    ]
line_feeds-cut (a ∷ d ∷ front) c back other =
    let next = line_feeds-cut (d ∷ front) c back other in
    let after = line_feeds-cut front c back other in
    elim (cases_Bool (is_carriage_return a)) [
      | inl returns ↦ elim (cases_Bool (eqb d 10)) [
        | inl feeds ↦
            line_feeds-return a (d ∷ front ++ c ∷ back) returns ∙ ap (λ t. 10 ∷ with_line_feeds t) (without_here d (front ++ c ∷ back) feeds)
            ∙ ap (λ t. 10 ∷ t) after
            ∙ ap (λ t. t ++ with_line_feeds (c ∷ back)) (sym (line_feeds-return a (d ∷ front) returns ∙ ap (λ t. 10 ∷ with_line_feeds t) (without_here d front feeds)))
        | inr stands ↦
            line_feeds-return a (d ∷ front ++ c ∷ back) returns ∙ ap (λ t. 10 ∷ with_line_feeds t) (without_on d (front ++ c ∷ back) stands)
            ∙ ap (λ t. 10 ∷ t) next
            ∙ ap (λ t. t ++ with_line_feeds (c ∷ back)) (sym (line_feeds-return a (d ∷ front) returns ∙ ap (λ t. 10 ∷ with_line_feeds t) (without_on d front stands)))
      ]
      | inr stays ↦
          line_feeds-other a (d ∷ front ++ c ∷ back) stays ∙ ap (λ t. a ∷ t) next
          ∙ ap (λ t. t ++ with_line_feeds (c ∷ back)) (sym (line_feeds-other a (d ∷ front) stays))
    ]

-- around a U+FFFD
pub line_feeds-replaced : (front back : List ℕ) → with_line_feeds (front ++ (239 ∷ 191 ∷ 189 ∷ back)) ≡ with_line_feeds front ++ (239 ∷ 191 ∷ 189 ∷ with_line_feeds back)
line_feeds-replaced front back =
    line_feeds-cut front 239 (191 ∷ 189 ∷ back) refl
    ∙ ap (λ t. with_line_feeds front ++ t) (line_feeds-other 239 (191 ∷ 189 ∷ back) refl ∙ ap (λ t. 239 ∷ t) (line_feeds-other 191 (189 ∷ back) refl ∙ ap (λ t. 191 ∷ t) (line_feeds-other 189 back refl)))

-- valid text is read as it is
pub lossy-valid : (bytes text : List ℕ) → text ≡ bytes → IsUtf8 bytes → text ≡ utf8_lossy bytes
lossy-valid bytes text e valid = e ∙ sym (utf8_lossy-IsUtf8 bytes valid)

-- ---- what a match says of each of its parts

pub first_part : {A : Type 0} (r : Option A) (N R : Type 0) (P Q : A → Type 0) → MatchOption r N (λ x. P x × Q x × R) → IfSome r P
first_part None N R P Q h = tt
first_part (Some x) N R P Q h = h.0

pub second_part : {A : Type 0} (r : Option A) (N R : Type 0) (P Q : A → Type 0) → MatchOption r N (λ x. P x × Q x × R) → IfSome r Q
second_part None N R P Q h = tt
second_part (Some x) N R P Q h = h.1

pub third_part : {A : Type 0} (r : Option A) (N R : Type 0) (P Q : A → Type 0) → MatchOption r N (λ x. P x × Q x × R) → OnSome r R
third_part None N R P Q h = tt
third_part (Some x) N R P Q h = h.2

pub none_part : {A : Type 0} (r : Option A) (N R : Type 0) (P Q : A → Type 0) → MatchOption r N (λ x. P x × Q x × R) → IfNone r N
none_part None N R P Q h = h
none_part (Some x) N R P Q h = tt

-- a search that finds no CR
pub no_return : (text bytes : List ℕ) (r : Option ℕ) (some : Bool) → bytes ≡ text → IsFirstByte (is_byte 13) bytes r → some ≡ is_some r → some ≡ false → length text ≤ position_or_len is_carriage_return text
no_return text bytes (Some n) some same first is none = let both : true ≡ false = sym is ∙ none in absurd (cc)
no_return text bytes None some same first is none =
    let none_of : IsFirstByte (is_byte 13) text None = subst (λ (b : List ℕ). IsFirstByte (is_byte 13) b None) same first in
    elim (cases_lt (position_or_len is_carriage_return text) (length text)) [
      | inl lt ↦ absurd (none_of (position_or_len is_carriage_return text) (omega arith) lt (passes_at_first is_carriage_return text 0 lt))
      | inr ge ↦ ge
    ]
