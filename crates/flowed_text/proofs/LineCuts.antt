-- The first line of a text, and the lines after it.
use Rattle.std.proofs.Common.{◌≡◌, ◌≢◌, ℕ, suc, ◌<◌, inl, inr, true, false, eqb, List, [], ◌∷◌, ◌++◌, length, get_or, take, drop, refl, sym, ap, ◌∙◌, arith, Some, None, drop-cons, get_or-take, length-take-le}
use Rattle.memchr.specs.Find.{IsFirstByte, is_byte2}
use Rattle.std.specs.List.{All, slice_split}
use Rattle.std.proofs.lemmas.Bool.{cases_Bool, eqb-true, ne_eqb, eq-eqb, or_cases, or_parts}
use Rattle.std.proofs.lemmas.List.{append-nil, take-append-drop}
use Rattle.std.proofs.lemmas.List.Elements.{All-head, All-tail, All-from_get_or}
use Rattle.std.proofs.lemmas.List.Splits.{length-slice_split, slice_split_at, slice_split_none}
use Rattle.flowed_text.specs.Lines.{skip_line_ending, is_ending, lines, single_endings, without_empty_last, strip_first}

-- ---- one byte at the front

pub strip_first-here : (c b : ℕ) (rest : List ℕ) → b ≡ c → strip_first c (b ∷ rest) ≡ rest
strip_first-here c b rest e = rw (eq-eqb b c e) refl

pub strip_first-other : (c b : ℕ) (rest : List ℕ) → (b ≡ c → ⊥) → strip_first c (b ∷ rest) ≡ b ∷ rest
strip_first-other c b rest other = rw (ne_eqb b c other) refl

pub strip_first-kept : (c : ℕ) (text : List ℕ) → ((rest : List ℕ) → text ≢ c ∷ rest) → text ≡ strip_first c text
strip_first-kept c [] other = refl
strip_first-kept c (b ∷ rest) other = sym (strip_first-other c b rest (λ e. other rest (ap (λ k. k ∷ rest) e)))

pub skip_line_ending-return : (text rest : List ℕ) → text ≡ 13 ∷ rest → strip_first 10 rest ≡ skip_line_ending text
skip_line_ending-return text rest e = ap skip_line_ending (sym e)

pub skip_line_ending-other : (text : List ℕ) → ((rest : List ℕ) → text ≢ 13 ∷ rest) → strip_first 10 text ≡ skip_line_ending text
skip_line_ending-other [] other = refl
skip_line_ending-other (b ∷ rest) other = rw (ne_eqb b 13 (λ e. other rest (ap (λ k. k ∷ rest) e))) refl

-- ---- endings of one character

single_endings-first : (rest : List ℕ) → strip_first 10 (single_endings rest) ≡ single_endings (strip_first 10 rest)
single_endings-first [] = refl
single_endings-first (b ∷ rest) =
    elim (cases_Bool (eqb b 10)) [
      | inl here ↦
          let e : b ≡ 10 = eqb-true b 10 here in
          rw e refl
      | inr other ↦ rw other refl
    ]

single_endings-ending : (b : ℕ) (rest : List ℕ) → is_ending b ≡ true → single_endings (b ∷ rest) ≡ b ∷ single_endings (skip_line_ending (b ∷ rest))
single_endings-ending b rest ends =
    elim (or_cases (eqb b 13) (eqb b 10) ends) [
      | inl return ↦ rw return (ap (λ t. b ∷ t) (single_endings-first rest))
      | inr feed ↦
          let e : b ≡ 10 = eqb-true b 10 feed in
          rw e refl
    ]

abbrev pub IsPlain : ℕ → Type 0
IsPlain b = is_ending b ≡ false

plain_return : (b : ℕ) → IsPlain b → eqb b 13 ≡ false
plain_return b plain = (or_parts (eqb b 13) (eqb b 10) plain).0

pub single_endings-plain : (line rest : List ℕ) → All IsPlain line → single_endings (line ++ rest) ≡ line ++ single_endings rest
single_endings-plain [] rest plain = refl
single_endings-plain (b ∷ line) rest plain =
    rw (plain_return b (All-head IsPlain b line plain)) (ap (λ t. b ∷ t) (single_endings-plain line rest (All-tail IsPlain b line plain)))

-- ---- lines

before_more : (line : List ℕ) (parts : List (List ℕ)) → 0 < length parts → without_empty_last (line ∷ parts) ≡ line ∷ without_empty_last parts
before_more line [] some = absurd (omega arith)
before_more line (part ∷ parts) some = refl

pub lines-nil : lines [] ≡ []
unfolding lines
lines-nil = refl

pub lines-ended : (line : List ℕ) (b : ℕ) (rest : List ℕ) → All IsPlain line → is_ending b ≡ true → lines (line ++ b ∷ rest) ≡ line ∷ lines (skip_line_ending (b ∷ rest))
unfolding lines
lines-ended line b rest plain ends =
    let after = single_endings (skip_line_ending (b ∷ rest)) in
    ap (λ t. without_empty_last (slice_split is_ending t)) (single_endings-plain line (b ∷ rest) plain ∙ ap (λ t. line ++ t) (single_endings-ending b rest ends))
    ∙ ap without_empty_last (slice_split_at is_ending line b after plain ends)
    ∙ before_more line (slice_split is_ending after) (omega (arith, length-slice_split is_ending after))

pub lines-last : (text : List ℕ) → (length text ≡ 0 → ⊥) → All IsPlain text → lines text ≡ text ∷ lines []
unfolding lines
lines-last text some plain =
    ap (λ t. without_empty_last (slice_split is_ending t)) (ap single_endings (sym (append-nil text)) ∙ single_endings-plain text [] plain ∙ append-nil text)
    ∙ ap without_empty_last (slice_split_none is_ending text plain)
    ∙ rw (ne_eqb (length text) 0 some) refl

-- ---- what the search for an ending says

pub before_ending : (text : List ℕ) (end : ℕ) → IsFirstByte (is_byte2 13 10) text (Some end) → All IsPlain (take end text)
before_ending text end first = All-from_get_or IsPlain (take end text) 0 (λ i lt.
    let short : i < end = omega (arith, length-take-le end text) in
    elim (cases_Bool (is_ending (get_or (take end text) i 0))) [
      | inl ends ↦ absurd (first.0.before i (omega arith) short (ap is_ending (sym (get_or-take end text i 0 short)) ∙ ends))
      | inr plain ↦ plain
    ])

pub no_ending : (text : List ℕ) → IsFirstByte (is_byte2 13 10) text None → All IsPlain text
no_ending text none = All-from_get_or IsPlain text 0 (λ i lt.
    elim (cases_Bool (is_ending (get_or text i 0))) [
      | inl ends ↦ absurd (none i (omega arith) lt ends)
      | inr plain ↦ plain
    ])

pub lines-empty : (text : List ℕ) → length text ≡ 0 → lines text ≡ []
lines-empty [] none = lines-nil
lines-empty (b ∷ rest) none = absurd (omega arith)

pub lines-cut : (text line ending : List ℕ) (end : ℕ) → IsFirstByte (is_byte2 13 10) text (Some end) → line ≡ take end text → ending ≡ drop end text → lines text ≡ line ∷ lines (skip_line_ending ending)
lines-cut text line ending end first l e =
    let b = get_or text end 0 in
    let rest = drop (suc end) text in
    let split : drop end text ≡ b ∷ rest = drop-cons text end 0 first.0.high in
    ap lines (sym (take-append-drop end text) ∙ ap (λ t. take end text ++ t) split)
    ∙ lines-ended (take end text) b rest (before_ending text end first) first.1
    ∙ ap (λ t. t ∷ lines (skip_line_ending (b ∷ rest))) (sym l)
    ∙ ap (λ t. line ∷ lines (skip_line_ending t)) (sym split ∙ sym e)
