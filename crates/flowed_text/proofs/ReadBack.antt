-- What a written line is read as.
use Rattle.std.proofs.Common.{◌≡◌, ◌==◌, ℕ, zero, suc, ◌+◌, ◌-◌, ◌≤◌, inl, inr, Bool, true, false, cond, ◌||◌, not, nat_lt, List, [], ◌∷◌, ◌++◌, length, get_or, take, drop, refl, sym, ap, subst, ◌∙◌, arith, append_assoc, drop_at, length-take-le}
use Rattle.std.specs.Prelude.{codes, min, replicate}
use Rattle.std.specs.List.{All, starts_with}
use Rattle.std.specs.Str.{bytes_eq}
use Rattle.std.proofs.lemmas.Bool.{and_cases, and_from, and_left, and_parts, false≢true, not-false, or_parts, true≢false}
use Rattle.std.proofs.lemmas.List.{get_or-drop, get_or-take, length-drop, length-replicate}
use Rattle.std.proofs.lemmas.List.Elements.{All-append, All-cons, All-nil, All-replicate}
use Rattle.std.proofs.lemmas.Slice.Eq.{bytes_eq-Decides}
use Rattle.flowed_text.specs.Lines.{lines, strip_first}
use Rattle.flowed_text.specs.Paragraphs.{ends_in_space, is_flowing, mark_count, read_line, signature}
use Rattle.flowed_text.specs.Flow.{line_with_ending, is_stuffed, whole_line}
use Rattle.flowed_text.proofs.Breaks.{EndsAt}
use Rattle.flowed_text.proofs.LineCuts.{IsPlain, lines-ended}

-- ---- marks and stuffing

mark_count-replicate : (n : ℕ) (rest : List ℕ) → mark_count rest ≡ 0 → mark_count (replicate n 62 ++ rest) ≡ n
mark_count-replicate zero rest none = none
mark_count-replicate (suc n) rest none = let more = mark_count-replicate n rest none in omega arith

-- a text that is read as it is
record Bare (text : List ℕ) : Type 0 where
  no_marks : mark_count text ≡ 0
  kept : strip_first 32 text ≡ text

bare-from : (text : List ℕ) → (get_or text 0 0 == 62) ≡ false → (get_or text 0 0 == 32) ≡ false → Bare text
bare-from [] no_mark no_space = record { no_marks = refl; kept = refl }
bare-from (b ∷ text) no_mark no_space = record { no_marks = rw no_mark refl; kept = rw no_space refl }

bare-of : (depth : ℕ) (text : List ℕ) → is_stuffed depth text ≡ false → Bare text
bare-of depth text stuffed =
    let first = get_or text 0 0 in
    let starts = starts_with (λ a b. a == b) text (codes "From ") in
    let outer = or_parts (nat_lt 0 depth) (first == 32 || first == 62 || starts) stuffed in
    let inner = or_parts (first == 32 || first == 62) starts outer.1 in
    let both = or_parts (first == 32) (first == 62) inner.0 in
    bare-from text both.1 both.0

-- a text after its stuffing
record Stuffed (text : List ℕ) (space : Bool) : Type 0 where
  no_marks : mark_count (cond space (32 ∷ []) [] ++ text) ≡ 0
  read : strip_first 32 (cond space (32 ∷ []) [] ++ text) ≡ text

stuffed-if : (text : List ℕ) (space : Bool) → (space ≡ false → Bare text) → Stuffed text space
stuffed-if text true bare = record { no_marks = refl; read = refl }
stuffed-if text false bare = let b = bare refl in record { no_marks = b.no_marks; read = b.kept }

pub read_line-written : (depth : ℕ) (text : List ℕ) → depth ≤ 4294967295 → read_line (whole_line depth text) ≡ record { depth = depth; text = text }
read_line-written depth text small =
    let space = is_stuffed depth text in
    let tail = cond space (32 ∷ []) [] ++ text in
    let stuffed = stuffed-if text space (bare-of depth text) in
    let apart : whole_line depth text ≡ replicate depth 62 ++ tail = append_assoc (replicate depth 62) (cond space (32 ∷ []) []) text in
    let count : mark_count (replicate depth 62 ++ tail) ≡ depth = mark_count-replicate depth tail stuffed.no_marks in
    let least : min depth 4294967295 ≡ depth = omega arith in
    let rest : drop depth (replicate depth 62 ++ tail) ≡ tail = drop_at (replicate depth 62) tail depth (length-replicate depth 62) in
    ap read_line apart
    ∙ ap (λ n. record { depth = min n 4294967295; text = strip_first 32 (drop n (replicate depth 62 ++ tail)) }) count
    ∙ ap (λ n. record { depth = n; text = strip_first 32 (drop depth (replicate depth 62 ++ tail)) }) least
    ∙ ap (λ t. record { depth = depth; text = t }) (ap (strip_first 32) rest ∙ stuffed.read)

-- ---- a written line is one line

plain-stuffing : (space : Bool) → All IsPlain (cond space (32 ∷ []) [])
plain-stuffing true = All-cons IsPlain 32 [] refl (All-nil IsPlain)
plain-stuffing false = All-nil IsPlain

plain-line : (depth : ℕ) (text : List ℕ) → All IsPlain text → All IsPlain (whole_line depth text)
plain-line depth text plain =
    let stuffing = cond (is_stuffed depth text) (32 ∷ []) [] in
    All-append IsPlain (replicate depth 62 ++ stuffing) text
    (All-append IsPlain (replicate depth 62) stuffing (All-replicate IsPlain depth 62 refl) (plain-stuffing (is_stuffed depth text))) plain

pub lines-written : (depth : ℕ) (text rest : List ℕ) → All IsPlain text → lines (line_with_ending depth text ++ rest) ≡ whole_line depth text ∷ lines rest
lines-written depth text rest plain =
    ap lines (append_assoc (whole_line depth text) (13 ∷ 10 ∷ []) rest) ∙ lines-ended (whole_line depth text) 13 (10 ∷ rest) (plain-line depth text plain) refl

-- ---- which texts flow

-- the text of a line that is not the last flows
pub is_flowing-at : (text : List ℕ) (end : ℕ) → EndsAt text end → is_flowing (take end text) ≡ true
is_flowing-at text end ends =
    let may = and_parts (get_or text (end - 1) 0 == 32) (not (bytes_eq (take end text) signature)) ends.may in
    let some = ends.some in
    let size : length (take end text) ≡ end = length-take-le end text ends.within in
    let last : get_or (take end text) (length (take end text) - 1) 0 ≡ get_or text (end - 1) 0 = ap (λ n. get_or (take end text) (n - 1) 0) size ∙ get_or-take end text (end - 1) 0 (omega arith) in
    and_from (ends_in_space (take end text)) (not (bytes_eq (take end text) signature)) (ap (λ b. b == 32) last ∙ may.0) may.1

-- no line ends within `-- `
no_end : (end : ℕ) → EndsAt signature end → ⊥
no_end zero ends = let some = ends.some in omega arith
no_end (suc zero) ends = false≢true ends.may
no_end (suc (suc zero)) ends = false≢true ends.may
no_end (suc (suc (suc zero))) ends = false≢true ends.may
no_end (suc (suc (suc (suc n)))) ends = let within = ends.within in omega arith

place_of : (end whole rest : ℕ) → rest ≡ whole - end → end ≤ whole → (end ≡ whole → ⊥) → end + (rest - 1) ≡ whole - 1
place_of end whole rest e within inside = omega arith

signature_is : (text : List ℕ) → bytes_eq text signature ≡ true → text ≡ signature
signature_is text same = (bytes_eq-Decides text signature).0 same

-- what follows a line flows no more than the whole does
pub is_flowing-rest : (text : List ℕ) (end : ℕ) → EndsAt text end → is_flowing text ≡ false → is_flowing (drop end text) ≡ false
is_flowing-rest text end ends stops =
    let may = and_parts (get_or text (end - 1) 0 == 32) (not (bytes_eq (take end text) signature)) ends.may in
    elim (and_cases (ends_in_space text) (not (bytes_eq text signature)) stops) [
      | inl fixed ↦
          let within = ends.within in
          let some = ends.some in
          let inside : (end ≡ length text → ⊥) = λ same. true≢false (sym may.0 ∙ ap (λ n. get_or text (n - 1) 0 == 32) same ∙ fixed) in
          let last : get_or (drop end text) (length (drop end text) - 1) 0 ≡ get_or text (length text - 1) 0 =
          get_or-drop end text (length (drop end text) - 1) 0 ∙ ap (λ n. get_or text n 0) (place_of end (length text) (length (drop end text)) (length-drop end text) within inside) in
          and_left (ends_in_space (drop end text)) (not (bytes_eq (drop end text) signature)) (ap (λ b. b == 32) last ∙ fixed)
      | inr line ↦ absurd (no_end end (subst (λ t. EndsAt t end) (signature_is text (not-false (bytes_eq text signature) line)) ends))
    ]
