-- Where the first line of a text ends.
use mir.Val.{bool_byte}
use Rattle.std.proofs.Common.{◌==◌, ◌≡◌, ℕ, zero, suc, ◌+◌, ◌-◌, ◌*◌, ◌<◌, ◌≤◌, inl, inr, Bool, true, false, cond, ◌&&◌, not, leb, List, [], ◌∷◌, ◌++◌, length, get_or, take, drop, refl, sym, ap, subst, ◌∙◌, arith, add-one, add-zero, add_assoc, Option, Some, None}
use Rattle.std.specs.Prelude.{IfSome, replicate}
use Rattle.std.specs.Option.{option_or}
use Rattle.std.specs.Str.{bytes_eq}
use Rattle.std.proofs.Math.Seq.{take-add}
use Rattle.std.proofs.Common.{take_all}
use Rattle.std.proofs.lemmas.Bool.{and_left, and_parts, and_right, cases_Bool, cases_lt, eqb-true, le-leb, lt-leb}
use Rattle.std.proofs.lemmas.List.Folds.{sum_by-replicate}
use Rattle.std.proofs.lemmas.List.Sums.{count_by_more_no, count_by_more_yes, sum_by-append}
use Rattle.flowed_text.specs.Paragraphs.{signature}
use Rattle.flowed_text.proofs.Stuffing.{stuffed-first}
use Rattle.flowed_text.specs.Flow.{begins_character, greatest, is_short, is_stuffed, least, line_break, may_break, prefix, whole_line, width}

-- ---- the least and the greatest number that passes

least-more : (p : ℕ → Bool) (k m n : ℕ) → least p k ≡ Some m → k ≤ n → least p n ≡ Some m
least-more p k m zero found le = let same : k ≡ 0 = omega arith in ap (least p) (sym same) ∙ found
least-more p k m (suc n) found le =
    elim (cases_lt n k) [
      | inl lt ↦ let same : k ≡ suc n = omega arith in ap (least p) (sym same) ∙ found
      | inr ge ↦ ap (λ o. option_or o (cond (p (suc n)) (Some (suc n)) None)) (least-more p k m n found ge)
    ]

pub least-first : (p : ℕ → Bool) (i n : ℕ) → least p i ≡ None → p (i + 1) ≡ true → i < n → Some (i + 1) ≡ least p n
least-first p i n none here lt =
    let passes : p (suc i) ≡ true = rw add-one at here in
    let found : least p (suc i) ≡ Some (suc i) = rw (none, passes) refl in
    rw add-one (sym (least-more p (suc i) (suc i) n found (omega arith)))

pub least-none : (p : ℕ → Bool) (i : ℕ) → least p i ≡ None → p (i + 1) ≡ false → least p (i + 1) ≡ None
least-none p i none other = let fails : p (suc i) ≡ false = rw add-one at other in rw add-one (rw (none, fails) refl)

pub greatest-past : (p : ℕ → Bool) (i n : ℕ) → i ≤ n → ((k : ℕ) → i < k → k ≤ n → p k ≡ false) → greatest p n ≡ greatest p i
greatest-past p i zero le none = let same : i ≡ 0 = omega arith in ap (greatest p) (sym same)
greatest-past p i (suc n) le none =
    elim (cases_lt n i) [
      | inl lt ↦ let same : i ≡ suc n = omega arith in ap (greatest p) (sym same)
      | inr ge ↦ rw (none (suc n) (omega arith) (omega arith)) (greatest-past p i n ge (λ k low high. none k low (omega arith)))
    ]

pub greatest-here : (p : ℕ → Bool) (i : ℕ) → p (i + 1) ≡ true → Some (i + 1) ≡ greatest p (i + 1)
greatest-here p i here = let passes : p (suc i) ≡ true = rw add-one at here in rw add-one (rw passes refl)

pub greatest-not_here : (p : ℕ → Bool) (i : ℕ) → p (i + 1) ≡ false → greatest p i ≡ greatest p (i + 1)
greatest-not_here p i other = let fails : p (suc i) ≡ false = rw add-one at other in rw add-one (rw fails refl)

-- a number from 1 up to n that passes
abbrev pub IsPlace : (ℕ → Bool) → ℕ → ℕ → Type 0
IsPlace p n m = (0 < m) × (m ≤ n) × (p m ≡ true)

place-more : (p : ℕ → Bool) (n : ℕ) (o : Option ℕ) → IfSome o (IsPlace p n) → IfSome o (IsPlace p (suc n))
place-more p n None place = tt
place-more p n (Some m) place = (place.0, omega (arith, place.1), place.2)

place-last : (p : ℕ → Bool) (n : ℕ) (b : Bool) (o : Option ℕ) → p (suc n) ≡ b → IfSome o (IsPlace p n) → IfSome (cond b (Some (suc n)) o) (IsPlace p (suc n))
place-last p n true o here place = (omega arith, omega arith, here)
place-last p n false o here place = place-more p n o place

place-or : (P : ℕ → Type 0) (o other : Option ℕ) → IfSome o P → IfSome other P → IfSome (option_or o other) P
place-or P None other place next = next
place-or P (Some m) other place next = place

greatest-place : (p : ℕ → Bool) (n : ℕ) → IfSome (greatest p n) (IsPlace p n)
greatest-place p zero = tt
greatest-place p (suc n) = place-last p n (p (suc n)) (greatest p n) refl (greatest-place p n)

least-place : (p : ℕ → Bool) (n : ℕ) → IfSome (least p n) (IsPlace p n)
least-place p zero = tt
least-place p (suc n) =
    place-or (IsPlace p (suc n)) (least p n) (cond (p (suc n)) (Some (suc n)) None) (place-more p n (least p n) (least-place p n)) (place-last p n (p (suc n)) None refl tt)

-- ---- the width of a line

width-append : (xs ys : List ℕ) → width (xs ++ ys) ≡ width xs + width ys
width-append xs ys = sum_by-append (λ b. cond (begins_character b) 1 0) xs ys

width-mark_count : (depth : ℕ) (space : Bool) → width (replicate depth 62 ++ cond space (32 ∷ []) []) ≡ depth + cond space 1 0
width-mark_count depth space =
    width-append (replicate depth 62) (cond space (32 ∷ []) []) ∙ ap (λ n. n + width (cond space (32 ∷ []) [])) (sum_by-replicate (λ b. cond (begins_character b) 1 0) depth 62)
    ∙ elim space as (λ b. depth * 1 + width (cond b (32 ∷ []) []) ≡ depth + cond b 1 0) [ true ↦ omega arith | false ↦ omega arith ]

pub width-prefix : (depth : ℕ) (text : List ℕ) → width (prefix depth text) ≡ depth + cond (is_stuffed depth text) 1 0
width-prefix depth text = width-mark_count depth (is_stuffed depth text)

pub width-none : (depth : ℕ) (text : List ℕ) → width (prefix depth text ++ take 0 text) ≡ depth + cond (is_stuffed depth text) 1 0
width-none depth text = width-append (prefix depth text) [] ∙ ap (λ n. n + 0) (width-prefix depth text) ∙ omega arith

pub width-more : (front text : List ℕ) (i : ℕ) (here : Bool) → i < length text → here ≡ begins_character (get_or text i 0)
    → width (front ++ take (i + 1) text) ≡ width (front ++ take i text) + cond here 1 0
width-more front text i true lt e =
    width-append front (take (i + 1) text) ∙ ap (λ n. width front + n) (count_by_more_yes begins_character text i 0 lt (sym e))
    ∙ sym (add_assoc (width front) (width (take i text)) 1) ∙ ap (λ n. n + 1) (sym (width-append front (take i text)))
width-more front text i false lt e =
    width-append front (take (i + 1) text) ∙ ap (λ n. width front + n) (count_by_more_no begins_character text i 0 lt (sym e))
    ∙ sym (width-append front (take i text)) ∙ sym (add-zero (width (front ++ take i text)))

le_sum : (a b front i j k : ℕ) → a ≡ front + i → b ≡ front + j → j ≡ i + k → a ≤ b
le_sum a b front i j k p q r = omega arith

pub width-longer : (front text : List ℕ) (i j : ℕ) → i ≤ j → width (front ++ take i text) ≤ width (front ++ take j text)
width-longer front text i j le =
    let k = j - i in
    let same : i + k ≡ j = omega arith in
    let longer : width (take j text) ≡ width (take i text) + width (take k (drop i text)) =
    ap (λ n. width (take n text)) (sym same) ∙ ap width (take-add i k text) ∙ width-append (take i text) (take k (drop i text)) in
    le_sum (width (front ++ take i text)) (width (front ++ take j text)) (width front) (width (take i text)) (width (take j text)) (width (take k (drop i text)))
    (width-append front (take i text)) (width-append front (take j text)) longer

-- ---- the end of a line

-- a line may end here, and it fits
abbrev pub is_good : ℕ → List ℕ → ℕ → Bool
is_good depth text size = may_break text size && is_short depth text size

-- the end of a line that is too wide
abbrev wide_end : ℕ → List ℕ → Option ℕ
wide_end depth text = option_or (greatest (is_good depth text) (length text)) (least (may_break text) (length text))

whole : (depth : ℕ) (text : List ℕ) → width (prefix depth text ++ take (length text) text) ≡ width (whole_line depth text)
whole depth text = ap (λ t. width (prefix depth text ++ t)) (take_all (length text) text (omega arith))

pub line_break-none : (depth : ℕ) (text : List ℕ) → width (prefix depth text ++ take (length text) text) ≤ 76 → None ≡ line_break depth text
unfolding line_break
line_break-none depth text fits =
    sym (ap (λ b. cond b None (wide_end depth text)) (le-leb (width (whole_line depth text)) 76 (subst (λ n. n ≤ 76) (whole depth text) fits)))

lt_along : (a b : ℕ) → 76 < a → a ≤ b → 76 < b
lt_along a b low le = omega arith

-- a line's own text is stuffed as the whole text is
width-first : (depth : ℕ) (text : List ℕ) (size : ℕ) → 0 < size → may_break text size ≡ true → width (prefix depth (take size text) ++ take (size - 1) text) ≡ width (prefix depth text ++ take (size - 1) text)
width-first depth text size some may =
    let space = and_parts (get_or text (size - 1) 0 == 32) (not (bytes_eq (take size text) signature)) may in
    ap (λ b. width ((replicate depth 62 ++ cond b (32 ∷ []) []) ++ take (size - 1) text)) (stuffed-first depth text size some space.0)

-- no line that goes on past these bytes is short
long_past : (depth : ℕ) (text : List ℕ) (size k : ℕ) → 76 < width (prefix depth text ++ take size text) → size < k → is_good depth text k ≡ false
long_past depth text size k wide low = elim (cases_Bool (may_break text k)) [
  | inl may ↦
      let wider : 76 < width (prefix depth text ++ take (k - 1) text) = lt_along _ _ wide (width-longer (prefix depth text) text size (k - 1) (omega arith)) in
      and_right (may_break text k) (is_short depth text k) (lt-leb (width (prefix depth (take k text) ++ take (k - 1) text)) 76 (subst (λ n. 76 < n) (sym (width-first depth text k (omega arith) may)) wider))
  | inr never ↦ and_left (may_break text k) (is_short depth text k) never
]

pub line_break-wide : (depth : ℕ) (text : List ℕ) (size : ℕ) → size ≤ length text → 76 < width (prefix depth text ++ take size text)
    → option_or (greatest (is_good depth text) size) (least (may_break text) (length text)) ≡ line_break depth text
unfolding line_break
line_break-wide depth text size within wide =
    ap (λ o. option_or o (least (may_break text) (length text))) (sym (greatest-past (is_good depth text) size (length text) within (λ k low high. long_past depth text size k wide low)))
    ∙ sym (ap (λ b. cond b None (wide_end depth text)) (lt-leb (width (whole_line depth text)) 76
    (subst (λ n. 76 < n) (whole depth text) (lt_along _ _ wide (width-longer (prefix depth text) text size (length text) within)))))

-- where a line ends, it ends in a space
pub record EndsAt (text : List ℕ) (end : ℕ) : Type 0 where
  pub some : 0 < end
  pub within : end ≤ length text
  pub may : may_break text end ≡ true

place-ends : (text : List ℕ) (p : ℕ → Bool) (o : Option ℕ) → IfSome o (IsPlace p (length text)) → ((m : ℕ) → p m ≡ true → may_break text m ≡ true) → IfSome o (EndsAt text)
place-ends text p None place may = tt
place-ends text p (Some m) place may = record { some = place.0; within = place.1; may = may m place.2 }

place-if : (P : ℕ → Type 0) (b : Bool) (o : Option ℕ) → IfSome o P → IfSome (cond b None o) P
place-if P true o place = tt
place-if P false o place = place

pub line_break-place : (depth : ℕ) (text : List ℕ) → IfSome (line_break depth text) (EndsAt text)
unfolding line_break
line_break-place depth text =
    let good = place-ends text (is_good depth text) (greatest (is_good depth text) (length text)) (greatest-place (is_good depth text) (length text))
    (λ m may. (and_parts (may_break text m) (is_short depth text m) may).0) in
    let any = place-ends text (may_break text) (least (may_break text) (length text)) (least-place (may_break text) (length text)) (λ m may. may) in
    place-if (EndsAt text) (leb (width (whole_line depth text)) 76) (wide_end depth text)
    (place-or (EndsAt text) (greatest (is_good depth text) (length text)) (least (may_break text) (length text)) good any)

-- ---- a search through the bytes of a text

-- after some bytes of the text: the width of the line, and the last place where it may end and fits
pub record Scanned (depth : ℕ) (text : List ℕ) (size wide : ℕ) (last : Option ℕ) : Type 0 where
  pub within : size ≤ length text
  pub width_is : wide ≡ width (prefix depth text ++ take size text)
  pub last_is : last ≡ greatest (is_good depth text) size

pub scanned-start : (depth : ℕ) (text : List ℕ) → Scanned depth text 0 (depth + cond (is_stuffed depth text) 1 0) None
scanned-start depth text = record { within = omega arith; width_is = sym (width-none depth text); last_is = refl }

short_here : (depth : ℕ) (text : List ℕ) (size : ℕ) → width (prefix depth text ++ take size text) ≤ 76 → may_break text (size + 1) ≡ true → is_short depth text (size + 1) ≡ true
short_here depth text size fits may =
    let same : size ≡ size + 1 - 1 = omega arith in
    le-leb (width (prefix depth (take (size + 1) text) ++ take (size + 1 - 1) text)) 76
    (subst (λ n. n ≤ 76) (ap (λ n. width (prefix depth text ++ take n text)) same ∙ sym (width-first depth text (size + 1) (omega arith) may)) fits)

scanned-last : (p : ℕ → Bool) (i : ℕ) (may : Bool) (last : Option ℕ) → last ≡ greatest p i → p (i + 1) ≡ may → cond may (Some (i + 1)) last ≡ greatest p (i + 1)
scanned-last p i true last before here = greatest-here p i here
scanned-last p i false last before other = before ∙ greatest-not_here p i other

and_when : (a b : Bool) → (a ≡ true → b ≡ true) → (a && b) ≡ a
and_when true b holds = holds refl
and_when false b holds = refl

pub scanned-more : (depth : ℕ) (text : List ℕ) (size wide : ℕ) (last : Option ℕ) (here may : Bool) → Scanned depth text size wide last → wide ≤ 76 → (size ≡ length text → ⊥)
    → here ≡ begins_character (get_or text size 0) → may ≡ may_break text (size + 1) → Scanned depth text (size + 1) (wide + cond here 1 0) (cond may (Some (size + 1)) last)
scanned-more depth text size wide last here may scanned narrow inside first m =
    let lt : size < length text = omega (arith, scanned.within) in
    let fits : width (prefix depth text ++ take size text) ≤ 76 = subst (λ n. n ≤ 76) scanned.width_is narrow in
    record {
      within = omega arith;
      width_is = ap (λ n. n + cond here 1 0) scanned.width_is ∙ sym (width-more (prefix depth text) text size here lt first);
      last_is = scanned-last (is_good depth text) size may last scanned.last_is
          (and_when (may_break text (size + 1)) (is_short depth text (size + 1)) (short_here depth text size fits) ∙ sym m);
    }

pub scanned-whole : (depth : ℕ) (text : List ℕ) (size wide : ℕ) (last : Option ℕ) → Scanned depth text size wide last → wide ≤ 76 → size ≡ length text → None ≡ line_break depth text
scanned-whole depth text size wide last scanned narrow end =
    line_break-none depth text (subst (λ n. n ≤ 76) (scanned.width_is ∙ ap (λ n. width (prefix depth text ++ take n text)) end) narrow)

pub scanned-wide : (depth : ℕ) (text : List ℕ) (size wide : ℕ) (last : Option ℕ) → Scanned depth text size wide last → 76 < wide → option_or last (least (may_break text) (length text)) ≡ line_break depth text
scanned-wide depth text size wide last scanned over =
    ap (λ o. option_or o (least (may_break text) (length text))) scanned.last_is
    ∙ line_break-wide depth text size scanned.within (subst (λ n. 76 < n) scanned.width_is over)

-- the same, where the bytes are those of the text
pub scanned-step : (depth : ℕ) (bytes text : List ℕ) (size wide more : ℕ) (last : Option ℕ) (here may : Bool) → bytes ≡ text → Scanned depth text size wide last → wide ≤ 76 → (size ≡ length bytes → ⊥)
    → more ≡ cond here 1 0 → here ≡ begins_character (get_or bytes size 0) → may ≡ may_break bytes (size + 1) → Scanned depth text (size + 1) (wide + more) (cond may (Some (size + 1)) last)
scanned-step depth bytes text size wide more last here may same scanned narrow inside m first e =
    subst (λ n. Scanned depth text (size + 1) (wide + n) (cond may (Some (size + 1)) last)) (sym m)
    (scanned-more depth text size wide last here may scanned narrow (λ end. inside (end ∙ ap length (sym same)))
    (first ∙ ap (λ t. begins_character (get_or t size 0)) same) (e ∙ ap (λ t. may_break t (size + 1)) same))

bool_byte-cond : (b : Bool) → bool_byte b ≡ cond b 1 0
bool_byte-cond true = refl
bool_byte-cond false = refl

pub byte_is : (b : Bool) (n : ℕ) (c : Bool) → n ≡ bool_byte b → b ≡ c → n ≡ cond c 1 0
byte_is b n c e same = e ∙ bool_byte-cond b ∙ ap (λ x. cond x 1 0) same

within_of : (text : List ℕ) (r : Option ℕ) → IfSome r (EndsAt text) → IfSome r (λ end. end ≤ length text)
within_of text None place = tt
within_of text (Some end) place = place.within

space_of : (text : List ℕ) (r : Option ℕ) → IfSome r (EndsAt text) → IfSome r (λ end. (0 < end) × (get_or text (end - 1) 0 ≡ 32))
space_of text None place = tt
space_of text (Some end) place =
    (place.some, eqb-true (get_or text (end - 1) 0) 32 (and_parts (get_or text (end - 1) 0 == 32) (not (bytes_eq (take end text) signature)) place.may).0)

pub place_within : (depth : ℕ) (text : List ℕ) (r : Option ℕ) → r ≡ line_break depth text → IfSome r (λ end. end ≤ length text)
place_within depth text r e = within_of text r (subst (λ (o : Option ℕ). IfSome o (EndsAt text)) (sym e) (line_break-place depth text))

pub place_space : (depth : ℕ) (text : List ℕ) (r : Option ℕ) → r ≡ line_break depth text → IfSome r (λ end. (0 < end) × (get_or text (end - 1) 0 ≡ 32))
place_space depth text r e = space_of text r (subst (λ (o : Option ℕ). IfSome o (EndsAt text)) (sym e) (line_break-place depth text))
