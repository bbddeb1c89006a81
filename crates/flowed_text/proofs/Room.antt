-- How much room the lines that are written leave.
use Rattle.std.proofs.Common.{◌≡◌, ℕ, zero, suc, ◌+◌, ◌<◌, ◌≤◌, List, [], ◌∷◌, ◌++◌, length, get_or, take, drop, refl, sym, ap, ◌∙◌, arith, Option, Some, None, length-append}
use Rattle.std.specs.List.{flat_map}
use Rattle.std.proofs.lemmas.List.{take-append-drop}
use Rattle.std.proofs.lemmas.List.Concat.{flat_map-append}
use Rattle.flowed_text.specs.declared.Para.{Para}
use Rattle.flowed_text.specs.Flow.{LeavesRoom, line_with_ending, flow, flow_para, line_break, texts, texts_within}
use Rattle.flowed_text.proofs.Written.{flow-more, flow-nil, texts-last, texts-more}

-- ---- a paragraph

-- what is left of a room while a paragraph is measured up to its rest
pub record Measured (depth room left : ℕ) (rest whole : List ℕ) : Type 0 where
  pub more : ℕ
  pub bound : length rest ≤ more
  pub is : left + length whole ≡ room + length (flat_map (line_with_ending depth) (texts_within more depth rest))

pub measured-start : (depth room : ℕ) (text rest : List ℕ) → rest ≡ text → Measured depth room room rest (flat_map (line_with_ending depth) (texts depth text))
measured-start depth room text rest same = record { more = length rest; bound = omega arith; is = ap (λ t. room + length (flat_map (line_with_ending depth) (texts depth t))) (sym same) }

-- the length of the lines that begin with one of that text
lines_len : (depth : ℕ) (text : List ℕ) (more : List (List ℕ)) → length (flat_map (line_with_ending depth) (text ∷ more)) ≡ length (line_with_ending depth text) + length (flat_map (line_with_ending depth) more)
lines_len depth text more = length-append (line_with_ending depth text) (flat_map (line_with_ending depth) more)

split_len : (more depth : ℕ) (text rest next : List ℕ) (end : ℕ) → Some end ≡ line_break depth rest → text ≡ take end rest → next ≡ drop end rest
    → length (flat_map (line_with_ending depth) (texts_within (suc more) depth rest)) ≡ length (line_with_ending depth text) + length (flat_map (line_with_ending depth) (texts_within more depth next))
split_len more depth text rest next end ends t n =
    ap (λ ts. length (flat_map (line_with_ending depth) ts)) (texts-more more depth rest end ends)
    ∙ lines_len depth (take end rest) (texts_within more depth (drop end rest))
    ∙ ap (λ x. length (line_with_ending depth x) + length (flat_map (line_with_ending depth) (texts_within more depth (drop end rest)))) (sym t)
    ∙ ap (λ x. length (line_with_ending depth text) + length (flat_map (line_with_ending depth) (texts_within more depth x))) (sym n)

more-from : (more depth room left after : ℕ) (text rest next whole : List ℕ) (end : ℕ) → length rest ≤ more → left + length whole ≡ room + length (flat_map (line_with_ending depth) (texts_within more depth rest))
    → Some end ≡ line_break depth rest → 0 < end → end ≤ length rest → text ≡ take end rest → next ≡ drop end rest → length next + end ≡ length rest → after + length (line_with_ending depth text) ≡ left
    → Measured depth room after next whole
more-from zero depth room left after text rest next whole end bound is ends some within t n shorter a = absurd (omega arith)
more-from (suc more) depth room left after text rest next whole end bound is ends some within t n shorter a = record {
  more = more;
  bound = omega arith;
  is = let split = split_len more depth text rest next end ends t n in omega (arith, is, split, a);
}

pub measured-more : (depth room left after : ℕ) (text rest next whole : List ℕ) (end : ℕ) → Measured depth room left rest whole → Some end ≡ line_break depth rest → 0 < end → end ≤ length rest
    → text ≡ take end rest → next ≡ drop end rest → length next + end ≡ length rest → after + length (line_with_ending depth text) ≡ left → Measured depth room after next whole
measured-more depth room left after text rest next whole end measured ends some within t n shorter a =
    more-from measured.more depth room left after text rest next whole end measured.bound measured.is ends some within t n shorter a

full-from : (more depth room left : ℕ) (text rest next whole : List ℕ) (end : ℕ) → length rest ≤ more → left + length whole ≡ room + length (flat_map (line_with_ending depth) (texts_within more depth rest))
    → Some end ≡ line_break depth rest → 0 < end → end ≤ length rest → text ≡ take end rest → next ≡ drop end rest → left < length (line_with_ending depth text) → room < length whole
full-from zero depth room left text rest next whole end bound is ends some within t n full = absurd (omega arith)
full-from (suc more) depth room left text rest next whole end bound is ends some within t n full =
    let split = split_len more depth text rest next end ends t n in omega (arith, is, split, full)

-- a line within the paragraph does not fit
pub measured-full : (depth room left : ℕ) (text rest next whole : List ℕ) (end : ℕ) → Measured depth room left rest whole → Some end ≡ line_break depth rest → 0 < end → end ≤ length rest
    → text ≡ take end rest → next ≡ drop end rest → left < length (line_with_ending depth text) → room < length whole
measured-full depth room left text rest next whole end measured ends some within t n full =
    full-from measured.more depth room left text rest next whole end measured.bound measured.is ends some within t n full

-- the last line fits, or does not
pub measured-last : (depth room left : ℕ) (rest whole : List ℕ) (result : Option ℕ) → Measured depth room left rest whole → None ≡ line_break depth rest → LeavesRoom left (length (line_with_ending depth rest)) result → LeavesRoom room (length whole) result
measured-last depth room left rest whole None measured last leaves =
    let line = ap (λ ts. length (flat_map (line_with_ending depth) ts)) (texts-last measured.more depth rest last) ∙ lines_len depth rest [] in
    let is = measured.is in
    omega (arith, line, is, leaves)
measured-last depth room left rest whole (Some after) measured last leaves =
    let line = ap (λ ts. length (flat_map (line_with_ending depth) ts)) (texts-last measured.more depth rest last) ∙ lines_len depth rest [] in
    let is = measured.is in
    omega (arith, line, is, leaves)

-- ---- paragraphs

flow_len : (paras : List Para) (i : ℕ) (para : Para) → i < length paras → para ≡ get_or paras i para → length (flow (take (i + 1) paras)) ≡ length (flow (take i paras)) + length (flow_para para)
flow_len paras i para lt item = ap (λ (xs : List ℕ). length xs) (sym (flow-more paras i para (flow (take i paras)) (flow (take i paras) ++ flow_para para) lt item refl refl)) ∙ length-append (flow (take i paras)) (flow_para para)

front_len : (paras : List Para) (n : ℕ) → length (flow (take n paras)) ≤ length (flow paras)
unfolding flow
front_len paras n =
    let whole : length (flat_map flow_para paras) ≡ length (flat_map flow_para (take n paras)) + length (flat_map flow_para (drop n paras)) =
    ap (λ (ps : List Para). length (flat_map flow_para ps)) (sym (take-append-drop n paras)) ∙ ap (λ (xs : List ℕ). length xs) (flat_map-append flow_para (take n paras) (drop n paras)) ∙ length-append (flat_map flow_para (take n paras)) (flat_map flow_para (drop n paras)) in
    omega (arith, whole)

pub flow_fits : (paras : List Para) (i : ℕ) (para : Para) (room left after : ℕ) → i < length paras → para ≡ get_or paras i para → left + length (flow (take i paras)) ≡ room → after + length (flow_para para) ≡ left
    → after + length (flow (take (i + 1) paras)) ≡ room
flow_fits paras i para room left after lt item so fits = let more = flow_len paras i para lt item in omega (arith, more, so, fits)

pub flow_full : (paras : List Para) (i : ℕ) (para : Para) (room left : ℕ) → i < length paras → para ≡ get_or paras i para → left + length (flow (take i paras)) ≡ room → left < length (flow_para para) → room < length (flow paras)
flow_full paras i para room left lt item so full =
    let more = flow_len paras i para lt item in
    let front = front_len paras (i + 1) in
    omega (arith, more, front, so, full)

pub empty_fits : (room : ℕ) → room + length (flow []) ≡ room
empty_fits room = let none = ap (λ (xs : List ℕ). length xs) (sym flow-nil) in omega (arith, none)
