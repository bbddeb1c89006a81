-- What is written, piece by piece.
use Rattle.std.proofs.Common.{◌≡◌, ℕ, zero, suc, ◌+◌, ◌-◌, ◌<◌, ◌≤◌, Bool, cond, List, [], ◌∷◌, ◌++◌, length, get_or, take, drop, refl, sym, ap, subst, ◌∙◌, arith, append_assoc, Result, Ok, Err, Some, None}
use Rattle.std.specs.Prelude.{OnOk, replicate}
use Rattle.std.specs.Result.{is_ok}
use Rattle.std.specs.List.{flat_map}
use Rattle.std.specs.Str.{IsCharBoundary, IsUtf8}
use Rattle.std.proofs.lemmas.Str.{IsCharBoundary-after_ascii, IsUtf8-drop}
use Rattle.std.proofs.lemmas.List.{append-nil, replicate-append-replicate, take_more, flat_map_more}
use Rattle.flowed_text.specs.declared.Para.{Para}
use Rattle.flowed_text.specs.Flow.{line_with_ending, flow, flow_para, is_stuffed, line_break, texts, texts_within}

-- ---- a line

pub mark_more : (before so_far after : List ℕ) (n : ℕ) → so_far ≡ before ++ replicate n 62 → after ≡ so_far ++ 62 ∷ [] → after ≡ before ++ replicate (n + 1) 62
mark_more before so_far after n e new =
    new ∙ ap (λ t. t ++ 62 ∷ []) e ∙ append_assoc before (replicate n 62) (62 ∷ []) ∙ ap (λ t. before ++ t) (replicate-append-replicate n 1 62)

joined_line : (before mark_count space text ending : List ℕ) → (((before ++ mark_count) ++ space) ++ text) ++ ending ≡ before ++ (((mark_count ++ space) ++ text) ++ ending)
joined_line before mark_count space text ending = simp append_assoc

pub line_written : {E : Type 0} (r : Result (Unit {0}) E) (before marked spaced texted after text : List ℕ) (depth counter : ℕ) (space : Bool) → marked ≡ before ++ replicate counter 62 → counter ≡ depth
    → spaced ≡ marked ++ cond space (32 ∷ []) [] → space ≡ is_stuffed depth text → texted ≡ spaced ++ text → after ≡ cond (is_ok r) (texted ++ 13 ∷ 10 ∷ []) texted
    → OnOk r (after ≡ before ++ line_with_ending depth text)
line_written (Err e) before marked spaced texted after text depth counter space m n s b t a = tt
line_written (Ok done) before marked spaced texted after text depth counter space m n s b t a =
    a ∙ ap (λ x. x ++ 13 ∷ 10 ∷ []) (t ∙ ap (λ x. x ++ text) (s ∙ ap (λ x. x ++ cond space (32 ∷ []) []) (m ∙ ap (λ k. before ++ replicate k 62) n)
    ∙ ap (λ x. (before ++ replicate depth 62) ++ cond x (32 ∷ []) []) b))
    ∙ joined_line before (replicate depth 62) (cond (is_stuffed depth text) (32 ∷ []) []) text (13 ∷ 10 ∷ [])

-- ---- a paragraph

-- what is written of a paragraph that is read up to its rest
pub record Written (depth : ℕ) (before out rest whole : List ℕ) : Type 0 where
  pub more : ℕ
  pub bound : length rest ≤ more
  pub is : out ++ flat_map (line_with_ending depth) (texts_within more depth rest) ≡ before ++ whole

pub written-start : (depth : ℕ) (out text rest : List ℕ) → rest ≡ text → Written depth out out rest (flat_map (line_with_ending depth) (texts depth text))
written-start depth out text rest same = record { more = length rest; bound = omega arith; is = ap (λ t. out ++ flat_map (line_with_ending depth) (texts depth t)) same }

pub texts-more : (more depth : ℕ) (rest : List ℕ) (end : ℕ) → Some end ≡ line_break depth rest → texts_within (suc more) depth rest ≡ take end rest ∷ texts_within more depth (drop end rest)
texts-more more depth rest end ends = rw (sym ends, texts_within) refl

pub texts-last : (more depth : ℕ) (rest : List ℕ) → None ≡ line_break depth rest → texts_within more depth rest ≡ rest ∷ []
texts-last zero depth rest last = refl
texts-last (suc more) depth rest last = rw (sym last, texts_within) refl

more-from : (more depth : ℕ) (before out after text rest next whole : List ℕ) (end : ℕ) → length rest ≤ more → out ++ flat_map (line_with_ending depth) (texts_within more depth rest) ≡ before ++ whole
    → Some end ≡ line_break depth rest → 0 < end → end ≤ length rest → text ≡ take end rest → next ≡ drop end rest → length next + end ≡ length rest → after ≡ out ++ line_with_ending depth text
    → Written depth before after next whole
more-from zero depth before out after text rest next whole end bound is ends some within t n shorter a = absurd (omega arith)
more-from (suc more) depth before out after text rest next whole end bound is ends some within t n shorter a = record {
  more = more;
  bound = omega arith;
  is =
      ap (λ o. o ++ flat_map (line_with_ending depth) (texts_within more depth next)) a
      ∙ append_assoc out (line_with_ending depth text) (flat_map (line_with_ending depth) (texts_within more depth next))
      ∙ ap (λ x. out ++ (line_with_ending depth x ++ flat_map (line_with_ending depth) (texts_within more depth next))) t
      ∙ ap (λ x. out ++ (line_with_ending depth (take end rest) ++ flat_map (line_with_ending depth) (texts_within more depth x))) n
      ∙ ap (λ ts. out ++ flat_map (line_with_ending depth) ts) (sym (texts-more more depth rest end ends))
      ∙ is;
}

pub written-more : (depth : ℕ) (before out after text rest next whole : List ℕ) (end : ℕ) → Written depth before out rest whole → Some end ≡ line_break depth rest → 0 < end → end ≤ length rest
    → text ≡ take end rest → next ≡ drop end rest → length next + end ≡ length rest → after ≡ out ++ line_with_ending depth text → Written depth before after next whole
written-more depth before out after text rest next whole end written ends some within t n shorter a =
    more-from written.more depth before out after text rest next whole end written.bound written.is ends some within t n shorter a

pub written-last : {E : Type 0} (r : Result (Unit {0}) E) (depth : ℕ) (before out after rest whole : List ℕ) → Written depth before out rest whole → None ≡ line_break depth rest
    → OnOk r (after ≡ out ++ line_with_ending depth rest) → OnOk r (after ≡ before ++ whole)
written-last (Err e) depth before out after rest whole written last a = tt
written-last (Ok done) depth before out after rest whole written last a =
    a ∙ ap (λ t. out ++ t) (sym (append-nil (line_with_ending depth rest)))
    ∙ ap (λ ts. out ++ flat_map (line_with_ending depth) ts) (sym (texts-last written.more depth rest last)) ∙ written.is

-- ---- paragraphs

pub flow-nil : [] ≡ flow []
unfolding flow
flow-nil = refl

pub flow-more : (paras : List Para) (i : ℕ) (para : Para) (out after : List ℕ) → i < length paras → para ≡ get_or paras i para → out ≡ flow (take i paras) → after ≡ out ++ flow_para para
    → after ≡ flow (take (i + 1) paras)
unfolding flow
flow-more paras i para out after lt item o a =
    a ∙ ap (λ t. t ++ flow_para para) o ∙ flat_map_more flow_para [] (take i paras) para
    ∙ ap (λ p. flat_map flow_para (take i paras ++ p ∷ [])) item ∙ ap (flat_map flow_para) (sym (take_more paras i para lt))

-- ---- where a text may be cut

pub after_space : (text : List ℕ) (end : ℕ) → IsUtf8 text → end ≤ length text → (0 < end) × (get_or text (end - 1) 0 ≡ 32) → IsCharBoundary text end
after_space text end valid within space =
    let same : end - 1 + 1 ≡ end = omega (arith, space.0) in
    subst (IsCharBoundary text) same (IsCharBoundary-after_ascii text (end - 1) valid (omega (arith, space.0)) (omega (arith, space.1)))

pub after_cut : (text rest : List ℕ) (end : ℕ) → IsUtf8 text → end ≤ length text → (0 < end) × (get_or text (end - 1) 0 ≡ 32) → rest ≡ drop end text → IsUtf8 rest
after_cut text rest end valid within space r = subst IsUtf8 (sym r) (IsUtf8-drop text end valid (after_space text end valid within space))
