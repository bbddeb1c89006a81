use Rattle.std.proofs.Common.{◌≡◌, ◌<◌, ◌≤◌, ◌+◌, ◌-◌, ◌++◌, length, take, drop, arith, sym, ap, subst, ◌∙◌, List, ℕ}
use Rattle.std.proofs.lemmas.List.{take_rest, length-drop}
use Rattle.std.proofs.lemmas.Str.{IsCharBoundary-from_rest, IsUtf8-drop}
use Rattle.style_rules.specs.Blocks.{spaced, comment_len}
use Rattle.style_rules.proofs.TextSteps.{slice_front, spaced_ends, spaced_comment}
use Rattle.style_rules.proofs.Boundaries.{comment_boundary, start_boundary}
use Rattle.style_rules.proofs.comments.split_comment.Goals as goal

pub returns-then-at-text : goal.returns-then-at-text
returns-then-at-text c =
    let at = c.comment_start-at.result in
    spaced_ends c.args.text.now at c.if-at-text.true
    (subst (λ (b : List ℕ). spaced b ≡ take at b ++ spaced (drop at b)) c.as_bytes.ensures.value c.comment_start-at.ensures.spaced)

pub range-requires-clause-end_boundary : goal.range-requires-clause-end_boundary
range-requires-clause-end_boundary c =
    let text = c.args.text.now in
    let at = c.comment_start-at.result in
    let lt : at < length text = omega (arith, c.comment_start-at.ensures.within, c.as_bytes.ensures.len, c.if-at-text.false) in
    let some : 0 < comment_len (drop at text) = subst (λ (b : List ℕ). 0 < comment_len (drop at b)) c.as_bytes.ensures.value (c.comment_start-at.ensures.comment (omega (arith, lt, c.as_bytes.ensures.len))) in
    start_boundary text at lt some

pub range_from-requires : goal.range_from-requires
range_from-requires c = λ _.
    let text = c.args.text.now in
    let at = c.comment_start-at.result in
    let lt : at < length text = omega (arith, c.comment_start-at.ensures.within, c.as_bytes.ensures.len, c.if-at-text.false) in
    let some : 0 < comment_len (drop at text) = subst (λ (b : List ℕ). 0 < comment_len (drop at b)) c.as_bytes.ensures.value (c.comment_start-at.ensures.comment (omega (arith, lt, c.as_bytes.ensures.len))) in
    let rest : take (length c.as_bytes-2.result.now - at) (drop at c.as_bytes-2.result.now) ≡ drop at text = ap (λ (b : List ℕ). take (length b - at) (drop at b)) c.as_bytes-2.ensures.value ∙ take_rest text at in
    let size : comment_len (drop at text) ≡ c.comment_len-size.result = ap comment_len (sym rest) ∙ sym c.comment_len-size.ensures.equals in
    let within : c.comment_len-size.result ≤ length (drop at text) = subst (λ (t : List ℕ). c.comment_len-size.result ≤ length t) rest c.comment_len-size.ensures.within in
    IsCharBoundary-from_rest text at c.comment_len-size.result (omega arith)
    (comment_boundary (drop at text) c.comment_len-size.result size (subst (λ (n : ℕ). 0 < n) size some) within (IsUtf8-drop text at c.utf8.text (start_boundary text at lt some)))

pub returns : goal.returns
returns c =
    let text = c.args.text.now in
    let at = c.comment_start-at.result in
    let lt : at < length text = omega (arith, c.comment_start-at.ensures.within, c.as_bytes.ensures.len, c.if-at-text.false) in
    let some : 0 < comment_len (drop at text) = subst (λ (b : List ℕ). 0 < comment_len (drop at b)) c.as_bytes.ensures.value (c.comment_start-at.ensures.comment (omega (arith, lt, c.as_bytes.ensures.len))) in
    let rest : take (length c.as_bytes-2.result.now - at) (drop at c.as_bytes-2.result.now) ≡ drop at text = ap (λ (b : List ℕ). take (length b - at) (drop at b)) c.as_bytes-2.ensures.value ∙ take_rest text at in
    let size : comment_len (drop at text) ≡ c.comment_len-size.result = ap comment_len (sym rest) ∙ sym c.comment_len-size.ensures.equals in
    let is = subst (λ (b : List ℕ). spaced b ≡ take at b ++ spaced (drop at b)) c.as_bytes.ensures.value c.comment_start-at.ensures.spaced in
    let positive : 0 < c.comment_len-size.result = subst (λ (n : ℕ). 0 < n) size some in
    let front : c.range.result.now ≡ take at text = c.range.ensures.value ∙ slice_front text at in
    let after : c.range_from.result.now ≡ drop (at + c.comment_len-size.result) text = c.range_from.ensures.value in (
      rw (front, after) (spaced_comment text at c.comment_len-size.result lt size positive is),
      omega (arith, ap length after, length-drop (at + c.comment_len-size.result) text, positive, lt),
      c.range_from.utf8,
    )
