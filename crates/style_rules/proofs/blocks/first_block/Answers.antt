use Rattle.std.proofs.Common.{◌≡◌, ◌<◌, ◌+◌, length, take, drop, get_or, arith, sym, ap, ◌∙◌, List, ℕ, Some}
use Rattle.std.proofs.lemmas.List.{length-drop}
use Rattle.std.proofs.lemmas.Str.{IsCharBoundary-after_ascii}
use Rattle.std.specs.List.{position_or_len}
use Rattle.style_rules.specs.Blocks.{body_len, is_left_brace}
use Rattle.style_rules.proofs.TextSteps.{slice_front, no_left_brace, no_right_brace, whole_block}
use Rattle.style_rules.proofs.blocks.first_block.Goals as goal

pub returns-then-start-text : goal.returns-then-start-text
returns-then-start-text c = no_left_brace c.args.text.now c.find_byte-start.result (c.find_byte-start.ensures.equals ∙ ap (position_or_len is_left_brace) c.as_bytes.ensures.value) c.if-start-text.true

pub range_from-after-requires : goal.range_from-after-requires
range_from-after-requires c = λ _.
    let text = c.args.text.now in
    let start = c.find_byte-start.result in
    let lt : start < length text = omega (arith, c.find_byte-start.ensures.within, c.as_bytes.ensures.len, c.if-start-text.false) in
    let brace : get_or text start 0 ≡ 123 = ap (λ (t : List ℕ). get_or t start 0) (sym c.as_bytes.ensures.value) ∙ c.find_byte-start.ensures.byte (omega (arith, lt, c.as_bytes.ensures.len)) in
    IsCharBoundary-after_ascii text start c.utf8.text lt (omega (arith, brace))

pub range_from-requires : goal.range_from-requires
range_from-requires c = λ _.
    let after = c.range_from-after.result.now in
    let size = c.in-Some.size in
    let lt : size < length after = omega (arith, c.in-Some.ensures.within, c.as_bytes-2.ensures.len) in
    let brace : get_or after size 0 ≡ 125 = ap (λ (t : List ℕ). get_or t size 0) (sym c.as_bytes-2.ensures.value) ∙ c.in-Some.ensures.brace in
    IsCharBoundary-after_ascii after size c.range_from-after.utf8 lt (omega (arith, brace))

pub returns-in-None : goal.returns-in-None
returns-in-None c =
    let text = c.args.text.now in
    let start = c.find_byte-start.result in
    no_right_brace text start (c.find_byte-start.ensures.equals ∙ ap (position_or_len is_left_brace) c.as_bytes.ensures.value)
    (ap (body_len 0) (sym (c.as_bytes-2.ensures.value ∙ c.range_from-after.ensures.value)) ∙ sym c.in-None.ensures.equals)

pub returns-in-Some : goal.returns-in-Some
returns-in-Some c =
    let text = c.args.text.now in
    let start = c.find_byte-start.result in
    let size = c.in-Some.size in
    let body : body_len 0 (drop (start + 1) text) ≡ Some size = ap (body_len 0) (sym (c.as_bytes-2.ensures.value ∙ c.range_from-after.ensures.value)) ∙ sym c.in-Some.ensures.equals in
    let is = whole_block text start size (c.find_byte-start.ensures.equals ∙ ap (position_or_len is_left_brace) c.as_bytes.ensures.value) body in
    let after : c.range_from-after.result.now ≡ drop (start + 1) text = c.range_from-after.ensures.value in
    let prelude : c.range.result.now ≡ take start text = c.range.ensures.value ∙ slice_front text start in
    let inside : c.range-in-Some.result.now ≡ take size (drop (start + 1) text) = c.range-in-Some.ensures.value ∙ slice_front c.range_from-after.result.now size ∙ ap (take size) after in
    let rest : c.range_from.result.now ≡ drop (size + 1) (drop (start + 1) text) = c.range_from.ensures.value ∙ ap (drop (size + 1)) after in
    (rw (prelude, inside, rest) is, omega (arith, ap length rest, length-drop (start + 1) text, length-drop (size + 1) (drop (start + 1) text), c.find_byte-start.ensures.within, c.as_bytes.ensures.len, c.if-start-text.false), c.range_from.utf8)
