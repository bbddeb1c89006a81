use Rattle.std.proofs.Common.{◌≡◌, ◌+◌, take, drop, get_or, false, arith, sym, ap, ◌∙◌, rules}
use Rattle.std.proofs.lemmas.List.{take_rest}
use Rattle.style_wash.specs.Seen.{nesting_seen}
use Rattle.style_wash.specs.Values.{Nesting, parts, is_item_end}
use Rattle.style_wash.proofs.Cuts.{text_onto, text_goes_on, text_at_end, text_at_gap}
use Rattle.style_wash.proofs.values.split_text.Goals as goal
use Rattle.style_wash.proofs.values.split_text.Goals.{then-loop-end-test+else-not-is_item_end, else-loop-end-test}

pub loop-end-preserved : goal.loop-end-preserved
loop-end-preserved c =
    let value = c.args.value.now in
    let end = c.loop-end.end in
    let place = nesting_seen c.loop-end.place in
    let within : is_item_end place (get_or value end 0) ≡ false = search rules in
    record {
      cut = ap (λ (p : Nesting). text_onto (take (end + 1) value) (parts p (drop (end + 1) value))) c.nesting_after-place.ensures
          ∙ sym (text_goes_on place value end (omega arith) within) ∙ c.loop-end.invariant.cut;
      within = omega arith;
    }

pub returns : goal.returns
returns c =
    let value = c.args.value.now in
    let end = c.loop-end.end in
    let place = nesting_seen c.loop-end.place in
    rw (take_rest value end) (elim c.loop-end-test.branch [
      | then-loop-end-test+else-not-is_item_end w ↦ text_at_gap place value end (omega arith) (search rules) c.loop-end.invariant.cut
      | else-loop-end-test w ↦ text_at_end place value end (omega arith) (omega arith) c.loop-end.invariant.cut
    ])
