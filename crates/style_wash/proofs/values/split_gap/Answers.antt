use Rattle.std.proofs.Common.{◌≡◌, get_or, true, arith, sym, ◌∙◌}
use Rattle.std.proofs.lemmas.List.{take_rest}
use Rattle.style_wash.specs.Characters.{is_separator}
use Rattle.style_wash.proofs.Cuts.{gap_begins, gap_goes_on, gap_at_end, gap_at_text}
use Rattle.style_wash.proofs.values.split_gap.Goals as goal
use Rattle.style_wash.proofs.values.split_gap.Goals.{then-loop-end-test+else-is_separator, else-loop-end-test}

pub loop-end-init : goal.loop-end-init
loop-end-init c = record {
  cut = gap_begins c.args.text.now c.requires.some c.requires.gap;
  some = omega arith;
  within = omega arith;
}

pub loop-end-preserved : goal.loop-end-preserved
loop-end-preserved c =
    let text = c.args.text.now in
    let end = c.loop-end.end in
    let more : is_separator (get_or text end 0) ≡ true = sym c.is_separator.ensures ∙ c.if-is_separator.true in
    record {
      cut = sym (gap_goes_on text end (omega arith) more) ∙ c.loop-end.invariant.cut;
      some = omega arith;
      within = omega arith;
    }

pub returns : goal.returns
returns c =
    let text = c.args.text.now in
    let end = c.loop-end.end in
    rw (take_rest text end) (elim c.loop-end-test.branch [
      | then-loop-end-test+else-is_separator w ↦
          gap_at_text text end c.loop-end.invariant.some (omega arith) (sym w.is_separator.ensures ∙ w.if-is_separator.false) c.loop-end.invariant.cut
      | else-loop-end-test w ↦ gap_at_end text end c.loop-end.invariant.some (omega arith) (omega arith) c.loop-end.invariant.cut
    ])
