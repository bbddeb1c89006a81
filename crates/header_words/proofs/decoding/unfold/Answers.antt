use Rattle.std.proofs.Common.{◌∙◌, ap}
use Rattle.header_words.specs.Fields.{value_of}
use Rattle.header_words.specs.Value.{unfolded_with}
use Rattle.header_words.proofs.Unfolding.{unfold_first, unfold_next}
use Rattle.header_words.proofs.decoding.unfold.Goals as goal

pub loop-rest-init : goal.loop-rest-init
loop-rest-init c = unfold_first c.args.raw.now c.in_ok-value.value.items c.first_line-size.result.1 (c.in_ok-value.ensures.items ∙ c.after_colon.ensures ∙ ap value_of c.first_line-size.ensures.text) c.first_line-size.ensures.size

pub loop-rest-preserved : goal.loop-rest-preserved
loop-rest-preserved c = unfold_next c.loop-rest.rest.now c.loop-rest.value.items c.unfold_line.new.value.items _ c.first_line-size-in-loop-rest.result.1 c.loop-rest-test.ensures c.loop-rest.invariant (c.in_ok-unfold_line.ensures ∙ ap (unfolded_with c.loop-rest.value.items) c.first_line-size-in-loop-rest.ensures.text) c.first_line-size-in-loop-rest.ensures.size
