use Rattle.std.proofs.Common.{subst, ◌∙◌}
use Rattle.std.proofs.lemmas.List.{take_all}
use Rattle.html_tokens.specs.Kept.{HoldsNames}
use Rattle.html_tokens.proofs.HeldNames.{held_next}
use Rattle.html_tokens.proofs.attribute_list.AttributeList.of.Goals as goal

pub loop-name-preserved : goal.loop-name-preserved
loop-name-preserved c =
    held_next c.loop-name.names c.insert.new.self c.deref-name-items.result.now c.loop-name.name-index c.loop-name-item.result c.as_str.result.now c.loop-name-test.true c.loop-name-item.is c.as_str.ensures.value c.in_ok-insert.ensures.names c.loop-name.invariant

pub invariant_of-result : goal.invariant_of-result
invariant_of-result c =
    subst (HoldsNames c.loop-name.names) (take_all c.loop-name.name-index c.deref-name-items.result.now c.loop-name-test.false ∙ c.deref-name-items.ensures.value) c.loop-name.invariant
