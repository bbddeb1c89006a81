use Rattle.std.proofs.Common.{take}
use Rattle.html_tokens.specs.Kept.{HoldsNames}
use Rattle.html_tokens.proofs.attribute_list.AttributeList.of.Given as goal

abbrev pub invariant-loop-name : goal.invariant-loop-name
invariant-loop-name l = HoldsNames l.names (take l.name-index l.name-items)
