use Rattle.std.proofs.Common.{◌≡◌, length}
use Rattle.wash_attributes.specs.FirstValues.{first_value}
use Rattle.wash_attributes.proofs.first.first_attribute.Given as goal

abbrev pub invariant-loop-attribute : goal.invariant-loop-attribute
invariant-loop-attribute l = first_value l.name l.reader ≡ first_value l.name l.tag.attributes

abbrev pub decreases-loop-attribute : goal.decreases-loop-attribute
decreases-loop-attribute l = length l.reader
