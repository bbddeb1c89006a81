use Rattle.std.proofs.Common.{◌≡◌, length, map}
use Rattle.wash_attributes.specs.Listed.{attributes_in, row_seen}
use Rattle.wash_attributes.proofs.names.attributes_in.Given as goal

abbrev pub invariant-loop-rest : goal.invariant-loop-rest
invariant-loop-rest l = attributes_in (map row_seen l.rest) l.element ≡ attributes_in (map row_seen l.rows) l.element

abbrev pub decreases-loop-rest : goal.decreases-loop-rest
decreases-loop-rest l = length l.rest
