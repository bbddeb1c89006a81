use Rattle.std.proofs.Common.{◌≡◌, length, map}
use Rattle.html_rules.specs.Tables.{kind_among}
use Rattle.wash_attributes.specs.Listed.{kind_row_seen}
use Rattle.wash_attributes.proofs.names.kind_in.Given as goal

abbrev pub invariant-loop-rest : goal.invariant-loop-rest
invariant-loop-rest l = kind_among (map kind_row_seen l.rest) l.name ≡ kind_among (map kind_row_seen l.rows) l.name

abbrev pub decreases-loop-rest : goal.decreases-loop-rest
decreases-loop-rest l = length l.rest
