use Rattle.std.proofs.Common.{◌≡◌, ◌++◌, [], length}
use Rattle.html_rules.specs.Tables.{common_attributes}
use Rattle.wash_attributes.specs.Washing.{given_in}
use Rattle.wash_attributes.specs.Listed.{texts_seen}
use Rattle.wash_attributes.specs.Keeping.{kept_with}
use Rattle.wash_attributes.proofs.attributes.read_attributes.Given as goal

abbrev pub invariant-loop-attribute : goal.invariant-loop-attribute
invariant-loop-attribute l =
    kept_with (given_in l.with) (common_attributes ++ texts_seen l.own) l.kept l.reader
    ≡ kept_with (given_in l.with) (common_attributes ++ texts_seen l.own) (record { attributes = []; names = [] }) l.tag.attributes

abbrev pub decreases-loop-attribute : goal.decreases-loop-attribute
decreases-loop-attribute l = length l.reader
