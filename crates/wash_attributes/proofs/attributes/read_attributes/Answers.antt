use Rattle.std.proofs.Common.{◌++◌, sym, ap, ◌∙◌}
use Rattle.html_rules.specs.Tables.{common_attributes}
use Rattle.wash_attributes.specs.Washing.{given_in}
use Rattle.wash_attributes.specs.Listed.{texts_seen}
use Rattle.wash_attributes.specs.Keeping.{kept_with}
use Rattle.wash_attributes.proofs.KeepingLemmas.{none_left}
use Rattle.wash_attributes.proofs.attributes.read_attributes.Goals as goal

pub returns : goal.returns
returns c =
    let with = c.args.with.now in
    let given = given_in with in
    let listed = common_attributes ++ texts_seen c.args.own.now in
    sym (none_left given listed c.loop-attribute.kept) ∙ ap (kept_with given listed c.loop-attribute.kept) (sym c.in_default.ensures.0) ∙ c.loop-attribute.invariant
