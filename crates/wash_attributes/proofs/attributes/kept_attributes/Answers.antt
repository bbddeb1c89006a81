use Rattle.std.proofs.Common.{◌++◌, ap, ◌∙◌}
use Rattle.html_rules.specs.Tables.{common_attributes}
use Rattle.wash_attributes.specs.Washing.{given_in}
use Rattle.wash_attributes.specs.Listed.{texts_seen}
use Rattle.wash_attributes.specs.Keeping.{KeptValue}
use Rattle.wash_attributes.proofs.KeepingLemmas.{all_kept, no_attributes}
use Rattle.wash_attributes.proofs.attributes.kept_attributes.Goals as goal

pub returns : goal.returns
returns c =
    let listed = common_attributes ++ texts_seen c.own_attributes.result.now in
    c.from_pairs.ensures ∙ ap (λ (k : KeptValue). k.attributes) c.pairs.view_is ∙ c.in_ok-pairs.ensures ∙ all_kept (given_in c.args.with.now) listed c.args.element.now c.args.tag.now.attributes c.own_attributes.ensures.listed

pub returns-then-not-has_attributes : goal.returns-then-not-has_attributes
returns-then-not-has_attributes c = c.new.ensures ∙ no_attributes (given_in c.args.with.now) c.args.element.now c.args.tag.now.attributes (c.has_attributes.ensures c.if-not-has_attributes.true)
