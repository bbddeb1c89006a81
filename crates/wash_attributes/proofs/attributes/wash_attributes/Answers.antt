use Rattle.std.proofs.Common.{chars, ap, ◌∙◌}
use Rattle.wash_attributes.specs.Attributes.{protect_link, with_style, washed_attributes}
use Rattle.wash_attributes.proofs.attributes.wash_attributes.Goals as goal

pub returns : goal.returns
unfolding washed_attributes
returns c = record { equals = c.in_ok-protect.ensures ∙ ap protect_link (c.in_ok-add_style.ensures ∙ ap (with_style (chars c.args.declared.now)) c.in_ok-attributes.ensures) }
