use Rattle.std.proofs.Common.{sym, ap, ◌∙◌}
use Rattle.std.proofs.lemmas.Str.{chars-nil}
use Rattle.wash_attributes.specs.FirstValues.{text_or_empty, attribute_text}
use Rattle.wash_attributes.proofs.first.attribute_text.Goals as goal

pub returns-in-None : goal.returns-in-None
unfolding attribute_text
returns-in-None c = chars-nil ∙ ap text_or_empty (sym c.in-None.ensures)
