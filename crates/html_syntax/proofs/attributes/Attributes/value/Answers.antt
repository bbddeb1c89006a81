use Rattle.std.proofs.Common.{sym, ◌∙◌, chars, ap}
use Rattle.html_syntax.proofs.Pairs.{value_at-map}
use Rattle.html_syntax.proofs.attributes.Attributes.value.Goals as goal

pub returns : goal.returns
returns c = rw (← c.self.view_is) (ap chars c.as_str.ensures.value ∙ sym (value_at-map c.self.inside.pairs.items c.args.index c.index.result.now (rw c.self.view_is c.requires) c.index.ensures))
