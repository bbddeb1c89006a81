use Rattle.std.proofs.Common.{sym, ◌∙◌}
use Rattle.html_syntax.proofs.Pairs.{name_at-map}
use Rattle.html_syntax.proofs.attributes.Attributes.name.Goals as goal

pub returns : goal.returns
returns c = rw (← c.self.view_is) (c.as_str.ensures.value ∙ sym (name_at-map c.self.inside.pairs.items c.args.index c.index.result.now (rw c.self.view_is c.requires) c.index.ensures))
