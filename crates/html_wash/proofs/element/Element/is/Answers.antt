use Rattle.html_wash.proofs.Elements.{same_tags}
use Rattle.html_wash.proofs.element.Element.is.Goals as goal

pub returns : goal.returns
returns c = same_tags c.args.self c.args.other
