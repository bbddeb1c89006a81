use Rattle.html_syntax.proofs.Looks.{three_looks}
use Rattle.html_syntax.proofs.laws.three_looks_suffice.Goals as goal

pub returns : goal.returns
returns c = three_looks
