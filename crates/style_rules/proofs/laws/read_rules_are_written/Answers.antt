use Rattle.style_rules.proofs.Written.{read_written}
use Rattle.style_rules.proofs.laws.read_rules_are_written.Goals as goal

pub returns : goal.returns
returns c = read_written
