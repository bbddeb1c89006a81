use Rattle.html_tokens.proofs.StepRuns.{runs_are_separate}
use Rattle.html_tokens.proofs.laws.runs_are_separate.Goals as goal

pub returns : goal.returns
returns c = runs_are_separate
