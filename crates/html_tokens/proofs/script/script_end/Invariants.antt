use Rattle.std.proofs.Common.{◌-◌, length, drop, IsCharBoundary}
use Rattle.html_tokens.specs.Scripts.{ReadsPassage, BeginsWithMark}
use Rattle.html_tokens.specs.declared.script.Phase.TheVariants.{Plain}
use Rattle.html_tokens.proofs.script.script_end.Given as goal

abbrev pub invariant-loop-at : goal.invariant-loop-at
invariant-loop-at l = IsCharBoundary l.rest l.at × BeginsWithMark (drop l.at l.rest) × ReadsPassage Plain l.rest l.at l.phase

abbrev pub decreases-loop-at : goal.decreases-loop-at
decreases-loop-at l = length l.rest - l.at
