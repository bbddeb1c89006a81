use Rattle.std.proofs.Common.{◌-◌, length}
use Rattle.html_tokens.proofs.TagAttributes.{Passed}
use Rattle.html_tokens.proofs.tags.tag_end.Given as goal

abbrev pub invariant-loop-at : goal.invariant-loop-at
invariant-loop-at l = Passed l.rest l.at

abbrev pub decreases-loop-at : goal.decreases-loop-at
decreases-loop-at l = length l.rest - l.at
