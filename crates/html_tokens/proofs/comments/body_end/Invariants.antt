use Rattle.std.proofs.Common.{◌-◌, length, [], map}
use Rattle.html_syntax.specs.States.{replace_null}
use Rattle.html_references.specs.Input.{input}
use Rattle.html_tokens.proofs.Marks.{Kept}
use Rattle.html_tokens.proofs.CommentRuns.{body}
use Rattle.html_tokens.proofs.comments.body_end.Given as goal

abbrev pub invariant-loop-at : goal.invariant-loop-at
invariant-loop-at l = Kept body 45 (map replace_null) (body [] 0 (input l.rest)) l.rest l.at

abbrev pub decreases-loop-at : goal.decreases-loop-at
decreases-loop-at l = length l.rest - l.at
