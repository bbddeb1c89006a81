use Rattle.std.proofs.Common.{◌-◌, length, []}
use Rattle.html_syntax.specs.States.State.{Data}
use Rattle.html_references.specs.Input.{input}
use Rattle.html_tokens.proofs.Runs.{emits}
use Rattle.html_tokens.proofs.Marks.{Kept}
use Rattle.html_tokens.proofs.TextRuns.{text_of}
use Rattle.html_tokens.proofs.text.text_end.Given as goal

abbrev pub invariant-loop-at : goal.invariant-loop-at
invariant-loop-at l = Kept (emits Data) 60 text_of (emits Data [] 0 (input l.rest)) l.rest l.at

abbrev pub decreases-loop-at : goal.decreases-loop-at
decreases-loop-at l = length l.rest - l.at
