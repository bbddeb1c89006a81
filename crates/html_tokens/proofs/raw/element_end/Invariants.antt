use Rattle.std.proofs.Common.{◌-◌, length, []}
use Rattle.html_syntax.specs.States.State.{Raw}
use Rattle.html_references.specs.Input.{input, read_as}
use Rattle.html_tokens.specs.Scanned.{element_name, raw_text_kind}
use Rattle.html_tokens.specs.Contents.{content_read_as}
use Rattle.html_tokens.proofs.Runs.{emits}
use Rattle.html_tokens.proofs.Marks.{Kept}
use Rattle.html_tokens.proofs.raw.element_end.Given as goal

abbrev pub invariant-loop-at : goal.invariant-loop-at
invariant-loop-at l = Kept (emits (Raw (raw_text_kind l.content) (element_name l.content))) 60 (read_as (content_read_as l.content)) (emits (Raw (raw_text_kind l.content) (element_name l.content)) [] 0 (input l.rest)) l.rest l.at

abbrev pub decreases-loop-at : goal.decreases-loop-at
decreases-loop-at l = length l.rest - l.at
