use Rattle.std.proofs.Common.{◌≡◌, ◌-◌, length, drop, IsCharBoundary}
use Rattle.html_syntax.specs.States.State.{Data}
use Rattle.html_syntax.specs.Tokenizer.{read}
use Rattle.html_references.specs.Input.{input}
use Rattle.html_tokens.proofs.markup.empty_tags_len.Given as goal

abbrev pub invariant-loop-at : goal.invariant-loop-at
invariant-loop-at l = IsCharBoundary l.rest l.at × (read Data 0 (input l.rest) ≡ read Data 0 (input (drop l.at l.rest)))

abbrev pub decreases-loop-at : goal.decreases-loop-at
decreases-loop-at l = length l.rest - l.at
