use Rattle.std.proofs.Common.{length, drop, ◌-◌, ◌≡◌, ◌≤◌}
use Rattle.mime_tree.specs.Body.{delimiters}
use Rattle.mime_tree.proofs.body.next_delimiter.Given as goal

abbrev pub invariant-loop-line : goal.invariant-loop-line
invariant-loop-line l = record {
  within : l.line.at ≤ length l.text;
  ordered : l.line.line_break ≤ l.line.at;
  on : l.initial.line.at ≤ l.line.at;
  same : delimiters l.boundary l.line.line_break l.line.at (drop l.line.at l.text) ≡ delimiters l.boundary l.initial.line.line_break l.initial.line.at (drop l.initial.line.at l.text);
}

abbrev pub decreases-loop-line : goal.decreases-loop-line
decreases-loop-line l = length l.text - l.line.at
