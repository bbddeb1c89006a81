use Rattle.std.proofs.Common.{◌≡◌, ◌≤◌, ◌+◌, ◌-◌, length, drop}
use Rattle.style_rules.specs.Blocks.{comment_rest}
use Rattle.style_rules.proofs.comments.comment_rest.Given as goal

abbrev pub invariant-loop-size : goal.invariant-loop-size
invariant-loop-size l = record {
  equals : comment_rest l.text ≡ l.size + comment_rest (drop l.size l.text);
  within : l.size ≤ length l.text;
}

abbrev pub decreases-loop-size : goal.decreases-loop-size
decreases-loop-size l = length l.text - l.size
