use Rattle.std.proofs.Common.{◌≡◌, ◌≤◌, ◌-◌, [], length}
use Rattle.mime_tree.specs.Best.{leaf_to_show}
use Rattle.mime_tree.proofs.choice.leaf_to_show.Given as goal

abbrev pub invariant-loop-step : goal.invariant-loop-step
invariant-loop-step l = record {
  short : length l.around ≤ l._step;
  leaf : leaf_to_show (40 - l._step) l.tree l.around ≡ leaf_to_show 40 l.tree [];
}
