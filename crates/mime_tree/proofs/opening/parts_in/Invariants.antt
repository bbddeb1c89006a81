use Rattle.std.proofs.Common.{◌≡◌, ◌-◌, reverse}
use Rattle.std.specs.Prelude.{All}
use Rattle.mime_tree.specs.Opening.{IsSound, IsPlaced, parts_of, tree_after_steps}
use Rattle.mime_tree.proofs.opening.parts_in.Given as goal

abbrev pub invariant-loop-step : goal.invariant-loop-step
invariant-loop-step l = record {
  all : (tree_after_steps l.bytes (2001 - l.step) l.found.items (reverse l.waiting.items)).parts ≡ parts_of l.bytes;
  sound : All (IsSound l.bytes) (reverse l.waiting.items);
  placed : All (IsPlaced l.bytes) l.found.items;
}
