use Rattle.std.proofs.Common.{◌≡◌, ◌++◌, ◌+◌, drop}
use Rattle.std.specs.Prelude.{All}
use Rattle.mime_tree.specs.Opening.{children_from, IsSound}
use Rattle.mime_tree.proofs.opening.children.Given as goal

abbrev pub invariant-loop-i : goal.invariant-loop-i
invariant-loop-i l = record {
  is : l.nodes.items ++ children_from l.bytes l.node (l.i + 1) (drop l.i l.ranges) ≡ children_from l.bytes l.node 1 l.ranges;
  sound : All (IsSound l.bytes) l.nodes.items;
}
