use Rattle.std.proofs.Common.{◌≡◌, ◌++◌, reverse, vec_len}
use Rattle.mime_tree.proofs.opening.put_back.Given as goal

abbrev pub invariant-loop-node : goal.invariant-loop-node
invariant-loop-node l = l.nodes.items ++ reverse l.waiting.items ≡ l.initial.nodes.items ++ reverse l.initial.waiting.items

abbrev pub decreases-loop-node : goal.decreases-loop-node
decreases-loop-node l = vec_len l.nodes
