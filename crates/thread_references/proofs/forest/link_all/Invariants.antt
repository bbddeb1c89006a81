use Rattle.std.proofs.Common.{◌≡◌, ◌++◌, take}
use Rattle.thread_references.proofs.forest.link_all.Given as goal

abbrev pub invariant-loop-i : goal.invariant-loop-i
invariant-loop-i l = l.linked ≡ l.fn.linked ++ take l.i l.facts
