use Rattle.std.proofs.Common.{◌≡◌, take}
use Rattle.thread_places.proofs.facts.copy_all.Given as goal

abbrev pub invariant-loop-one : goal.invariant-loop-one
invariant-loop-one l = l.copied.items ≡ take l.one-index l.facts
