use Rattle.std.proofs.Common.{◌≡◌, take, map}
use Rattle.thread_places.specs.Dates.{in_order}
use Rattle.thread_references.proofs.forest.uids.Given as goal

abbrev pub invariant-loop-place : goal.invariant-loop-place
invariant-loop-place l = l.uids.items ≡ in_order 0 (map (λ f. f.uid) l.facts) (take l.place-index l.order)
