use Rattle.std.proofs.Common.{◌≡◌, take}
use Rattle.thread_places.specs.Dates.{dates_from}
use Rattle.thread_places.proofs.dates.dates.Given as goal

abbrev pub invariant-loop-place : goal.invariant-loop-place
invariant-loop-place l = l.dates.items ≡ dates_from 0 (take l.place l.facts)
