use Rattle.std.proofs.Common.{◌≡◌, map, take}
use Rattle.thread_places.proofs.dates.date_order.Given as goal

abbrev pub invariant-loop-date : goal.invariant-loop-date
invariant-loop-date l = l.order.items ≡ map (λ d. d.1) (take l.date-index l.date-items)
