use Rattle.std.proofs.Common.{◌<◌, length, map, subst, ap, ◌∙◌, arith}
use Rattle.std.specs.List.Sorted.{IsPermutation}
use Rattle.std.proofs.lemmas.List.{take_all}
use Rattle.std.proofs.lemmas.List.Elements.{All-same}
use Rattle.thread_places.specs.Dates.{dates_from, date_order}
use Rattle.thread_places.proofs.DateLemmas.{sorted_by_date, order_below}
use Rattle.thread_places.proofs.dates.date_order.Goals as goal

pub returns-clause-order : goal.returns-clause-order
unfolding date_order
returns-clause-order c =
    let permutation : IsPermutation (dates_from 0 c.args.facts.now) c.sort.new.self.items = subst (λ l. IsPermutation l c.sort.new.self.items) c.in_ok-dates.ensures c.in_ok-sort.ensures.permutation in
    c.loop-date.invariant ∙ ap (map (λ d. d.1)) (take_all c.loop-date.date-index c.deref-date-items.result.now (omega arith) ∙ c.deref-date-items.ensures.value ∙ sorted_by_date (dates_from 0 c.args.facts.now) c.sort.new.self.items permutation c.in_ok-sort.ensures.sorted)

pub returns-clause-inside : goal.returns-clause-inside
returns-clause-inside c =
    let permutation : IsPermutation (dates_from 0 c.args.facts.now) c.sort.new.self.items = subst (λ l. IsPermutation l c.sort.new.self.items) c.in_ok-dates.ensures c.in_ok-sort.ensures.permutation in
    All-same (λ place. place < length c.args.facts.now) c.loop-date.order.items (map (λ d. d.1) c.sort.new.self.items)
    (c.loop-date.invariant ∙ ap (map (λ d. d.1)) (take_all c.loop-date.date-index c.deref-date-items.result.now (omega arith) ∙ c.deref-date-items.ensures.value))
    (order_below c.args.facts.now c.sort.new.self.items permutation)
