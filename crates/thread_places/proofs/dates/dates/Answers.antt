use Rattle.std.proofs.Common.{arith, rules}
use Rattle.std.proofs.lemmas.Int.{to_z-of_z}
use Rattle.thread_places.specs.Dates.{dates_from}
use Rattle.thread_places.proofs.DateLemmas.{dates_more}
use Rattle.thread_places.proofs.dates.dates.Goals as goal

pub loop-place-init : goal.loop-place-init
unfolding dates_from
loop-place-init c = c.in_ok-dates.ensures.items

pub loop-place-preserved : goal.loop-place-preserved
loop-place-preserved c =
    let more = dates_more c.args.facts.now c.loop-place.place c.index-facts-place.result (omega arith) c.index-facts-place.is in
    let items = c.in_ok-push.ensures.items in
    let before = c.loop-place.invariant in
    search (rules, more, items, before, to_z-of_z)
