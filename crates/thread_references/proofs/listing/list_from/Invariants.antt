use Rattle.std.proofs.Common.{◌≡◌, ◌+◌, ◌-◌, ◌++◌, length}
use Rattle.std.specs.Prelude.{reverse}
use Rattle.thread_references.specs.Listing.{list_from}
use Rattle.thread_references.proofs.listing.list_from.Given as goal

abbrev pub invariant-loop-step : goal.invariant-loop-step
invariant-loop-step l =
    l.rows.items ++ list_from l.uids l.children ((length l.uids + length l.uids) - l.step) (reverse l.waiting.items) ≡ list_from l.uids l.children (length l.uids + length l.uids) (reverse l.fn.waiting.items)
