use Rattle.std.proofs.Common.{◌≡◌, ◌-◌, length}
use Rattle.imap_values.specs.Sets.{ranges_at}
use Rattle.imap_values.proofs.SetLemmas.{prepend_ranges}
use Rattle.imap_values.proofs.sets.ranges.Given as goal

abbrev pub invariant-loop : goal.invariant-loop
invariant-loop l = prepend_ranges l.ranges.items (ranges_at (length l.bytes - l.counter) l.left) ≡ ranges_at (length l.bytes) l.bytes
