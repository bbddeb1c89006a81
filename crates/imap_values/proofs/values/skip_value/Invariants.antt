use Rattle.std.proofs.Common.{◌≡◌, ◌≤◌, ◌-◌, length}
use Rattle.imap_values.specs.Values.{tokens_end_at}
use Rattle.imap_values.proofs.values.skip_value.Given as goal

abbrev pub invariant-loop : goal.invariant-loop
invariant-loop l = (l.depth ≤ l.counter) × (tokens_end_at (length l.bytes - l.counter) l.depth l.left ≡ tokens_end_at (length l.bytes) 0 l.bytes)
