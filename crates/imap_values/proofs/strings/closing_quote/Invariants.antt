use Rattle.std.proofs.Common.{◌≤◌, ◌-◌, length}
use Rattle.imap_values.specs.Strings.{NoQuoteBefore}
use Rattle.imap_values.proofs.strings.closing_quote.Given as goal

abbrev pub invariant-loop-at : goal.invariant-loop-at
invariant-loop-at l = (l.at ≤ length l.bytes) × NoQuoteBefore l.bytes l.at

abbrev pub decreases-loop-at : goal.decreases-loop-at
decreases-loop-at l = length l.bytes - l.at
