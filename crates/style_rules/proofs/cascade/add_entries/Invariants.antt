use Rattle.std.proofs.Common.{◌≡◌, ◌≤◌, length, drop}
use Rattle.style_rules.specs.Seen.{entries_seen}
use Rattle.style_rules.specs.Steps.{before_later, found}
use Rattle.style_rules.proofs.cascade.add_entries.Given as goal

abbrev pub invariant-loop-at : goal.invariant-loop-at
invariant-loop-at l = record {
  found_are : found l.last.items ≡ before_later (drop l.at (entries_seen l.entries)) (found l.initial.last.items);
  within : l.at ≤ length l.entries;
}

abbrev pub decreases-loop-at : goal.decreases-loop-at
decreases-loop-at l = l.at
