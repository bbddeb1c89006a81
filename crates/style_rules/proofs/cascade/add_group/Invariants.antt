use Rattle.std.proofs.Common.{◌≡◌, ◌≤◌, length, drop, map}
use Rattle.style_rules.specs.Cascade.{entries_of}
use Rattle.style_rules.specs.Seen.{rule_seen}
use Rattle.style_rules.specs.Steps.{before_later, found, has_of, is_in_group}
use Rattle.style_rules.proofs.cascade.add_group.Given as goal

abbrev pub invariant-loop-at : goal.invariant-loop-at
invariant-loop-at l = record {
  found_are : found l.last.items ≡ before_later (entries_of (is_in_group l.group l.name (has_of l.classes)) (drop l.at (map rule_seen l.rules))) (found l.initial.last.items);
  within : l.at ≤ length l.rules;
}

abbrev pub decreases-loop-at : goal.decreases-loop-at
decreases-loop-at l = l.at
