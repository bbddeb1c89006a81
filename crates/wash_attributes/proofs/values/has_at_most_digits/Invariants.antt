use Rattle.std.proofs.Common.{◌≡◌, ◌-◌}
use Rattle.html_rules.specs.Values.{has_at_most_digits}
use Rattle.wash_attributes.proofs.values.has_at_most_digits.Given as goal

abbrev pub invariant-loop-i : goal.invariant-loop-i
invariant-loop-i l = has_at_most_digits (l.count - l._i) l.rest ≡ has_at_most_digits l.count l.bytes
