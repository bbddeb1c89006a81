use Rattle.std.proofs.Common.{◌≡◌, ◌≤◌, length, drop}
use Rattle.std.specs.Prelude.{string_bytes}
use Rattle.style_rules.specs.Cascade.{joined}
use Rattle.style_rules.specs.Steps.{found}
use Rattle.style_rules.proofs.cascade.join.Given as goal

abbrev pub invariant-loop-at : goal.invariant-loop-at
invariant-loop-at l = record {
  written : string_bytes l.style ≡ joined (found (drop l.at l.last));
  within : l.at ≤ length l.last;
}

abbrev pub decreases-loop-at : goal.decreases-loop-at
decreases-loop-at l = l.at
