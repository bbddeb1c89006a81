use Rattle.std.proofs.Common.{◌≡◌, length}
use Rattle.style_wash.specs.Cuts.{BeginsWith, written_onto}
use Rattle.style_wash.specs.Values.{parts, value_in}
use Rattle.style_wash.specs.Values.Nesting.{Outside}
use Rattle.style_wash.proofs.values.push_value.Given as goal

abbrev pub invariant-items : goal.invariant-items
invariant-items l = record {
  kept : BeginsWith l.fn.written.items l.written.items;
  value : written_onto l.written.items (value_in l.left (parts Outside l.rest)) ≡ written_onto l.fn.written.items (value_in 15 (parts Outside l.value));
}

abbrev pub decreases-items : goal.decreases-items
decreases-items l = length l.rest
