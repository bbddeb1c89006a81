use Rattle.std.proofs.Common.{◌≡◌, ◌≤◌, ◌-◌, length, take, drop}
use Rattle.style_wash.specs.Seen.{nesting_seen}
use Rattle.style_wash.specs.Values.{parts}
use Rattle.style_wash.specs.Values.Nesting.{Outside}
use Rattle.style_wash.proofs.Cuts.{text_onto}
use Rattle.style_wash.proofs.values.split_text.Given as goal

abbrev pub invariant-loop-end : goal.invariant-loop-end
invariant-loop-end l = record {
  cut : text_onto (take l.end l.value) (parts (nesting_seen l.place) (drop l.end l.value)) ≡ parts Outside l.value;
  within : l.end ≤ length l.value;
}

abbrev pub decreases-loop-end : goal.decreases-loop-end
decreases-loop-end l = length l.value - l.end
