use Rattle.std.proofs.Common.{◌≡◌, ◌≤◌, ◌<◌, ◌-◌, length, take, drop}
use Rattle.style_wash.specs.Values.{parts}
use Rattle.style_wash.specs.Values.Nesting.{Outside}
use Rattle.style_wash.proofs.Cuts.{gap_onto}
use Rattle.style_wash.proofs.values.split_gap.Given as goal

abbrev pub invariant-loop-end : goal.invariant-loop-end
invariant-loop-end l = record {
  cut : gap_onto (take l.end l.text) (parts Outside (drop l.end l.text)).first (parts Outside (drop l.end l.text)).more ≡ parts Outside l.text;
  some : 0 < l.end;
  within : l.end ≤ length l.text;
}

abbrev pub decreases-loop-end : goal.decreases-loop-end
decreases-loop-end l = length l.text - l.end
