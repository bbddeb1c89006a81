use Rattle.std.proofs.Common.{◌≡◌, ◌≤◌, ◌-◌, length, take, drop}
use Rattle.style_wash.specs.Declarations.{pieces}
use Rattle.style_wash.specs.Seen.{nesting_seen}
use Rattle.style_wash.specs.Values.Nesting.{Outside}
use Rattle.style_wash.proofs.Pieces.{front_onto}
use Rattle.style_wash.proofs.declarations.split_piece.Given as goal

abbrev pub invariant-loop-end : goal.invariant-loop-end
invariant-loop-end l = record {
  cut : front_onto (take l.end l.text) (pieces (nesting_seen l.place) (drop l.end l.text)) ≡ pieces Outside l.text;
  within : l.end ≤ length l.text;
}

abbrev pub decreases-loop-end : goal.decreases-loop-end
decreases-loop-end l = length l.text - l.end
