use Rattle.std.proofs.Common.{◌≡◌, ◌≤◌, ◌-◌, length}
use Rattle.mime_content.specs.Pieces.{parameter}
use Rattle.mime_content.proofs.PieceLemmas.{first_value, pieces_after}
use Rattle.mime_content.proofs.pieces.parameter.Given as goal

abbrev pub invariant-loop-at : goal.invariant-loop-at
invariant-loop-at l = record {
  within : l.at ≤ length l.value;
  left : first_value l.name (pieces_after l.at l.value) ≡ parameter l.name l.value;
}

abbrev pub decreases-loop-at : goal.decreases-loop-at
decreases-loop-at l = length l.value - l.at
