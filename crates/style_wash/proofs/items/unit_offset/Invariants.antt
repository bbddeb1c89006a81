use Rattle.std.proofs.Common.{◌≡◌, ◌-◌, ◌≤◌, ◌<◌, ℕ, length, get_or, false}
use Rattle.style_wash.specs.Items.{begins_unit}
use Rattle.style_wash.proofs.items.unit_offset.Given as goal

abbrev pub invariant-loop-end : goal.invariant-loop-end
invariant-loop-end l =
    record { before : (k : ℕ) → k < l.end → begins_unit (get_or l.text k 0) ≡ false; bound : l.end ≤ length l.text }

abbrev pub decreases-loop-end : goal.decreases-loop-end
decreases-loop-end l = length l.text - l.end
