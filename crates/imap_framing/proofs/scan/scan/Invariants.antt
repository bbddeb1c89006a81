use Rattle.std.proofs.Common.{◌≤◌, ◌-◌, length, take}
use Rattle.imap_framing.specs.Scans.{PhaseIs}
use Rattle.imap_framing.proofs.scan.scan.Given as goal

abbrev pub invariant-loop-at : goal.invariant-loop-at
invariant-loop-at l = record { within : l.at ≤ length l.unit; phase : PhaseIs (take l.at l.unit) l.phase }

abbrev pub decreases-loop-at : goal.decreases-loop-at
decreases-loop-at l = length l.unit - l.at
