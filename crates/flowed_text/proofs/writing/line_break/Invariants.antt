use Rattle.std.proofs.Common.{◌-◌, length}
use Rattle.flowed_text.proofs.Breaks.{Scanned}
use Rattle.flowed_text.proofs.writing.line_break.Given as goal

abbrev pub invariant-loop-width : goal.invariant-loop-width
invariant-loop-width l = Scanned l.depth l.text l.size l.width l.last

abbrev pub decreases-loop-width : goal.decreases-loop-width
decreases-loop-width l = length l.text - l.size
