use Rattle.html_wash.specs.Elements.{name_of}
use Rattle.html_wash.proofs.Reversed.{IsLeft, passes}
use Rattle.html_wash.proofs.open_elements.look_start.Given as goal

abbrev pub invariant-loop-start : goal.invariant-loop-start
invariant-loop-start l = IsLeft (passes (name_of l.ended)) l.elements l.start

abbrev pub decreases-loop-start : goal.decreases-loop-start
decreases-loop-start l = l.start
