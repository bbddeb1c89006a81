use Rattle.html_wash.specs.Closings.{close_innermost}
use Rattle.html_wash.specs.Writing.{outside, Wrote}
use Rattle.html_wash.proofs.tags.close.Given as goal

abbrev pub invariant-loop-i : goal.invariant-loop-i
invariant-loop-i l = Wrote (close_innermost l._i l.fn.opened) (outside l.fn.opened l.fn.out.opened) l.fn.out l.out l.opened
