use Rattle.std.proofs.Common.{take, fold}
use Rattle.thread_references.specs.Subjects.{enter}
use Rattle.thread_references.specs.Counts.{IsMerging}
use Rattle.thread_references.proofs.subjects.Merger.enter_all.Given as goal

abbrev pub ghost-enter : goal.ghost-enter
ghost-enter g a = fold (enter a.headings.now) g.merging (take a.i a.roots.now)

abbrev pub invariant-loop-i : goal.invariant-loop-i
invariant-loop-i g l = IsMerging (fold (enter l.headings) g.merging (take l.i l.roots)) l.self
