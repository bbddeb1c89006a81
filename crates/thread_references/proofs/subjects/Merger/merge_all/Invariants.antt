use Rattle.std.proofs.Common.{take, fold}
use Rattle.thread_references.specs.Subjects.{merge}
use Rattle.thread_references.specs.Counts.{IsMerging}
use Rattle.thread_references.proofs.subjects.Merger.merge_all.Given as goal

abbrev pub ghost-merge : goal.ghost-merge
ghost-merge g a = fold (merge a.headings.now) g.merging (take a.i a.roots.now)

abbrev pub invariant-loop-i : goal.invariant-loop-i
invariant-loop-i g l = IsMerging (fold (merge l.headings) g.merging (take l.i l.roots)) l.self
