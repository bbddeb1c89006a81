use Rattle.std.proofs.Common.{fold}
use Rattle.thread_references.specs.Subjects.{enter}
use Rattle.thread_references.proofs.subjects.Merger.merge_roots.Given as goal

abbrev pub ghost-enter_all : goal.ghost-enter_all
ghost-enter_all g a = g.merging

abbrev pub ghost-merge_all : goal.ghost-merge_all
ghost-merge_all g a = fold (enter a.headings.now) g.merging a.roots.now
