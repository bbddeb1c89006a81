use Rattle.std.proofs.Common.{[]}
use Rattle.thread_references.proofs.subjects.merge_roots.Given as goal

abbrev pub ghost-merge_roots : goal.ghost-merge_roots
ghost-merge_roots a = record { parents = a.self.now.parents.items; table = [] }
