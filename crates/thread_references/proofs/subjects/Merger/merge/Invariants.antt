use Rattle.thread_references.proofs.subjects.Merger.merge.Given as goal

abbrev pub ghost-root_for : goal.ghost-root_for
ghost-root_for g a = g.merging

abbrev pub ghost-merge_with : goal.ghost-merge_with
ghost-merge_with g a = g.merging
