use Rattle.thread_references.proofs.subjects.Merger.merge_with.Given as goal

abbrev pub ghost-set_root : goal.ghost-set_root
ghost-set_root g a = g.merging
