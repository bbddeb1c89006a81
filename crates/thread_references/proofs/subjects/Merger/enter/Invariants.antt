use Rattle.thread_references.proofs.subjects.Merger.enter.Given as goal

abbrev pub ghost-root_for : goal.ghost-root_for
ghost-root_for g a = g.merging

abbrev pub ghost-set_root : goal.ghost-set_root
ghost-set_root g a = g.merging
