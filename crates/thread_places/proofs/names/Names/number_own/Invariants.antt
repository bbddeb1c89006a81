use Rattle.thread_places.proofs.names.Names.number_own.Given as goal

abbrev pub ghost-number_named : goal.ghost-number_named
ghost-number_named g a = g.known

abbrev pub ghost-add_own : goal.ghost-add_own
ghost-add_own g a = g.known
