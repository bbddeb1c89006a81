use Rattle.thread_places.proofs.names.Names.number_named.Given as goal

abbrev pub ghost-number : goal.ghost-number
ghost-number g a = g.known

abbrev pub ghost-add_own : goal.ghost-add_own
ghost-add_own g a = g.known

abbrev pub ghost-insert : goal.ghost-insert
ghost-insert g a = g.known
