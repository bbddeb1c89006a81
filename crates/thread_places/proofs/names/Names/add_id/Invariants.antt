use Rattle.thread_places.proofs.names.Names.add_id.Given as goal

abbrev pub ghost-number : goal.ghost-number
ghost-number g a = g.known

abbrev pub ghost-insert : goal.ghost-insert
ghost-insert g a = g.known
