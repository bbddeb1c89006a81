use Rattle.thread_places.proofs.names.Names.number_reference.Given as goal

abbrev pub ghost-add_id : goal.ghost-add_id
ghost-add_id g a = g.known

abbrev pub ghost-add_likely_id : goal.ghost-add_likely_id
ghost-add_likely_id g a = g.known
