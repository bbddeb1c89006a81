use Rattle.thread_places.proofs.names.Names.number_message.Given as goal

abbrev pub ghost-number_own : goal.ghost-number_own
ghost-number_own g a = g.known
