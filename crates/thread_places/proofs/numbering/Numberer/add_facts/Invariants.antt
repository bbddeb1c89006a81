use Rattle.thread_places.proofs.numbering.Numberer.add_facts.Given as goal

abbrev pub ghost-add : goal.ghost-add
ghost-add g a = g.before
