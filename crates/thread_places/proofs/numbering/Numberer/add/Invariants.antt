use Rattle.thread_places.specs.Messages.{nodes, number_ids}
use Rattle.thread_places.proofs.numbering.Numberer.add.Given as goal

abbrev pub ghost-number_references : goal.ghost-number_references
ghost-number_references g a = record { names = g.before.names; nodes = nodes g.before.messages }

abbrev pub ghost-add_entry : goal.ghost-add_entry
ghost-add_entry g a = record { messages = g.before.messages; references = number_ids g.before.names a.facts.now.references }
