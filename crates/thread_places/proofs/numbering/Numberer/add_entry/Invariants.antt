use Rattle.thread_places.specs.Messages.{nodes}
use Rattle.thread_places.proofs.numbering.Numberer.add_entry.Given as goal

abbrev pub ghost-number_message : goal.ghost-number_message
ghost-number_message g a = record { names = g.pending.references.names; nodes = nodes g.pending.messages }
