use Rattle.std.proofs.Common.{◌≡◌, take}
use Rattle.thread_places.specs.Messages.{number_ids}
use Rattle.thread_places.specs.Numbers.{HasNames}
use Rattle.thread_places.proofs.names.Names.number_references.Given as goal

abbrev pub ghost-number_reference : goal.ghost-number_reference
ghost-number_reference g a = record { names = (number_ids g.known.names (take a.i a.references.now)).names; nodes = g.known.nodes }

abbrev pub invariant-loop-i : goal.invariant-loop-i
invariant-loop-i g l = record {
  names : HasNames (number_ids g.known.names (take l.i l.references)).names g.known.nodes l.self;
  numbers : l.numbers.items ≡ (number_ids g.known.names (take l.i l.references)).numbers;
}
