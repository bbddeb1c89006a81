use Rattle.std.proofs.Common.{take, fold, []}
use Rattle.thread_places.specs.Messages.{number_message}
use Rattle.thread_places.specs.Numbers.{IsNumbered}
use Rattle.thread_places.proofs.numbering.number_messages.Given as goal

abbrev pub ghost-add_facts : goal.ghost-add_facts
ghost-add_facts a = fold number_message (record { names = []; messages = [] }) (take a.i a.facts.now)

abbrev pub invariant-loop-i : goal.invariant-loop-i
invariant-loop-i l = IsNumbered (fold number_message (record { names = []; messages = [] }) (take l.i l.facts)) l.numberer
