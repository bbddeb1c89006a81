use Rattle.std.proofs.Common.{fold, [], subst, arith}
use Rattle.std.proofs.lemmas.List.{take_all}
use Rattle.thread_places.specs.Messages.{number_message}
use Rattle.thread_places.specs.Numbers.{IsNumbered}
use Rattle.thread_places.proofs.numbering.number_messages.Goals as goal

pub returns : goal.returns
unfolding Rattle.thread_places.specs.Messages.number_messages
returns c =
    subst (λ l. IsNumbered (fold number_message (record { names = []; messages = [] }) l) c.loop-i.numberer) (take_all c.loop-i.i c.args.facts.now (omega arith)) c.loop-i.invariant
