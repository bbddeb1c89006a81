use Rattle.page_writer.proofs.Held.{held_nothing, no_tokens}
use Rattle.page_writer.proofs.PageOut.new.Goals as goal

pub invariant_of-result : goal.invariant_of-result
invariant_of-result c = rw (c.new.ensures, c.new-2.ensures.items) held_nothing

pub returns-clause-written : goal.returns-clause-written
returns-clause-written c = rw c.new.ensures no_tokens
