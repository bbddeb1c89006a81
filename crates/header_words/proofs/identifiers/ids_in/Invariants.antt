use Rattle.std.proofs.Common.{◌≡◌, ◌++◌, length}
use Rattle.header_words.specs.MessageIds.{ids_in}
use Rattle.header_words.proofs.identifiers.ids_in.Given as goal

abbrev pub invariant-loop-rest : goal.invariant-loop-rest
invariant-loop-rest l = l.ids.items ++ ids_in l.rest ≡ ids_in l.text

abbrev pub decreases-loop-rest : goal.decreases-loop-rest
decreases-loop-rest l = length l.rest
