use Rattle.std.proofs.Common.{◌≡◌, ◌++◌, length, false}
use Rattle.header_words.specs.EncodedWords.{joined, items_of}
use Rattle.header_words.proofs.items.decode_items.Given as goal

abbrev pub invariant-loop-rest : goal.invariant-loop-rest
invariant-loop-rest l = l.bytes.items ++ joined false (items_of l.rest) ≡ joined false (items_of l.value)

abbrev pub decreases-loop-rest : goal.decreases-loop-rest
decreases-loop-rest l = length l.rest
