use Rattle.std.proofs.Common.{◌≡◌, true, length}
use Rattle.html_syntax.specs.Tokenizer.{is_among}
use Rattle.wash_attributes.specs.Listed.{texts_seen, are_words}
use Rattle.wash_attributes.proofs.names.word_in.Given as goal

abbrev pub invariant-loop-rest : goal.invariant-loop-rest
invariant-loop-rest l = (is_among (texts_seen l.rest) l.name ≡ is_among (texts_seen l.words) l.name) × (are_words (texts_seen l.rest) ≡ true)

abbrev pub decreases-loop-rest : goal.decreases-loop-rest
decreases-loop-rest l = length l.rest
