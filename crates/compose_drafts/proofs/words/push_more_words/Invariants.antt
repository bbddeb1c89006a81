use Rattle.std.proofs.Common.{◌≡◌, ◌++◌, length}
use Rattle.std.specs.List.{flat_map}
use Rattle.compose_drafts.specs.Texts.{pieces, spaced_word}
use Rattle.compose_drafts.proofs.words.push_more_words.Given as goal

abbrev pub invariant-loop-rest : goal.invariant-loop-rest
invariant-loop-rest l = l.out.items ++ flat_map spaced_word (pieces l.rest) ≡ l.initial.out.items ++ flat_map spaced_word (pieces l.text)

abbrev pub decreases-loop-rest : goal.decreases-loop-rest
decreases-loop-rest l = length l.rest
