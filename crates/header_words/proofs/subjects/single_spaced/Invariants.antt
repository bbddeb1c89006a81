use Rattle.std.proofs.Common.{◌≡◌, ◌++◌, length, false}
use Rattle.header_words.specs.BaseSubject.{single_spaced}
use Rattle.header_words.proofs.subjects.single_spaced.Given as goal

abbrev pub invariant-loop-rest : goal.invariant-loop-rest
invariant-loop-rest l = l.spaced.items ++ single_spaced l.after_white l.rest ≡ single_spaced false l.text

abbrev pub decreases-loop-rest : goal.decreases-loop-rest
decreases-loop-rest l = length l.rest
