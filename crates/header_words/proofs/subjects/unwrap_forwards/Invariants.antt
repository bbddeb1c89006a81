use Rattle.std.proofs.Common.{◌≡◌, length}
use Rattle.header_words.specs.BaseSubject.{base, opened, unwrapped}
use Rattle.header_words.proofs.subjects.unwrap_forwards.Given as goal

abbrev pub invariant-loop-inside : goal.invariant-loop-inside
invariant-loop-inside l = opened (length l.part.text.now) (base l.part.text.now l.part.reply) ≡ unwrapped l.spaced

abbrev pub decreases-loop-inside : goal.decreases-loop-inside
decreases-loop-inside l = length l.part.text.now
