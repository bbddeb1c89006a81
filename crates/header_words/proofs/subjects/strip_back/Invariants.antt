use Rattle.std.proofs.Common.{◌≡◌, length}
use Rattle.header_words.specs.BaseSubject.{base, without_back}
use Rattle.header_words.proofs.subjects.strip_back.Given as goal

abbrev pub invariant-loop-next : goal.invariant-loop-next
invariant-loop-next l = without_back (base l.rest.text.now l.rest.reply) ≡ without_back (base l.part.text.now l.part.reply)

abbrev pub decreases-loop-next : goal.decreases-loop-next
decreases-loop-next l = length l.rest.text.now
