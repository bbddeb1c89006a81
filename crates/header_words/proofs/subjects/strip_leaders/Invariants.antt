use Rattle.std.proofs.Common.{◌≡◌, length}
use Rattle.header_words.specs.BaseSubject.{base, without_front}
use Rattle.header_words.proofs.subjects.strip_leaders.Given as goal

abbrev pub invariant-loop-next : goal.invariant-loop-next
invariant-loop-next l = without_front (base l.rest.text.now l.rest.reply) ≡ without_front (base l.part.text.now l.part.reply)

abbrev pub decreases-loop-next : goal.decreases-loop-next
decreases-loop-next l = length l.rest.text.now
