use Rattle.header_words.proofs.SubjectLemmas.{spaced_next, spaced_done}
use Rattle.header_words.proofs.subjects.single_spaced.Goals as goal

pub loop-rest-preserved : goal.loop-rest-preserved
loop-rest-preserved c = rw c.is_white-after_white.ensures (spaced_next c.loop-rest.after_white c.loop-rest.rest.now c.loop-rest.spaced.items c.push_spaced.new.spaced.items _ c.in-len1-up.len_at_least c.in_ok-push_spaced.ensures c.loop-rest.invariant)

pub returns : goal.returns
returns c = spaced_done c.loop-rest.after_white c.loop-rest.rest.now c.loop-rest.spaced.items _ c.in_default.len_below c.loop-rest.invariant
