use Rattle.std.proofs.Common.{sym, ◌∙◌}
use Rattle.header_words.proofs.SubjectLemmas.{trailer_step, trailer_shortens, trailers_done}
use Rattle.header_words.proofs.subjects.strip_back.Goals as goal

pub loop-next-smaller : goal.loop-next-smaller
loop-next-smaller c = trailer_shortens c.loop-next.rest.text.now c.in-Some.next.text.now c.loop-next.rest.reply c.in-Some.next.reply c.in-Some.ensures.0 c.in-Some.ensures.1

pub loop-next-preserved : goal.loop-next-preserved
loop-next-preserved c = trailer_step c.loop-next.rest.text.now c.in-Some.next.text.now c.loop-next.rest.reply c.in-Some.next.reply c.in-Some.ensures.0 c.in-Some.ensures.1 ∙ c.loop-next.invariant

pub returns : goal.returns
returns c = sym (trailers_done c.loop-next.rest.text.now c.loop-next.rest.reply c.in_default.ensures) ∙ c.loop-next.invariant
