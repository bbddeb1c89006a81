use Rattle.std.proofs.Common.{◌∙◌}
use Rattle.header_words.specs.BaseSubject.{base}
use Rattle.header_words.proofs.SubjectLemmas.{leader_step, leader_shortens}
use Rattle.header_words.proofs.subjects.strip_leaders.Goals as goal

pub loop-next-smaller : goal.loop-next-smaller
loop-next-smaller c =
    let rest = c.loop-next.rest in
    leader_shortens (base rest.text.now rest.reply) (base c.in-Some.next.text.now c.in-Some.next.reply) c.in-Some.ensures.0 c.in-Some.ensures.1

pub loop-next-preserved : goal.loop-next-preserved
loop-next-preserved c =
    let rest = c.loop-next.rest in
    leader_step (base rest.text.now rest.reply) (base c.in-Some.next.text.now c.in-Some.next.reply) c.in-Some.ensures.0 c.in-Some.ensures.1 ∙ c.loop-next.invariant
