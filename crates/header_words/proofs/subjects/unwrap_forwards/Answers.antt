use Rattle.std.proofs.Common.{sym, ◌∙◌}
use Rattle.header_words.specs.BaseSubject.{base}
use Rattle.header_words.proofs.SubjectLemmas.{unwrapped_first, unwrapped_next, opened_done}
use Rattle.header_words.proofs.subjects.unwrap_forwards.Goals as goal

pub loop-inside-init : goal.loop-inside-init
loop-inside-init c = unwrapped_first c.args.spaced.now (base c.trim-part.result.text.now c.trim-part.result.reply) c.trim-part.ensures

pub loop-inside-smaller : goal.loop-inside-smaller
loop-inside-smaller c =
    let part = c.loop-inside.part in
    let inside = c.in-Some.inside in
    (unwrapped_next (base part.text.now part.reply) (base inside.text.now inside.reply) (base c.trim-part-in-Some.result.text.now c.trim-part-in-Some.result.reply) c.in-Some.ensures.0 c.in-Some.ensures.1 c.trim-part-in-Some.ensures).1

pub loop-inside-preserved : goal.loop-inside-preserved
loop-inside-preserved c =
    let part = c.loop-inside.part in
    let inside = c.in-Some.inside in
    (unwrapped_next (base part.text.now part.reply) (base inside.text.now inside.reply) (base c.trim-part-in-Some.result.text.now c.trim-part-in-Some.result.reply) c.in-Some.ensures.0 c.in-Some.ensures.1 c.trim-part-in-Some.ensures).0 ∙ c.loop-inside.invariant

pub returns : goal.returns
returns c = sym (opened_done _ (base c.loop-inside.part.text.now c.loop-inside.part.reply) c.in_default.ensures) ∙ c.loop-inside.invariant
