use Rattle.std.proofs.Common.{sym, ◌∙◌}
use Rattle.header_words.proofs.SubjectLemmas.{blob_turn, blobs_done}
use Rattle.header_words.proofs.subjects.strip_blobs.Goals as goal

pub loop-more-preserved : goal.loop-more-preserved
loop-more-preserved c =
    let turn = blob_turn c.loop-more.rest.now c.in-Some.more.now c.loop-more.invariant.no_leader c.in-Some.ensures.equals c.in-Some.ensures.shorter in
    record { no_leader = turn.0; same = λ reply. turn.1 reply ∙ c.loop-more.invariant.same reply }

pub returns : goal.returns
returns c = λ reply. sym (c.loop-more.invariant.same reply) ∙ blobs_done c.loop-more.rest.now c.loop-more.invariant.no_leader c.in_default.ensures.equals reply
