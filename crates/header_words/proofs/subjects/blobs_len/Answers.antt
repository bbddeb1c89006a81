use Rattle.header_words.proofs.SubjectLemmas.{blobs_next, blobs_end}
use Rattle.header_words.proofs.subjects.blobs_len.Goals as goal

pub loop-next-preserved : goal.loop-next-preserved
loop-next-preserved c =
    let before = c.loop-next.invariant in
    let next = blobs_next c.args.text.now c.loop-next.len c.loop-next.next c.blob_len-next-in-loop-next.result before.within before.next before.counted c.loop-next-test.true c.blob_len-next-in-loop-next.ensures.equals c.blob_len-next-in-loop-next.ensures.within in
    record { within = next.0; next = next.1.0; counted = next.1.1 }

pub returns-clause-equals : goal.returns-clause-equals
returns-clause-equals c = blobs_end c.args.text.now c.loop-next.len c.loop-next.next c.loop-next.invariant.next c.loop-next.invariant.counted c.loop-next-test.false
