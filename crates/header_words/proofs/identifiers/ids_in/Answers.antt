use Rattle.header_words.proofs.SubjectLemmas.{ids_next, ids_past, ids_done}
use Rattle.header_words.proofs.identifiers.ids_in.Goals as goal

pub loop-rest-preserved-in_ok-push_id : goal.loop-rest-preserved-in_ok-push_id
loop-rest-preserved-in_ok-push_id c = ids_next c.loop-rest.rest.now c.loop-rest.ids.items c.push_id.new.ids.items _ c.in-len1-up.len_at_least c.if-first-eq60.true c.in_ok-push_id.ensures c.loop-rest.invariant

pub loop-rest-preserved : goal.loop-rest-preserved
loop-rest-preserved c = ids_past c.loop-rest.rest.now c.loop-rest.ids.items _ c.in-len1-up.len_at_least c.if-first-eq60.false c.loop-rest.invariant

pub returns : goal.returns
returns c = ids_done c.loop-rest.rest.now c.loop-rest.ids.items _ c.in_default.len_below c.loop-rest.invariant
