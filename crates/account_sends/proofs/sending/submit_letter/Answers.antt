use Rattle.std.proofs.lemmas.Result.{err_from_is_err_and}
use Rattle.account_sends.proofs.SendLemmas.{begun_so, not_begun}
use Rattle.account_sends.proofs.sending.submit_letter.Goals as goal

pub returns-in_err-note : goal.returns-in_err-note
returns-in_err-note g c =
    let p = err_from_is_err_and c.from_residual.result c.from_residual.ensures.1 in
    record { sends = rw (p.1, p.2) (not_begun _ _ c.args.letter.now _ _ _ _ _ _ _ _ c.in_err-note.field-0.0 c.note.result c.in_err-note.was c.note.ensures.notes c.note.ensures.keeps_adopted c.note.ensures.cause) }

pub returns : goal.returns
returns g c = record {
  sends = begun_so _ _ _ _ _ c.args.letter.now _ _ _ _ _ _ _ _ _ _ _ _ _ c.note.result c.submit-posted.result c.state_after.result c.note-noted.result c.finish.result
      c.in_ok-note.was c.note.ensures.notes c.note.ensures.keeps_adopted c.note.ensures.cause c.as_str.ensures c.as_str-2.ensures c.as_slice.ensures c.submit-posted.ensures.submits c.submit-posted.ensures.cause
      c.state_after.ensures c.note-noted.ensures.notes c.note-noted.ensures.keeps_adopted c.note-noted.ensures.cause c.finish.ensures;
}
