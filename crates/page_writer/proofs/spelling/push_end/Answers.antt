use Rattle.page_writer.proofs.Bytes.{on_ok_map, end_bytes}
use Rattle.page_writer.proofs.spelling.push_end.Goals as goal

pub returns-clause-ok : goal.returns-clause-ok
returns-clause-ok c =
    on_ok_map c.push-3.result _ _
    (end_bytes c.args.name.now _ _ _ _ c.utf8.name c.in_ok-push.ensures.ok (rw c.as_bytes.ensures.value at c.in_ok-push-2.ensures.ok))
    c.push-3.ensures.ok
