use Rattle.page_writer.proofs.Bytes.{on_ok_map, start_bytes}
use Rattle.page_writer.proofs.spelling.push_start.Goals as goal

pub returns-clause-ok : goal.returns-clause-ok
returns-clause-ok c =
    on_ok_map c.push-3.result _ _
    (start_bytes c.args.name.now c.args.attributes.now _ _ _ _ _ c.utf8.name
    c.in_ok-push.ensures.ok (rw c.as_bytes.ensures.value at c.in_ok-push-2.ensures.ok) c.in_ok-push_attributes.ensures.ok)
    c.push-3.ensures.ok
