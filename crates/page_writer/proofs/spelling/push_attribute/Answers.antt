use Rattle.page_writer.proofs.Bytes.{on_ok_map, attribute_written}
use Rattle.page_writer.proofs.spelling.push_attribute.Goals as goal

pub returns-clause-ok : goal.returns-clause-ok
returns-clause-ok c =
    on_ok_map c.push-4.result _ _
    (attribute_written c.args.name.now c.args.value.now _ _ _ _ _ _
    c.in_ok-push.ensures.ok (rw c.as_bytes.ensures.value at c.in_ok-push-2.ensures.ok) c.in_ok-push-3.ensures.ok c.in_ok-push_text.ensures.ok)
    c.push-4.ensures.ok
