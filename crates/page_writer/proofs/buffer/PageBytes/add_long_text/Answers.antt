use Rattle.std.proofs.Common.{◌∙◌, ap, arith}
use Rattle.page_writer.proofs.Bytes.{text_bytes}
use Rattle.page_writer.proofs.Buffers.{long_text_added, pushed}
use Rattle.page_writer.proofs.buffer.PageBytes.add_long_text.Goals as goal

pub returns : goal.returns
returns c =
    let room = c.push.ensures.succeeds (omega (arith, c.in_ok-reserve.ensures.ok)) in
    long_text_added _ _ _ _ _ _ _ _ _ _ _
    (pushed c.push.result _ _ _ room c.push.ensures.items)
    c.reserve.ensures.items
    c.new-2.ensures
    (ap (λ v. v.items) c.replace-markup.ensures.value)
    c.in_ok-text.ensures.ok
    (ap (λ v. v.items) c.replace-markup.ensures.after ∙ c.new.ensures.items)
    (text_bytes _ c.utf8.text)
    c.self.view_is
