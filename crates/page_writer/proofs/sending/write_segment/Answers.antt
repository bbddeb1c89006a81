use Rattle.std.proofs.Common.{◌++◌, ◌∙◌, ap}
use Rattle.page_writer.specs.Bytes.{spell_bytes}
use Rattle.page_writer.proofs.Appending.{some_after, on_err_map}
use Rattle.page_writer.proofs.sending.write_segment.Goals as goal

pub returns-clause-prefix : goal.returns-clause-prefix
returns-clause-prefix g c =
    let markup = c.parts.result.0.now in
    let whole = ap (λ text. markup ++ spell_bytes text) c.as_bytes.ensures.value ∙ c.parts.ensures in
    on_err_map c.write_text.result _ _ (λ call. some_after _ _ _ markup (spell_bytes c.as_bytes.result.now) _ whole c.in_ok-write_whole.ensures.whole call) c.write_text.ensures.prefix
