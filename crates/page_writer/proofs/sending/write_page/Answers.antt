use Rattle.std.specs.List.{concat}
use Rattle.page_writer.proofs.Appending.{some_after, on_err_map}
use Rattle.page_writer.proofs.sending.write_page.Goals as goal

pub returns-clause-prefix : goal.returns-clause-prefix
returns-clause-prefix g c =
    on_err_map c.write_whole.result _ _ (λ call. some_after _ _ _ (concat c.parts.result.0.now) c.parts.result.1.now _ c.parts.ensures c.in_ok-write_segments.ensures.whole call) c.write_whole.ensures.prefix
