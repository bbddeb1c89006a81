use Rattle.html_wash.proofs.Writing.{on_ok_map}
use Rattle.html_wash.proofs.StylingLemmas.{pushed, read_more}
use Rattle.html_wash.proofs.styling.Styling.read_text.Goals as goal

pub returns : goal.returns
returns c =
    on_ok_map c.push_str.result _ _
    (λ e. read_more c.self.inside.rules c.self.inside.count c.self.inside.text_use c.self.inside.text c.push_str.new.self c.args.text.now c.args.self.now c.self.view_is e)
    (pushed c.push_str.result _ _ _ c.push_str.ensures.bytes)
