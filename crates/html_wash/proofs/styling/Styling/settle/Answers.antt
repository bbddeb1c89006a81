use Rattle.html_wash.proofs.Writing.{on_ok_map}
use Rattle.html_wash.proofs.StylingLemmas.{settled_read}
use Rattle.html_wash.proofs.styling.Styling.settle.Goals as goal

pub returns-in-Read : goal.returns-in-Read
returns-in-Read c =
    on_ok_map c.read.result _ _
    (λ e. settled_read c.self.inside.rules c.read.new.self c.self.inside.count c.self.inside.text_use c.self.inside.text c.as_str.result.now c.args.self.now c.in-Read.is c.as_str.ensures.value c.self.view_is e)
    c.read.ensures
