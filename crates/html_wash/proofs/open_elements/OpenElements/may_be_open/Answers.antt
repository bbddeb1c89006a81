use Rattle.std.proofs.Common.{false, sym, ap, ◌∙◌, slice_index_or}
use Rattle.html_wash.proofs.OpenFlags.{not_flagged}
use Rattle.html_wash.proofs.open_elements.OpenElements.may_be_open.Goals as goal

pub returns : goal.returns
returns c h =
    not_flagged c.self.inside.flags c.self.inside.elements.items c.args.self.now c.args.element c.self.invariant c.self.view_is
    (ap (λ i. slice_index_or c.self.inside.flags i false) (sym c.number.ensures.number) ∙ h)
