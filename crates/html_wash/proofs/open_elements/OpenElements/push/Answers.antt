use Rattle.std.proofs.Common.{true, ap, slice_set}
use Rattle.html_wash.proofs.OpenFlags.{one_more}
use Rattle.html_wash.proofs.open_elements.OpenElements.push.Goals as goal

pub invariant_of-self-2 : goal.invariant_of-self-2
invariant_of-self-2 c =
    one_more c.self.inside.flags _ c.self.inside.elements.items c.push.new.self.items c.args.element c.self.invariant
    (ap (λ i. slice_set c.self.inside.flags i true) c.number.ensures.number) c.in_ok-push.ensures.items
