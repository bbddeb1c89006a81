use Rattle.std.proofs.Common.{false, map, sym, ap, ◌∙◌, slice_set}
use Rattle.html_syntax.specs.Tokenizer.{is_among}
use Rattle.html_wash.specs.Elements.{name_of}
use Rattle.html_wash.proofs.OpenFlags.{one_less, one_gone}
use Rattle.html_wash.proofs.open_elements.OpenElements.pop.Goals as goal

pub invariant_of-self : goal.invariant_of-self
invariant_of-self c =
    one_gone c.self.inside.flags _ c.pop.new.self.items c.in-Some.element
    (one_less c.self.inside.flags c.self.inside.elements.items c.pop.new.self.items c.in-Some.element c.self.invariant c.in-Some.ensures.items)
    (ap (λ es. is_among (map name_of es) (name_of c.in-Some.element)) (sym c.deref.ensures.value) ∙ sym c.contains.ensures ∙ c.if-not-contains.true)
    (ap (λ i. slice_set c.self.inside.flags i false) c.number.ensures.number)
