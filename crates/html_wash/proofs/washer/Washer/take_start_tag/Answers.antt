use Rattle.wash_attributes.specs.Addresses.{given_of}
use Rattle.html_wash.proofs.Writing.{on_ok_map}
use Rattle.html_wash.proofs.Taking.{start_took}
use Rattle.html_wash.proofs.washer.Washer.take_start_tag.Goals as goal

pub returns-in-Some-clause-took : goal.returns-in-Some-clause-took
returns-in-Some-clause-took c =
    on_ok_map c.take_element.result _ _
    (start_took (given_of c.args.references.now c.args.place.now) _ c.args.self.now c.settle.new.self c.in-Some.element c.name-name.result c.args.tag.now.name c.args.tag.now.attributes c.args.out.now c.take_element.new.out c.take_element.new.self.state c.is_dropped.result
    c.self.view_is c.in_ok-settle.ensures c.in-Some.ensures c.name-name.ensures c.is_dropped.ensures c.if-is_dropped.false)
    c.take_element.ensures.took
