use Rattle.std.proofs.Common.{true, false, chars}
use Rattle.html_wash.specs.Elements.{name_of}
use Rattle.wash_attributes.specs.Addresses.{given_of}
use Rattle.html_wash.proofs.Writing.{on_ok_map}
use Rattle.html_wash.proofs.Starting.{room_is, kept_is, kept_writable, full_start, open_start}
use Rattle.html_wash.proofs.tags.start_tag.Goals as goal

pub returns-then-not-has_room : goal.returns-then-not-has_room
returns-then-not-has_room c =
    full_start (given_of c.args.references.now c.args.place.now c.args.images) (chars c.args.declared.now) c.args.opened.now (name_of c.args.element) c.args.tag.now.attributes _ c.args.out.now c.close_by.new.out c.close_by.new.opened
    (room_is _ c.len.result _ c.has_room.result false c.len.ensures c.has_room.ensures c.if-not-has_room.true) c.in_ok-close_by.ensures

pub open-requires-clause-named : goal.open-requires-clause-named
open-requires-clause-named c = (kept_writable (given_of c.args.references.now c.args.place.now c.args.images) (chars c.args.declared.now) c.name.result.now c.args.tag.now.attributes c.in_ok-attributes.attributes c.in_ok-attributes.ensures.equals).named

pub open-requires-clause-distinct : goal.open-requires-clause-distinct
open-requires-clause-distinct c = (kept_writable (given_of c.args.references.now c.args.place.now c.args.images) (chars c.args.declared.now) c.name.result.now c.args.tag.now.attributes c.in_ok-attributes.attributes c.in_ok-attributes.ensures.equals).distinct

pub returns : goal.returns
returns c =
    on_ok_map c.open.result _ _
    (λ w. open_start (given_of c.args.references.now c.args.place.now c.args.images) (chars c.args.declared.now) c.args.opened.now c.args.element c.args.tag.now.attributes c.in_ok-attributes.attributes _ c.args.out.now c.close_by.new.out c.open.new.out c.close_by.new.opened c.open.new.opened
    (room_is _ c.len.result _ c.has_room.result true c.len.ensures c.has_room.ensures c.if-not-has_room.false)
    (kept_is (given_of c.args.references.now c.args.place.now c.args.images) (chars c.args.declared.now) c.name.result.now (name_of c.args.element) c.args.tag.now.attributes c.in_ok-attributes.attributes c.name.ensures c.in_ok-attributes.ensures.equals)
    c.in_ok-close_by.ensures w)
    c.open.ensures
