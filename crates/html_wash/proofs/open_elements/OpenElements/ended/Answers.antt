use Rattle.std.proofs.Common.{◌≡◌, true, false, sym, ap, ◌∙◌, arith, length}
use Rattle.html_wash.specs.Closings.{ended}
use Rattle.html_wash.specs.Elements.{name_of}
use Rattle.html_wash.specs.Seen.{stack}
use Rattle.html_wash.proofs.Reversed.{ended_nowhere, ended_at_index}
use Rattle.html_wash.proofs.OpenFlags.{ended_absent}
use Rattle.html_wash.proofs.open_elements.OpenElements.ended.Goals as goal

pub returns-then-start-eq0 : goal.returns-then-start-eq0
returns-then-start-eq0 c =
    let seen : stack c.deref.result.now ≡ c.args.self.now = ap stack c.deref.ensures.value ∙ c.self.view_is in
    sym (ap (ended (name_of c.args.element)) (sym seen) ∙ ended_nowhere _ c.deref.result.now _ c.look_start-start.ensures c.if-start-eq0.true)

pub returns-then-not-is : goal.returns-then-not-is
returns-then-not-is c =
    sym (ended_at_index _ c.deref.result.now c.self.inside.elements.items _ c.look_start-start.result c.index.result.now false c.deref.ensures.value c.self.view_is c.look_start-start.ensures c.if-start-eq0.false c.index.ensures (sym c.if-not-is.true ∙ c.is.ensures))

pub returns : goal.returns
returns c =
    let found = ended_at_index _ c.deref.result.now c.self.inside.elements.items _ c.look_start-start.result c.index.result.now true c.deref.ensures.value c.self.view_is c.look_start-start.ensures c.if-start-eq0.false c.index.ensures (sym c.if-not-is.false ∙ c.is.ensures) in
    let len : c.len.result ≡ length c.self.inside.elements.items = omega (arith, c.len.ensures, c.self.inside.elements.ok.0) in
    omega (arith, found, len)

pub returns-then-not-may_be_open : goal.returns-then-not-may_be_open
returns-then-not-may_be_open c = sym (ended_absent (name_of c.args.element) c.args.self.now (c.may_be_open.ensures c.if-not-may_be_open.true))
