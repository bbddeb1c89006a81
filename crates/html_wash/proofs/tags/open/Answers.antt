use Rattle.std.proofs.Common.{true, false, refl, sym, ◌∙◌}
use Rattle.html_wash.proofs.Writing.{on_ok_map}
use Rattle.html_wash.proofs.Starting.{may_start, start_wrote}
use Rattle.html_wash.proofs.tags.open.Goals as goal

pub start-requires : goal.start-requires
start-requires c = may_start c.args.element c.name.result.now c.args.attributes.now _ _ _ c.name.ensures c.requires.inside c.requires.named c.requires.distinct

pub returns-then-is_void : goal.returns-then-is_void
returns-then-is_void c = start_wrote c.args.element c.name.result.now _ c.args.opened.now _ c.args.out.now c.start.new.self _ true c.name.ensures c.requires.inside c.in_ok-start.ensures.ok (sym c.is_void.ensures ∙ c.if-is_void.true) refl

pub returns : goal.returns
returns c =
    on_ok_map c.push.result _ _
    (λ e. start_wrote c.args.element c.name.result.now _ c.args.opened.now _ c.args.out.now c.start.new.self _ false c.name.ensures c.requires.inside c.in_ok-start.ensures.ok (sym c.is_void.ensures ∙ c.if-is_void.false) e)
    c.push.ensures
