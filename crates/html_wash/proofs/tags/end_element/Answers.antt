use Rattle.std.proofs.Common.{sym, ap, ◌∙◌, arith}
use Rattle.html_wash.specs.Closings.{close_innermost}
use Rattle.html_wash.specs.Elements.{name_of}
use Rattle.html_wash.proofs.Writing.{nothing_wrote, wrote_same, on_ok_map, ended_le, end_void, end_closes}
use Rattle.html_wash.proofs.tags.end_element.Goals as goal

pub returns-then-is_void : goal.returns-then-is_void
returns-then-is_void c = wrote_same _ _ _ _ _ _ (end_void c.args.opened.now _ (sym c.is_void.ensures ∙ c.if-is_void.true)) (nothing_wrote c.args.opened.now _ c.args.out.now c.requires)

pub close-requires-clause-within : goal.close-requires-clause-within
close-requires-clause-within c = omega (arith, c.ended-count.ensures, ended_le (name_of c.args.element) c.args.opened.now)

pub returns : goal.returns
returns c =
    on_ok_map c.close.result _ _ (wrote_same _ _ _ _ _ _ (ap (λ n. close_innermost n c.args.opened.now) c.ended-count.ensures ∙ end_closes c.args.opened.now c.args.element (sym c.is_void.ensures ∙ c.if-is_void.false))) c.close.ensures
