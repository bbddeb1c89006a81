use Rattle.std.proofs.Common.{is_ok, codes, sym, subst, ◌∷◌, []}
use Rattle.html_syntax.specs.Token.Token.{Doctype}
use Rattle.page_writer.specs.Page.{MayAppend}
use Rattle.page_writer.specs.Writer.{Page, names_of}
use Rattle.page_writer.proofs.Held.{Leaves, leaves, on_ok, doctype_adds}
use Rattle.page_writer.proofs.PageOut.doctype.Goals as goal

left : (c : goal.After-add_markup) → Leaves (is_ok c.add_markup.result) c.add_markup.new.self (names_of c.self.inside.inside.items) (Doctype ∷ []) c.args.self.now
left c =
    let may = subst (λ (p : Page). MayAppend p.opened Doctype) (sym c.self.view_is) c.requires in
    leaves (is_ok c.add_markup.result) c.self.inside.bytes c.add_markup.new.self (codes "<!DOCTYPE html>") (names_of c.self.inside.inside.items) (Doctype ∷ []) c.args.self.now
    c.self.view_is c.add_markup.ensures c.self.invariant (doctype_adds _ _ c.self.invariant may)

pub invariant_of-self : goal.invariant_of-self
invariant_of-self c = (left c).held

pub returns-clause-ok : goal.returns-clause-ok
returns-clause-ok c = on_ok c.add_markup.result _ (left c).page
