use Rattle.std.proofs.Common.{[], List, ◌∙◌, ap, subst, Some}
use Rattle.html_rules.specs.Tables.{Name}
use Rattle.page_writer.specs.Page.{MayAppendAll}
use Rattle.page_writer.specs.Writer.{Page}
use Rattle.page_writer.proofs.Nesting.{open_after-led}
use Rattle.page_writer.proofs.PageOut.finish.Goals as goal

pub returns-clause-nested : goal.returns-clause-nested
returns-clause-nested c =
    let led : MayAppendAll [] c.args.self.written c.args.self.opened = subst (λ (p : Page). MayAppendAll [] p.written p.opened) c.self.view_is c.self.invariant.led in
    open_after-led [] c.args.self.written c.args.self.opened led ∙ ap (λ (names : List Name). Some names) c.requires
