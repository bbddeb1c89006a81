use Rattle.std.proofs.Common.{sym, ◌∙◌}
use Rattle.std.specs.Str.{chars}
use Rattle.wash_attributes.proofs.KeepingLemmas.{on_ok_map}
use Rattle.wash_attributes.proofs.StyleTexts.{nothing_declared, style_there, style_added}
use Rattle.wash_attributes.proofs.attributes.add_style.Goals as goal

pub returns-then-is_empty : goal.returns-then-is_empty
returns-then-is_empty c = nothing_declared c.args.declared.now c.args.attributes.now c.utf8.declared (sym c.is_empty.ensures ∙ c.if-is_empty.true)

pub returns-then-contains : goal.returns-then-contains
unfolding chars
returns-then-contains c = style_there (chars c.args.declared.now) c.args.attributes.now (sym c.contains.ensures ∙ c.if-contains.true)

pub returns : goal.returns
unfolding chars
returns c =
    on_ok_map c.push.result _ _
    (λ e. e ∙ style_added c.args.declared.now c.args.attributes.now c.utf8.declared (sym c.is_empty.ensures ∙ c.if-is_empty.false) (sym c.contains.ensures ∙ c.if-contains.false))
    c.push.ensures.appended
