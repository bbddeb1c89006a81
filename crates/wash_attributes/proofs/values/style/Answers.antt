use Rattle.std.proofs.Common.{chars, string_bytes, subst, sym, ap, ◌∙◌, IsUtf8}
use Rattle.html_rules.specs.Values.{is_empty}
use Rattle.wash_attributes.proofs.StyleTexts.{joined_is, kept_style, dropped_style}
use Rattle.wash_attributes.proofs.values.style.Goals as goal

pub returns-then-is_empty : goal.returns-then-is_empty
returns-then-is_empty c =
    dropped_style (string_bytes c.in_ok-style.style) _ (subst IsUtf8 c.as_str.ensures.value c.as_str.utf8)
    (joined_is c.args.value.now _ _ (chars c.args.declared.now) c.utf8.value c.in_ok-own.ensures.equals c.in_ok-own.ensures.characters c.in_ok-style.ensures)
    (ap is_empty (sym c.as_str.ensures.value) ∙ sym c.is_empty.ensures ∙ c.if-is_empty.true)

pub returns-else-is_empty : goal.returns-else-is_empty
returns-else-is_empty c =
    kept_style (string_bytes c.in_ok-style.style) _ (subst IsUtf8 c.as_str.ensures.value c.as_str.utf8)
    (joined_is c.args.value.now _ _ (chars c.args.declared.now) c.utf8.value c.in_ok-own.ensures.equals c.in_ok-own.ensures.characters c.in_ok-style.ensures)
    (ap is_empty (sym c.as_str.ensures.value) ∙ sym c.is_empty.ensures ∙ c.if-is_empty.false)
