use Rattle.std.proofs.Common.{sym, ap, subst, ◌∙◌, chars, ◌++◌, codes, string_bytes, IsUtf8}
use Rattle.html_rules.specs.Values.{is_empty}
use Rattle.wash_attributes.proofs.StyleTexts.{join_none, join_first, join_both}
use Rattle.wash_attributes.proofs.values.join_styles.Goals as goal

pub returns-then-is_empty : goal.returns-then-is_empty
returns-then-is_empty c = join_none c.args.declared.now (string_bytes c.args.own) c.utf8.declared (sym c.is_empty.ensures ∙ c.if-is_empty.true)

pub returns-then-is_empty-2 : goal.returns-then-is_empty-2
returns-then-is_empty-2 c =
    ap chars c.in_ok-style.ensures.ok
    ∙ join_first c.args.declared.now (string_bytes c.args.own) c.utf8.declared (subst IsUtf8 c.as_str.ensures.value c.as_str.utf8) (sym c.is_empty.ensures ∙ c.if-is_empty.false)
    (ap is_empty (sym c.as_str.ensures.value) ∙ sym c.is_empty-2.ensures ∙ c.if-is_empty-2.true)

pub returns : goal.returns
returns c =
    ap chars (c.in_ok-push_str-2.ensures.bytes ∙ ap (λ b. b ++ c.as_str-2.result.now) (c.in_ok-push_str.ensures.bytes ∙ ap (λ b. b ++ codes "; ") c.in_ok-style.ensures.ok) ∙ ap (λ b. c.args.declared.now ++ codes "; " ++ b) c.as_str-2.ensures.value)
    ∙ join_both c.args.declared.now (string_bytes c.args.own) c.utf8.declared (subst IsUtf8 c.as_str.ensures.value c.as_str.utf8) (sym c.is_empty.ensures ∙ c.if-is_empty.false)
    (ap is_empty (sym c.as_str.ensures.value) ∙ sym c.is_empty-2.ensures ∙ c.if-is_empty-2.false)
