use Rattle.std.proofs.Common.{sym, ◌∙◌}
use Rattle.http_heads.proofs.Framings.{length_is_text, length_not_refused, length_read}
use Rattle.http_heads.proofs.framing.parse_length.Goals as goal

pub returns-in_default : goal.returns-in_default
returns-in_default c = absurd (c.in_default.ensures.cases.0 (length_is_text c.args.text.now (sym c.is_length.ensures ∙ c.if-not-is_length.false)))

pub returns-in-Ok-parse : goal.returns-in-Ok-parse
returns-in-Ok-parse c =
    length_read c.args.text.now c.in-Ok.text.now c.parse.result c.in-Ok-parse.len (sym c.is_length.ensures ∙ c.if-not-is_length.false) c.in-Ok.ensures.cases.0 c.parse.ensures.value.0 c.in-Ok-parse.is

pub returns-in-Err : goal.returns-in-Err
returns-in-Err c =
    absurd (length_not_refused c.args.text.now c.in-Ok.text.now c.parse.result c.in-Err.field-0 (sym c.is_length.ensures ∙ c.if-not-is_length.false) c.in-Ok.ensures.cases.0 c.parse.ensures.value.0 c.in-Err.is)
