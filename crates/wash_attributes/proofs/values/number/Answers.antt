use Rattle.std.proofs.Common.{sym, ◌∙◌}
use Rattle.html_rules.specs.Values.{is_number}
use Rattle.wash_attributes.proofs.AsciiValues.{number_as_bytes, kept_value, dropped_value}
use Rattle.wash_attributes.proofs.values.number.Goals as goal

pub returns-in_ok-from_str : goal.returns-in_ok-from_str
returns-in_ok-from_str c = kept_value is_number c.args.value.now c.trim-text.result.now _ (number_as_bytes c.args.value.now c.utf8.value) c.trim-text.ensures (sym c.is_number.ensures ∙ c.if-is_number.true) c.in_ok-from_str.ensures.ok

pub returns-else-is_number : goal.returns-else-is_number
returns-else-is_number c = dropped_value is_number c.args.value.now c.trim-text.result.now (number_as_bytes c.args.value.now c.utf8.value) c.trim-text.ensures (sym c.is_number.ensures ∙ c.if-is_number.false)
