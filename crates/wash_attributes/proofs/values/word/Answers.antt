use Rattle.std.proofs.Common.{sym, ◌∙◌}
use Rattle.html_rules.specs.Values.{is_word}
use Rattle.wash_attributes.proofs.AsciiValues.{word_as_bytes, kept_value, dropped_value}
use Rattle.wash_attributes.proofs.values.word.Goals as goal

pub returns-in_ok-from_str : goal.returns-in_ok-from_str
returns-in_ok-from_str c = kept_value is_word c.args.value.now c.trim-text.result.now _ (word_as_bytes c.args.value.now c.utf8.value) c.trim-text.ensures (sym c.is_word.ensures ∙ c.if-is_word.true) c.in_ok-from_str.ensures.ok

pub returns-else-is_word : goal.returns-else-is_word
returns-else-is_word c = dropped_value is_word c.args.value.now c.trim-text.result.now (word_as_bytes c.args.value.now c.utf8.value) c.trim-text.ensures (sym c.is_word.ensures ∙ c.if-is_word.false)
