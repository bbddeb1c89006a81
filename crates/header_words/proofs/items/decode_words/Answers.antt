use Rattle.std.proofs.Common.{sym, ap, ◌∙◌}
use Rattle.std.specs.List.{list_any}
use Rattle.header_words.specs.EncodedWords.{is_question}
use Rattle.header_words.proofs.ItemLemmas.{plain_value}
use Rattle.header_words.proofs.items.decode_words.Goals as goal

pub returns-else-has_question : goal.returns-else-has_question
returns-else-has_question c = plain_value c.args.value.items (ap (list_any is_question) (sym c.deref.ensures.value) ∙ sym c.if-has_question.ensures)
