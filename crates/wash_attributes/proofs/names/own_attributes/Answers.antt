use Rattle.std.proofs.Common.{◌++◌, sym, ap, ◌∙◌}
use Rattle.html_syntax.specs.Tokenizer.{is_among}
use Rattle.html_rules.specs.Tables.{common_attributes, attribute_rows}
use Rattle.wash_attributes.specs.Listed.{are_words}
use Rattle.wash_attributes.proofs.Rows.{listed_in_row, words_in_row}
use Rattle.wash_attributes.proofs.names.own_attributes.Goals as goal

pub returns-clause-listed : goal.returns-clause-listed
unfolding attribute_rows
returns-clause-listed c name = listed_in_row c.args.element.now name ∙ ap (λ names. is_among (common_attributes ++ names) name) (sym c.attributes_in.ensures)

pub returns-clause-words : goal.returns-clause-words
unfolding attribute_rows
returns-clause-words c = ap are_words c.attributes_in.ensures ∙ words_in_row c.args.element.now
