use Rattle.std.proofs.Common.{sym, ◌∙◌}
use Rattle.header_words.proofs.SubjectLemmas.{begins_is, begins_len}
use Rattle.header_words.proofs.subjects.begins_with.Goals as goal

pub returns-clause-equals : goal.returns-clause-equals
returns-clause-equals c = c.is_same.ensures ∙ begins_is c.min.result c.args.word.now c.args.text.now c.min.ensures

pub returns-clause-within : goal.returns-clause-within
returns-clause-within c = λ e. begins_len c.args.word.now c.args.text.now (sym (c.is_same.ensures ∙ begins_is c.min.result c.args.word.now c.args.text.now c.min.ensures) ∙ e)
