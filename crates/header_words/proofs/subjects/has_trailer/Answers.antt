use Rattle.std.proofs.Common.{refl, sym, ◌∙◌}
use Rattle.std.proofs.lemmas.Bool.{lt-leb}
use Rattle.header_words.proofs.SubjectLemmas.{trailer_is, no_trailer}
use Rattle.header_words.proofs.subjects.has_trailer.Goals as goal

pub returns-then-text-ge5-clause-equals : goal.returns-then-text-ge5-clause-equals
returns-then-text-ge5-clause-equals c = c.is_same.ensures ∙ trailer_is c.args.text.now _ c.if-text-ge5.true refl

pub returns-else-text-ge5-clause-equals : goal.returns-else-text-ge5-clause-equals
returns-else-text-ge5-clause-equals c = lt-leb _ _ c.if-text-ge5.false ∙ sym (no_trailer c.args.text.now c.if-text-ge5.false)
