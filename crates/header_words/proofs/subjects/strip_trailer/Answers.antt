use Rattle.std.proofs.Common.{sym, ◌∙◌}
use Rattle.header_words.proofs.SubjectLemmas.{trailing_space, trailing_mark, no_back}
use Rattle.header_words.proofs.subjects.strip_trailer.Goals as goal

pub returns-then-ends_with : goal.returns-then-ends_with
returns-then-ends_with c = trailing_space c.args.part.reply c.args.part.text.now (c.ends_with.ensures.bound c.if-ends_with.true) (sym c.ends_with.ensures.value ∙ c.if-ends_with.true)

pub returns-then-has_trailer : goal.returns-then-has_trailer
returns-then-has_trailer c = trailing_mark c.args.part.reply c.args.part.text.now (c.has_trailer.ensures.within c.if-has_trailer.true) (sym c.ends_with.ensures.value ∙ c.if-ends_with.false) (sym c.has_trailer.ensures.equals ∙ c.if-has_trailer.true)

pub returns-else-has_trailer : goal.returns-else-has_trailer
returns-else-has_trailer c = no_back c.args.part.text.now (sym c.ends_with.ensures.value ∙ c.if-ends_with.false) (sym c.has_trailer.ensures.equals ∙ c.if-has_trailer.false)
