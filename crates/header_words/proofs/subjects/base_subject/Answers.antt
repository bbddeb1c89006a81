use Rattle.std.proofs.Common.{rules}
use Rattle.header_words.proofs.SubjectText.{lossless}
use Rattle.header_words.proofs.subjects.base_subject.Goals as goal

pub returns-clause-text : goal.returns-clause-text
returns-clause-text c = lossless c.args.subject.now c.from_string.result c.utf8.subject (search rules)
