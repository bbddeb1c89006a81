use Rattle.std.proofs.Common.{sym, ◌∙◌, arith}
use Rattle.header_words.proofs.SubjectLemmas.{leader_space, no_leader, leader_mark}
use Rattle.header_words.proofs.subjects.strip_leader.Goals as goal

pub returns-then-starts_with : goal.returns-then-starts_with
returns-then-starts_with c = leader_space c.args.part.reply c.args.part.text.now (sym c.starts_with.ensures.value ∙ c.if-starts_with.true)

pub returns-else-len-gt0 : goal.returns-else-len-gt0
returns-else-len-gt0 c = no_leader c.args.part.text.now (sym c.starts_with.ensures.value ∙ c.if-starts_with.false) (sym c.marked_len-len.ensures.equals ∙ omega arith)

pub returns-then-len-gt0 : goal.returns-then-len-gt0
returns-then-len-gt0 c = leader_mark c.marked_len-len.result c.args.part.reply c.args.part.text.now (sym c.starts_with.ensures.value ∙ c.if-starts_with.false) c.marked_len-len.ensures.equals c.if-len-gt0.true
