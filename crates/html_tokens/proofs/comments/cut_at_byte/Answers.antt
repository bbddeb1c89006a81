use Rattle.html_tokens.proofs.Marks.{past_mark}
use Rattle.html_tokens.proofs.comments.cut_at_byte.Goals as goal

pub returns-then-len-rest-clause-end : goal.returns-then-len-rest-clause-end
returns-then-len-rest-clause-end c = past_mark c.args.byte c.requires c.args.rest.now c.skip_to_byte-len.result c.utf8.rest c.if-len-rest.true c.skip_to_byte-len.ensures.begins
