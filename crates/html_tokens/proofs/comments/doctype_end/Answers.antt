use Rattle.html_tokens.proofs.CommentRuns.{doctype_ends}
use Rattle.html_tokens.proofs.comments.doctype_end.Goals as goal

pub returns-clause-reads : goal.returns-clause-reads
returns-clause-reads c =
    let e = c.cut_at_byte.ensures in
    doctype_ends c.args.rest.now c.cut_at_byte.result.len c.cut_at_byte.result.end c.utf8.rest e.len e.lacks e.ends
