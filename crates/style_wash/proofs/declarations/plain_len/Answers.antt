use Rattle.style_wash.proofs.Pieces.{plain_before}
use Rattle.style_wash.proofs.declarations.plain_len.Goals as goal

pub returns-clause-within : goal.returns-clause-within
returns-clause-within c = (plain_before c.args.text.now c.memchr3.result c.unwrap_or.result c.memchr3.ensures c.unwrap_or.ensures).0

pub returns-clause-plain : goal.returns-clause-plain
returns-clause-plain c = (plain_before c.args.text.now c.memchr3.result c.unwrap_or.result c.memchr3.ensures c.unwrap_or.ensures).1
