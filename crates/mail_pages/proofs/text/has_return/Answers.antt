use Rattle.mail_pages.proofs.LineFeeds.{no_return}
use Rattle.mail_pages.proofs.text.has_return.Goals as goal

pub returns : goal.returns
returns c = no_return c.args.text.now c.as_bytes.result.now c.memchr.result c.is_some.result c.as_bytes.ensures.value c.memchr.ensures c.is_some.ensures
