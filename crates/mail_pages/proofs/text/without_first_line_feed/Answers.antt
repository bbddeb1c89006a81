use lib.Utf8.{encode}
use Rattle.mail_pages.proofs.LineFeeds.{without-kept}
use Rattle.mail_pages.proofs.text.without_first_line_feed.Goals as goal

pub returns-in-None : goal.returns-in-None
unfolding encode
returns-in-None c = without-kept c.args.text.now c.in-None.ensures.cases
