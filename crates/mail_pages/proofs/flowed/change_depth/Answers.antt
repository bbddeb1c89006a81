use Rattle.mail_pages.proofs.QuoteSteps.{may_close_some, may_open_more, depth_changed}
use Rattle.mail_pages.proofs.flowed.change_depth.Goals as goal

pub close_quotes-requires : goal.close_quotes-requires
close_quotes-requires c = rw c.saturating_sub.ensures (may_close_some c.args.old c.args.new c.args.out.now.opened c.requires.quotes)

pub open_quotes-requires : goal.open_quotes-requires
open_quotes-requires c =
    may_open_more c.args.out.now c.close_quotes.new.out c.args.old c.args.new c.saturating_sub.result c.requires.quotes c.requires.tags c.saturating_sub.ensures c.in_ok-close_quotes.ensures

pub returns : goal.returns
returns c =
    depth_changed c.open_quotes.result c.args.out.now c.close_quotes.new.out c.open_quotes.new.out c.args.old c.args.new c.saturating_sub.result c.saturating_sub-2.result
    c.requires.quotes c.saturating_sub.ensures c.saturating_sub-2.ensures c.in_ok-close_quotes.ensures c.open_quotes.ensures
