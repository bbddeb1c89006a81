use Rattle.mail_pages.proofs.Safe.{safe}
use Rattle.mail_pages.proofs.Offers.{offers_change}
use Rattle.mail_pages.proofs.show.show_page.Goals as goal

pub returns-clause-is_safe : goal.returns-clause-is_safe
returns-clause-is_safe c = safe c.args.frame.now c.args.message.now c.args.part.now c.args.images c.in_ok-message_page.field-0 c.in_ok-message_page.ensures.bytes c.in_ok-message_page.ensures.reads c.in_ok-message_page.ensures.nested

pub returns-clause-offers_change_what_is_shown : goal.returns-clause-offers_change_what_is_shown
returns-clause-offers_change_what_is_shown c = offers_change c.args.frame.now c.args.message.now c.args.part.now c.args.images
