use Rattle.std.proofs.Common.{lit<}
use Rattle.mail_pages.proofs.LineFeeds.{first_part, second_part, third_part, none_part}
use Rattle.mail_pages.proofs.text.cut.Goals as goal

pub returns : goal.returns
returns c = record {
  line = first_part c.split_once.result _ _ _ _ (c.split_once.ensures.byte (lit< tt) (λ w o f. f));
  after = second_part c.split_once.result _ _ _ _ (c.split_once.ensures.byte (lit< tt) (λ w o f. f));
  found = third_part c.split_once.result _ _ _ _ (c.split_once.ensures.byte (lit< tt) (λ w o f. f));
  none = none_part c.split_once.result _ _ _ _ (c.split_once.ensures.byte (lit< tt) (λ w o f. f));
}
