use Rattle.std.proofs.Common.{rules}
use Rattle.mailbox_rows.specs.Mailboxes.{raised}
use Rattle.mailbox_view.proofs.FolderLemmas.{past_at}
use Rattle.mailbox_view.proofs.recent.raise_mark_at.Goals as goal

pub returns-else-n-len : goal.returns-else-n-len
returns-else-n-len c = past_at c.args.place c.in-Some.n (raised c.args.mark) c.args.folders.now.items c.in-Some.is (search rules)
