use Rattle.std.proofs.Common.{rules}
use Rattle.imap_commands.specs.UidSets.{contains_uid}
use Rattle.mailbox_rows.specs.Rows.{without}
use Rattle.mailbox_rows.specs.Mailboxes.{with_rows}
use Rattle.mailbox_view.proofs.FolderLemmas.{past_at}
use Rattle.mailbox_view.proofs.recent.vanish_at.Goals as goal

pub returns-else-n-len : goal.returns-else-n-len
returns-else-n-len c = past_at c.args.place c.in-Some.n (λ box. with_rows box (without (λ uid. contains_uid uid c.args.set.now) box.rows)) c.args.folders.now.items c.in-Some.is (search rules)
