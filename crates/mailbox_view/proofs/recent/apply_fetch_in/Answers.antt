use Rattle.std.proofs.Common.{rules}
use Rattle.mailbox_view.proofs.FolderLemmas.{fetch_past}
use Rattle.mailbox_view.proofs.recent.apply_fetch_in.Goals as goal

pub returns-else-n-len : goal.returns-else-n-len
returns-else-n-len c = fetch_past c.args.n c.args.uid c.args.fields c.args.folders.now.items (search rules)
