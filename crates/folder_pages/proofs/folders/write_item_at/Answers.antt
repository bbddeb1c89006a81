use Rattle.std.proofs.Common.{refl, append-nil}
use Rattle.folder_pages.proofs.Lists.{none_past}
use Rattle.folder_pages.proofs.folders.write_item_at.Goals as goal

pub returns-in-None : goal.returns-in-None
returns-in-None c = rw (none_past c.args.folders.now c.args.place c.in-None.ensures.lookup.3, append-nil) refl
