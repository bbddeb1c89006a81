use Rattle.std.proofs.Common.{◌≡◌, length}
use Rattle.imap_commands.specs.UidSets.{in_range}
use Rattle.mailbox_rows.specs.Rows.{without}
use Rattle.mailbox_rows.proofs.row_map.RowMap.vanish_range.Given as goal

abbrev pub invariant-loop-uid : goal.invariant-loop-uid
invariant-loop-uid l = without (λ uid. in_range uid l.range) l.self ≡ without (λ uid. in_range uid l.range) l.initial.self

abbrev pub decreases-loop-uid : goal.decreases-loop-uid
decreases-loop-uid l = length l.self
