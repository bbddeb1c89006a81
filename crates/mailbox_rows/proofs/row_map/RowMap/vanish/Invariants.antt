use Rattle.std.proofs.Common.{◌≡◌, length}
use Rattle.imap_commands.specs.UidSets.{contains_uid}
use Rattle.mailbox_rows.specs.Rows.{without}
use Rattle.mailbox_rows.proofs.row_map.RowMap.vanish.Given as goal

abbrev pub invariant-loop-rest : goal.invariant-loop-rest
invariant-loop-rest l = without (λ uid. contains_uid uid l.rest) l.self ≡ without (λ uid. contains_uid uid l.set) l.initial.self

abbrev pub decreases-loop-rest : goal.decreases-loop-rest
decreases-loop-rest l = length l.rest
