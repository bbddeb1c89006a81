use Rattle.std.proofs.Common.{◌≡◌, ◌+◌, drop}
use Rattle.std.specs.List.{prefix_len}
use Rattle.mailbox_view.specs.Selections.{is_other}
use Rattle.mailbox_view.proofs.recent.place_of.Given as goal

abbrev pub invariant-loop-i : goal.invariant-loop-i
invariant-loop-i l = l.i + prefix_len (is_other l.name) (drop l.i l.folders) ≡ prefix_len (is_other l.name) l.folders
