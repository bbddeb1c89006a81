use Rattle.std.proofs.Common.{◌≡◌, length}
use Rattle.mailbox_view.specs.Selections.{box_named}
use Rattle.mailbox_view.proofs.recent.find.Given as goal

abbrev pub invariant-loop-rest : goal.invariant-loop-rest
invariant-loop-rest l = box_named l.name l.rest ≡ box_named l.name l.folders

abbrev pub decreases-loop-rest : goal.decreases-loop-rest
decreases-loop-rest l = length l.rest
