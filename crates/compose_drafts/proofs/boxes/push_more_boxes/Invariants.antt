use Rattle.std.proofs.Common.{◌≡◌, ◌++◌, take}
use Rattle.std.specs.List.{flat_map}
use Rattle.compose_drafts.specs.Texts.{next_box}
use Rattle.compose_drafts.proofs.boxes.push_more_boxes.Given as goal

abbrev pub invariant-loop-one : goal.invariant-loop-one
invariant-loop-one l = l.out.items ≡ l.initial.out.items ++ flat_map next_box (take l.one-index l.boxes)
