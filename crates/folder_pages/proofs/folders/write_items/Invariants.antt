use Rattle.std.proofs.Common.{◌≡◌, take}
use Rattle.std.specs.List.{flat_map}
use Rattle.page_frames.specs.Elements.{with_tokens}
use Rattle.folder_pages.specs.Folders.{item_at}
use Rattle.folder_pages.proofs.folders.write_items.Given as goal

abbrev pub invariant-loop-place : goal.invariant-loop-place
invariant-loop-place l = l.out ≡ with_tokens l.initial.out (flat_map (item_at l.folders) (take l.place-index l.order)) l.initial.out.opened
