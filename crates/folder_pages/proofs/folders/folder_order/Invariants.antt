use Rattle.std.proofs.Common.{◌≡◌, map, take}
use Rattle.folder_pages.proofs.folders.folder_order.Given as goal

abbrev pub invariant-loop-key : goal.invariant-loop-key
invariant-loop-key l = l.order.items ≡ map (λ key. key.2) (take l.key-index l.key-items)
