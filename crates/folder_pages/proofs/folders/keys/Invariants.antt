use Rattle.std.proofs.Common.{◌≡◌, map, take}
use Rattle.folder_pages.specs.Folders.{key_of, keys_from}
use Rattle.folder_pages.proofs.folders.keys.Given as goal

abbrev pub invariant-loop-place : goal.invariant-loop-place
invariant-loop-place l = map key_of l.keys.items ≡ keys_from 0 (take l.place l.folders)
