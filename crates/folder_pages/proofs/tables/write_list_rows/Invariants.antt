use Rattle.std.proofs.Common.{◌≡◌, take}
use Rattle.std.specs.List.{flat_map}
use Rattle.page_frames.specs.Elements.{with_tokens}
use Rattle.folder_pages.specs.Tables.{list_row}
use Rattle.folder_pages.proofs.tables.write_list_rows.Given as goal

abbrev pub invariant-loop-uid : goal.invariant-loop-uid
invariant-loop-uid l = l.out ≡ with_tokens l.initial.out (flat_map (list_row l.folder l.validity l.rows) (take l.uid-index l.uids)) l.initial.out.opened
