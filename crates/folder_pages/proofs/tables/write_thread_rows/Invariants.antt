use Rattle.std.proofs.Common.{◌≡◌, take}
use Rattle.std.specs.List.{flat_map}
use Rattle.page_frames.specs.Elements.{with_tokens}
use Rattle.folder_pages.specs.Tables.{thread_row}
use Rattle.folder_pages.proofs.tables.write_thread_rows.Given as goal

abbrev pub invariant-loop-entry : goal.invariant-loop-entry
invariant-loop-entry l = l.out ≡ with_tokens l.initial.out (flat_map (thread_row l.folder l.validity l.rows) (take l.entry-index l.flat)) l.initial.out.opened
