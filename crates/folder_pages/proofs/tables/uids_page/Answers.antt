use Rattle.std.specs.List.{flat_map}
use Rattle.folder_pages.specs.Tables.{list_row}
use Rattle.folder_pages.proofs.Frame.{written_frame, list_frame}
use Rattle.folder_pages.proofs.tables.uids_page.Goals as goal

pub finish_page-requires-clause-frame : goal.finish_page-requires-clause-frame
finish_page-requires-clause-frame c =
    let folder = c.args.folder.now in
    let rows = c.args.rows.now in
    written_frame c.new-out.result c.open_table.new.out c.write_list_rows.new.out c.close_table.new.out folder (flat_map (list_row folder c.args.validity rows) c.args.uids.now) c.args.page c.args.items _ _ _ c.new-out.ensures.written
    c.in_ok-open_table.ensures c.in_ok-write_list_rows.ensures c.in_ok-close_table.ensures (list_frame folder c.args.validity rows c.args.uids.now c.args.page c.args.items)
