use Rattle.std.proofs.Common.{length}
use Rattle.std.specs.List.{flat_map}
use Rattle.folder_pages.specs.Tables.{on_page, thread_row}
use Rattle.folder_pages.proofs.Frame.{written_frame, thread_frame}
use Rattle.folder_pages.proofs.tables.thread_page.Goals as goal

pub finish_page-requires-clause-frame : goal.finish_page-requires-clause-frame
finish_page-requires-clause-frame c =
    let folder = c.args.folder.now in
    let rows = c.args.rows.now in
    written_frame c.new-out.result c.open_table.new.out c.write_thread_rows.new.out c.close_table.new.out folder (flat_map (thread_row folder c.args.validity rows) (on_page c.args.page c.args.flat.now)) c.args.page (length c.args.flat.now) _ _ _ c.new-out.ensures.written
    (rw c.as_str.ensures at c.in_ok-open_table.ensures) (rw (c.as_str-2.ensures, c.on_page.ensures) at c.in_ok-write_thread_rows.ensures) c.in_ok-close_table.ensures (thread_frame folder c.args.validity rows (on_page c.args.page c.args.flat.now) c.args.page (length c.args.flat.now))
