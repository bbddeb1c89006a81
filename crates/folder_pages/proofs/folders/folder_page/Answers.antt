use Rattle.folder_pages.proofs.FolderFrame.{written_frame}
use Rattle.folder_pages.proofs.folders.folder_page.Goals as goal

pub finish_page-requires-clause-frame : goal.finish_page-requires-clause-frame
finish_page-requires-clause-frame c =
    written_frame c.new-out.result c.open_list.new.out c.write_items.new.out c.close_list.new.out c.args.folders.now _ _ _ c.new-out.ensures.written
    c.in_ok-open_list.ensures (rw (c.deref.ensures.value, c.in_ok-order.ensures) at c.in_ok-write_items.ensures) c.in_ok-close_list.ensures
