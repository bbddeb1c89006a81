use Rattle.std.proofs.Common.{decimal}
use Rattle.form_pages.specs.Others.{fault, fault_page}
use Rattle.form_pages.proofs.Frame.{fault_page_frame}
use Rattle.form_pages.proofs.Written.{page_is_frame}
use Rattle.form_pages.proofs.others.fault_page.Goals as goal

pub finish_page-requires-clause-frame : goal.finish_page-requires-clause-frame
unfolding fault_page
finish_page-requires-clause-frame c =
    page_is_frame c.new-out.result c.open_page.new.out c.write_heading.new.out c.write_fault.new.out c.close_page.new.out (decimal c.args.status) c.args.session (fault c.args.text.now) _ _ _ _
    c.new-out.ensures.written (rw c.format-title.ensures.text at c.in_ok-open_page.ensures) (rw c.format-title.ensures.text at c.in_ok-write_heading.ensures) c.in_ok-write_fault.ensures c.in_ok-close_page.ensures (fault_page_frame c.args.status c.args.text.now c.args.session)
