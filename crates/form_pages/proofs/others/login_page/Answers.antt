use Rattle.std.proofs.Common.{false, codes}
use Rattle.form_pages.specs.Others.{login_form, login_page}
use Rattle.form_pages.proofs.Frame.{login_frame}
use Rattle.form_pages.proofs.Written.{page_is_frame}
use Rattle.form_pages.proofs.others.login_page.Goals as goal

pub finish_page-requires-clause-frame : goal.finish_page-requires-clause-frame
unfolding login_page
finish_page-requires-clause-frame c =
    page_is_frame c.new-out.result c.open_page.new.out c.write_heading.new.out c.write_login_form.new.out c.close_page.new.out (codes "Login") false login_form _ _ _ _
    c.new-out.ensures.written c.in_ok-open_page.ensures c.in_ok-write_heading.ensures c.in_ok-write_login_form.ensures c.in_ok-close_page.ensures login_frame
