use Rattle.std.proofs.Common.{true, codes}
use Rattle.page_frames.specs.Paths.{draft_path, send_path}
use Rattle.form_pages.specs.Compose.{compose_page, draft_form}
use Rattle.form_pages.proofs.Frame.{compose_frame}
use Rattle.form_pages.proofs.Written.{two_parts_are_frame}
use Rattle.form_pages.proofs.compose.compose_page.Goals as goal

pub finish_page-requires-clause-frame : goal.finish_page-requires-clause-frame
unfolding compose_page
finish_page-requires-clause-frame c =
    two_parts_are_frame c.new-out.result c.open_page.new.out c.write_heading.new.out c.write_draft_form.new.out c.write_draft_form-2.new.out c.close_page.new.out (codes "Compose") true
    (draft_form send_path c.args.key.now c.args.fields.now (codes "Send")) (draft_form draft_path c.args.key.now c.args.fields.now (codes "Save draft")) _ _ _ _ _
    c.new-out.ensures.written c.in_ok-open_page.ensures c.in_ok-write_heading.ensures c.in_ok-write_draft_form.ensures c.in_ok-write_draft_form-2.ensures c.in_ok-close_page.ensures (compose_frame c.args.key.now c.args.fields.now)
