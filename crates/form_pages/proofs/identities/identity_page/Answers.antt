use Rattle.std.proofs.Common.{true, codes}
use Rattle.std.specs.List.{flat_map}
use Rattle.form_pages.specs.Identities.{free_form, free_number, identity_page, kept_form}
use Rattle.form_pages.proofs.Frame.{identity_page_frame}
use Rattle.form_pages.proofs.Written.{two_parts_are_frame}
use Rattle.form_pages.proofs.identities.identity_page.Goals as goal

pub finish_page-requires-clause-frame : goal.finish_page-requires-clause-frame
unfolding identity_page
finish_page-requires-clause-frame c =
    two_parts_are_frame c.new-out.result c.open_page.new.out c.write_heading.new.out c.write_kept_forms.new.out c.write_free_form.new.out c.close_page.new.out (codes "Identities") true
    (flat_map (kept_form c.args.key.now) c.args.kept.now) (free_form c.args.key.now (free_number c.args.kept.now)) _ _ _ _ _
    c.new-out.ensures.written c.in_ok-open_page.ensures c.in_ok-write_heading.ensures c.in_ok-write_kept_forms.ensures (rw c.free_number.ensures at c.in_ok-write_free_form.ensures) c.in_ok-close_page.ensures (identity_page_frame c.args.key.now c.args.kept.now)
