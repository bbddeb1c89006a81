use Rattle.std.proofs.Common.{◌∙◌}
use Rattle.mail_pages.proofs.Washed.{washed_html_page}
use Rattle.mail_pages.proofs.html.write_html.Goals as goal

pub returns : goal.returns
returns c =
    washed_html_page c.wash.result c.args.out.now c.wash.new.out c.args.tree.now.parts c.args.place.now c.args.images c.args.part.now _ c.deref.result.now
    c.location.ensures (c.deref.ensures ∙ c.in_ok-html.ensures) c.wash.ensures.page c.wash.ensures.opened
