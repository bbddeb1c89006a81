use Rattle.std.proofs.Common.{◌∙◌, ap, take, drop}
use Rattle.folder_pages.proofs.Lists.{slice_of_page}
use Rattle.folder_pages.proofs.tables.on_page.Goals as goal

pub returns : goal.returns
returns g c =
    slice_of_page c.args.items.now c.rows_before.result 50 c.min-start.result c.min-end.result c.min-start.ensures c.min-end.ensures
    ∙ ap (λ n. take 50 (drop n c.args.items.now)) c.rows_before.ensures
