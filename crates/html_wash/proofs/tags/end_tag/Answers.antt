use Rattle.html_wash.proofs.Writing.{nothing_wrote, wrote_same, end_unlisted}
use Rattle.html_wash.proofs.tags.end_tag.Goals as goal

pub returns-in-None : goal.returns-in-None
returns-in-None c = wrote_same _ _ _ _ _ _ (end_unlisted c.args.opened.now _ c.in-None.ensures) (nothing_wrote c.args.opened.now _ c.args.out.now c.requires)
