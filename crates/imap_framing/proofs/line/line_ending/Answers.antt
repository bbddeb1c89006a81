use Rattle.imap_framing.proofs.LineLemmas.{line_of_no_size}
use Rattle.imap_framing.proofs.line.line_ending.Goals as goal

pub returns-in-None : goal.returns-in-None
returns-in-None c = line_of_no_size c.args.first c.args.line.now c.in-None.ensures
