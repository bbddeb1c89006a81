use Rattle.header_words.specs.Fields.{is_colon}
use Rattle.header_words.proofs.WholeLines.{no_place}
use Rattle.header_words.proofs.lines.colon_of.Goals as goal

pub returns-in-None : goal.returns-in-None
returns-in-None c = no_place is_colon c.args.line.now c.in-None.ensures
