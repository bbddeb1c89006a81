use Rattle.command_pieces.proofs.VerbLemmas.{verbs_named}
use Rattle.command_pieces.proofs.laws.first_pieces_name_verbs.Goals as goal

pub returns : goal.returns
returns c = verbs_named
