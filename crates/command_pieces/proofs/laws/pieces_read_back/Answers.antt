use Rattle.command_pieces.proofs.ReadLemmas.{commands_read}
use Rattle.command_pieces.proofs.laws.pieces_read_back.Goals as goal

pub returns : goal.returns
returns c = commands_read
