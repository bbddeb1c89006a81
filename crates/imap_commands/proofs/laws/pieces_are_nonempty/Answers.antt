use Rattle.imap_commands.proofs.NonemptyLemmas.{command_pieces_nonempty}
use Rattle.imap_commands.proofs.laws.pieces_are_nonempty.Goals as goal

pub returns : goal.returns
returns c = command_pieces_nonempty
