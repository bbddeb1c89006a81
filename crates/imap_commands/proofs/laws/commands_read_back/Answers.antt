use Rattle.imap_commands.proofs.ReadingLemmas.{read_back}
use Rattle.imap_commands.proofs.laws.commands_read_back.Goals as goal

pub returns : goal.returns
returns c = read_back
