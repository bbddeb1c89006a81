use Rattle.imap_commands.proofs.ReadingLemmas.{end_once}
use Rattle.imap_commands.proofs.laws.no_command_is_prefix.Goals as goal

pub returns : goal.returns
returns c = end_once
