use Rattle.mime_tree.proofs.TreeLaws as laws
use Rattle.mime_tree.proofs.laws.nothing_waits.Goals as goal

pub returns : goal.returns
returns c = laws.nothing_waits
