use Rattle.mime_tree.proofs.OpensLaws as laws
use Rattle.mime_tree.proofs.laws.opens_in_tree_order.Goals as goal

pub returns : goal.returns
returns c = laws.opens_message
