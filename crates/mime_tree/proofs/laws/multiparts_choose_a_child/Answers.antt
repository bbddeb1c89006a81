use Rattle.mime_tree.proofs.ShownLaws as laws
use Rattle.mime_tree.proofs.laws.multiparts_choose_a_child.Goals as goal

pub returns : goal.returns
returns c = laws.gives_leaf_to_show
