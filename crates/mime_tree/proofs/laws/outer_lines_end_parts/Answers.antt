use Rattle.mime_tree.proofs.ClearLaws as laws
use Rattle.mime_tree.proofs.laws.outer_lines_end_parts.Goals as goal

pub returns : goal.returns
returns c = laws.outer_lines_end_parts
