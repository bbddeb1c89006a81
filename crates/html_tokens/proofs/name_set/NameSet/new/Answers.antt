use Rattle.html_tokens.proofs.NameSets.{has_none}
use Rattle.html_tokens.proofs.name_set.NameSet.new.Goals as goal

pub returns : goal.returns
returns c = has_none _ c.new.ensures.items c.new-2.ensures.empty c.new-3.ensures.empty
