use Rattle.std.proofs.Common.{sym}
use Rattle.thread_references.proofs.RewritingLemmas.{pruned-rewrite}
use Rattle.thread_references.proofs.laws.pruning_is_rewriting.Goals as goal

pub returns : goal.returns
returns c = λ is_message trees. sym (pruned-rewrite is_message trees)
