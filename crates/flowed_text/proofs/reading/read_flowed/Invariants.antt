use Rattle.std.proofs.Common.{◌≡◌, ◌++◌, length}
use Rattle.flowed_text.specs.Paragraphs.{paras_of}
use Rattle.flowed_text.proofs.reading.read_flowed.Given as goal

abbrev pub invariant-loop-paras : goal.invariant-loop-paras
invariant-loop-paras l = l.paras.items ++ l.unread ≡ paras_of l.text l.del_sp

abbrev pub decreases-loop-paras : goal.decreases-loop-paras
decreases-loop-paras l = length l.unread
