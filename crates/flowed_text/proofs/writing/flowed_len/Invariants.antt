use Rattle.std.proofs.Common.{◌≡◌, ◌+◌, length, take}
use Rattle.flowed_text.specs.Flow.{flow}
use Rattle.flowed_text.proofs.writing.flowed_len.Given as goal

abbrev pub invariant-loop-para : goal.invariant-loop-para
invariant-loop-para l = l.left + length (flow (take l.para-index l.paras)) ≡ 67108864
