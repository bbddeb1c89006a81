use Rattle.std.proofs.Common.{◌≡◌, ◌++◌, map, take}
use Rattle.submission.specs.Script.{recipient_step}
use Rattle.submission.proofs.steps.push_recipients.Given as goal

abbrev pub invariant-loop-address : goal.invariant-loop-address
invariant-loop-address l = l.steps.items ≡ l.fn.steps.items ++ map recipient_step (take l.address-index l.to)
