use Rattle.std.proofs.Common.{◌≡◌, None}
use Rattle.flowed_text.specs.Flow.{least, may_break}
use Rattle.flowed_text.proofs.writing.first_break.Given as goal

abbrev pub invariant-loop-i : goal.invariant-loop-i
invariant-loop-i l = least (may_break l.bytes) l.i ≡ None
