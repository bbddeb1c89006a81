use Rattle.std.proofs.Common.{◌≡◌, ◌++◌, drop, true}
use Rattle.submission.proofs.Stuffing.{written}
use Rattle.submission.proofs.message.dotted.Given as goal

abbrev pub invariant-loop-byte : goal.invariant-loop-byte
invariant-loop-byte l = written true l.message ≡ l.out.items ++ written l.begins_line (drop l.byte-index l.message)
