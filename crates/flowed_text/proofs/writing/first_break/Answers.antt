use Rattle.std.proofs.Common.{sym, length, arith}
use Rattle.flowed_text.specs.Flow.{may_break}
use Rattle.flowed_text.proofs.Breaks.{least-first}
use Rattle.flowed_text.proofs.writing.first_break.Goals as goal

pub returns-then-may_break : goal.returns-then-may_break
returns-then-may_break c =
    least-first (may_break c.args.bytes.now) c.loop-i.i (length c.args.bytes.now) c.loop-i.invariant (sym c.if-may_break.ensures) (omega arith)
