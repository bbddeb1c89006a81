use Rattle.std.proofs.Common.{length}
use Rattle.bench.proofs.responses.take_all.Given as goal

abbrev pub invariant-loop-reader : goal.invariant-loop-reader
invariant-loop-reader l = Unit {0}

abbrev pub decreases-loop-reader : goal.decreases-loop-reader
decreases-loop-reader l = length l.reader.cut.rest
