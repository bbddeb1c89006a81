use Rattle.std.proofs.Common.{◌≡◌, ◌≤◌, ◌+◌, ◌-◌, length}
use Rattle.std.specs.Io.KnownBytes.{Consumes}
use Rattle.mail_io.proofs.stream.read_to_end.Given as goal

abbrev pub invariant-loop-chunk : goal.invariant-loop-chunk
invariant-loop-chunk g l = record {
  within : length l.bytes.items ≤ l.limit + 1;
  taken : Consumes (g.R.Source.left l.initial.source) (g.R.Source.left l.source) l.bytes.items;
  kept : g.R.Source.faults l.source ≡ g.R.Source.faults l.initial.source;
}

abbrev pub decreases-loop-chunk : goal.decreases-loop-chunk
decreases-loop-chunk g l = l.limit + 1 - length l.bytes.items
