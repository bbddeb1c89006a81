use Rattle.std.proofs.Common.{◌≡◌, drop}
use Rattle.imap_values.specs.Dates.{match_marks}
use Rattle.imap_values.proofs.dates.has_shape.Given as goal

abbrev pub invariant-loop-i : goal.invariant-loop-i
invariant-loop-i l = match_marks (drop l.i l.marks) (drop l.i l.text) ≡ match_marks l.marks l.text
