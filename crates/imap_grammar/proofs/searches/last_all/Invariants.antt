use Rattle.std.proofs.Common.{◌≡◌, ◌-◌, length, None}
use Rattle.imap_values.specs.Slices.{slice_of}
use Rattle.imap_grammar.specs.Searches.{last_all_at}
use Rattle.imap_grammar.proofs.searches.last_all.Given as goal

abbrev pub invariant-loop : goal.invariant-loop
invariant-loop l = last_all_at (length l.bytes - l.counter) (slice_of l.found) l.left ≡ last_all_at (length l.bytes) None l.bytes
