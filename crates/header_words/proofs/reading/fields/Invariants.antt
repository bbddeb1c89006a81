use Rattle.std.proofs.Common.{◌≡◌, ◌-◌, length}
use Rattle.header_words.specs.Places.{letters_at}
use Rattle.header_words.proofs.Scan.{Scanned}
use Rattle.header_words.proofs.reading.fields.Given as goal

abbrev pub invariant-loop-at : goal.invariant-loop-at
invariant-loop-at l = Scanned l.bytes l.at l.starts.items × (l.letters.items ≡ letters_at l.bytes l.starts.items)

abbrev pub decreases-loop-at : goal.decreases-loop-at
decreases-loop-at l = length l.bytes - l.at
