use Rattle.std.proofs.Common.{◌≡◌, ◌-◌, ◌≤◌, drop, length}
use Rattle.header_words.specs.Fields.{first_of}
use Rattle.header_words.proofs.header.Fields.first.Given as goal

abbrev pub invariant-loop-at : goal.invariant-loop-at
invariant-loop-at l = (l.at ≤ length l.self.fields) × (first_of l.name l.self.fields ≡ first_of l.name (drop l.at l.self.fields))

abbrev pub decreases-loop-at : goal.decreases-loop-at
decreases-loop-at l = length l.self.fields - l.at
