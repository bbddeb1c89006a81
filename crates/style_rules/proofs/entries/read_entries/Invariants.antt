use Rattle.std.proofs.Common.{◌-◌, length}
use Rattle.style_rules.specs.Seen.{entries_seen}
use Rattle.style_rules.proofs.Styles.{IsLeft}
use Rattle.style_rules.proofs.entries.read_entries.Given as goal

abbrev pub invariant-entries : goal.invariant-entries
invariant-entries l = IsLeft l.style l.start (entries_seen l.entries.items)

abbrev pub decreases-entries : goal.decreases-entries
decreases-entries l = length l.style - l.start
