use Rattle.std.proofs.Common.{◌≡◌, length, map}
use Rattle.std.specs.Borrow.{Bor}
use Rattle.style_rules.specs.Cascade.{has_property}
use Rattle.style_rules.specs.Seen.{entry_seen}
use Rattle.style_rules.specs.declared.entries.Entry.{Entry as CodeEntry}
use Rattle.style_rules.proofs.cascade.has_property.Given as goal

abbrev pub invariant-loop-rest : goal.invariant-loop-rest
invariant-loop-rest l = has_property l.property (map (λ (e : Bor CodeEntry). entry_seen e.now) l.rest) ≡ has_property l.property (map (λ (e : Bor CodeEntry). entry_seen e.now) l.last)

abbrev pub decreases-loop-rest : goal.decreases-loop-rest
decreases-loop-rest l = length l.rest
