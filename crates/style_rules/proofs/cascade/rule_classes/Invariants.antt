use Rattle.std.proofs.Common.{take, map}
use Rattle.style_rules.specs.Seen.{rule_seen}
use Rattle.style_rules.specs.Steps.{AreKnown}
use Rattle.style_rules.proofs.cascade.rule_classes.Given as goal

abbrev pub invariant-loop-rule : goal.invariant-loop-rule
invariant-loop-rule l = AreKnown l.known (map rule_seen (take l.rule-index l.rules))
