use denote.Shadow.{shadow}
use denote.Text.{Utf8}
use Rattle.std.proofs.Common.{length}
use Rattle.style_rules.specs.Rules.{rules, with_rules}
use Rattle.style_rules.proofs.RuleSteps.{IsReading}
use Rattle.style_rules.proofs.rules.Rules.read.Given as goal

abbrev pub invariant-loop-block : goal.invariant-loop-block
invariant-loop-block l = record {
  utf8 : shadow (Utf8 l.rest);
  reading : IsReading l.self l.rest (with_rules l.initial.self (rules l.text));
}

abbrev pub decreases-loop-block : goal.decreases-loop-block
decreases-loop-block l = length l.rest
