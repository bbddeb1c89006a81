use Rattle.std.proofs.Common.{◌≡◌, ◌≤◌, length, map}
use Rattle.std.specs.List.{slice_split}
use Rattle.style_wash.specs.Characters.{is_comma}
use Rattle.style_wash.specs.Declarations.{declarations}
use Rattle.style_rules.specs.Rules.{entry_of, with_rules}
use Rattle.style_rules.proofs.RuleSteps.{texts_rules}
use Rattle.style_rules.proofs.rules.Rules.add_rules.Given as goal

abbrev pub invariant-selectors : goal.invariant-selectors
invariant-selectors l = record {
  whole : with_rules l.self (texts_rules (map entry_of (declarations l.style)) (slice_split is_comma l.rest))
      ≡ with_rules l.initial.self (texts_rules (map entry_of (declarations l.style)) (slice_split is_comma l.prelude));
  short : length l.rest ≤ length l.prelude;
}

abbrev pub decreases-selectors : goal.decreases-selectors
decreases-selectors l = length l.rest
