use Rattle.std.proofs.Common.{◌≡◌, ◌≤◌, ◌+◌, not, take, length}
use Rattle.std.specs.List.{suffix_len}
use Rattle.style_rules.specs.Rules.{is_semicolon}
use Rattle.style_rules.proofs.rules.last_statement.Given as goal

abbrev pub invariant-loop-start : goal.invariant-loop-start
invariant-loop-start l = record {
  suffix : length l.prelude + suffix_len (λ c. not (is_semicolon c)) (take l.start l.prelude) ≡ l.start + suffix_len (λ c. not (is_semicolon c)) l.prelude;
  within : l.start ≤ length l.prelude;
}

abbrev pub decreases-loop-start : goal.decreases-loop-start
decreases-loop-start l = l.start
