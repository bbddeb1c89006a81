use Rattle.std.proofs.Common.{◌≡◌, length}
use Rattle.std.specs.Prelude.{find}
use Rattle.std.specs.Str.{str_eq_ignore_ascii_case}
use Rattle.style_rules.specs.Seen.{texts_seen}
use Rattle.style_rules.proofs.selectors.find_ignore_case.Given as goal

abbrev pub invariant-loop-rest : goal.invariant-loop-rest
invariant-loop-rest l = find (str_eq_ignore_ascii_case l.name) (texts_seen l.rest) ≡ find (str_eq_ignore_ascii_case l.name) (texts_seen l.texts)

abbrev pub decreases-loop-rest : goal.decreases-loop-rest
decreases-loop-rest l = length l.rest
