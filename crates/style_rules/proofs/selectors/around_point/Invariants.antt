use Rattle.std.proofs.Common.{◌≡◌, false, take}
use Rattle.std.specs.List.{list_any}
use Rattle.style_wash.specs.Characters.{is_point}
use Rattle.style_rules.proofs.selectors.around_point.Given as goal

abbrev pub invariant-loop-i : goal.invariant-loop-i
invariant-loop-i l = list_any is_point (take l.i l.text) ≡ false
