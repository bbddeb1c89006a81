use Rattle.std.proofs.Common.{◌≡◌}
use Rattle.tests_desk.proofs.turns.visit_often.Given as goal

-- the passes stay at their desks
abbrev pub invariant-loop-expected : goal.invariant-loop-expected
invariant-loop-expected g l = (l.pass.desk ≡ l.fn.pass.desk) × (l.front.desk ≡ l.fn.front.desk)
