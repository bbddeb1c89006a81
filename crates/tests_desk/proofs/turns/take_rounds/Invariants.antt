use Rattle.std.proofs.Common.{◌≡◌}
use Rattle.tests_desk.proofs.turns.take_rounds.Given as goal

-- the passes stay at their desks
abbrev pub invariant-loop : goal.invariant-loop
invariant-loop g l = (l.worker.ann.desk ≡ l.fn.worker.ann.desk) × (l.worker.bob.desk ≡ l.fn.worker.bob.desk)
