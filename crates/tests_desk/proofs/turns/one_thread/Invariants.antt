use Rattle.std.specs.Prelude.{[], ◌∷◌}
use Rattle.turn_desk.specs.Naming.{table_of_blank}
use Rattle.tests_desk.proofs.turns.one_thread.Given as goal

-- each number names the table of its blank
abbrev pub ghosts-take_turns : goal.ghosts-take_turns
ghosts-take_turns g a = record { table = table_of_blank (a.first ∷ a.second ∷ []) }
