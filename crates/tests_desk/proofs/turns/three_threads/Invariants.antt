use Rattle.std.specs.Prelude.{[], ◌∷◌}
use Rattle.turn_desk.specs.Naming.{table_of_blank}
use Rattle.tests_desk.proofs.turns.three_threads.Given as goal

-- each number names the table of its blank
abbrev pub ghosts-take_turns_in_threads : goal.ghosts-take_turns_in_threads
ghosts-take_turns_in_threads g a = record { table = table_of_blank (a.first ∷ a.second ∷ []) }
