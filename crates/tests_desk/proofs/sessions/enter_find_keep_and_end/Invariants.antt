use Rattle.std.specs.Prelude.{[], ◌∷◌}
use Rattle.turn_desk.specs.Naming.{table_of_blank}
use Rattle.tests_desk.proofs.sessions.enter_find_keep_and_end.Given as goal

-- each number names the table of its blank
abbrev pub ghosts-use_roster : goal.ghosts-use_roster
ghosts-use_roster g a = record { table = table_of_blank (a.first ∷ a.second ∷ []) }
