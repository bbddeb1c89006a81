use Rattle.turn_desk.proofs.steps.note.Given as goal

abbrev pub ghosts-note_between : goal.ghosts-note_between
ghosts-note_between g a = record { opened = g.T.Storied.picture a.before.now.value; closed = g.T.Storied.picture a.inner.now }
