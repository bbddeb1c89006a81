-- How contracts see a door in memory, and what its calls do.
use Rattle.std.specs.Prelude.{ℕ, ◌+◌, List}
use Rattle.mail_io.specs.Memory.{next_count}

pub record DoorState (C N : Type 0) : Type 0 where
  -- the callers that are still to come in
  pub waiting : List C
  pub accepted : ℕ
  pub departed : List (C × N)
  -- the calls and the faults so far, and the numbers of the calls that fail, from 1
  pub calls : ℕ
  pub faults : ℕ
  pub failing : List ℕ

-- after a call that fails
abbrev pub failed : {C N : Type 0} → DoorState C N → DoorState C N
failed door = record door { calls = next_count door.calls; faults = next_count door.faults }

-- after a caller came in, and these wait
abbrev pub after_accept : {C N : Type 0} → DoorState C N → List C → DoorState C N
after_accept door waiting = record door { waiting = waiting; accepted = door.accepted + 1; calls = next_count door.calls }
