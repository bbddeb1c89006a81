-- How contracts see a caller in memory, and what its calls do.
use Rattle.std.specs.Prelude.{ℕ, min, List, ◌++◌, length, take}
use Rattle.mail_io.specs.Memory.{next_count}
use Rattle.mail_io.specs.Scripts.{ScriptState, front_chunk, chunks_after}

pub record CallerState : Type 0 where
  -- what the caller is going to send
  pub script : ScriptState
  pub heard : List ℕ
  pub sent : List ℕ
  -- the room for all that is heard, and for all that is sent
  pub heard_room : ℕ
  pub sent_room : ℕ
  -- the calls and the faults so far, and the numbers of the calls that fail, from 1
  pub calls : ℕ
  pub faults : ℕ
  pub failing : List ℕ

-- after a call that fails
abbrev pub failed : CallerState → CallerState
failed caller = record caller { calls = next_count caller.calls; faults = next_count caller.faults }

-- the number of bytes that a room gets
abbrev pub received_len : CallerState → ℕ → ℕ
received_len caller room = min room (length (front_chunk caller.script.chunks))

-- after the first bytes of the first chunk were received
abbrev pub after_receive : CallerState → ℕ → CallerState
after_receive caller count = record caller {
  script = record { chunks = chunks_after count caller.script.chunks; dials = caller.script.dials };
  heard = caller.heard ++ take count (front_chunk caller.script.chunks);
  calls = next_count caller.calls;
}

-- after bytes were sent
abbrev pub after_send : CallerState → List ℕ → CallerState
after_send caller bytes = record caller { sent = caller.sent ++ bytes; calls = next_count caller.calls }
