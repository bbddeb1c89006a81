-- How contracts see a link in memory, and what its calls do.
use Rattle.std.specs.Prelude.{◌≡◌, ◌⊎◌, ℕ, min, Bool, List, length, take, Contains, if◌then◌else◌}
use Rattle.mail_io.specs.Memory.{next_count}
use Rattle.mail_io.specs.Scripts.{ScriptState, front_chunk, chunks_after, script_of}
use Rattle.mail_io.specs.Recordings.{RecordingState, with_piece, with_nothing_said}
use Rattle.account_pictures.specs.declared.talk.Piece.TheVariants.{Dialled, Said, Heard}

-- what the server sends, what was recorded, the calls and the faults so far, and the numbers of the calls that fail, from 1
pub record LinkState : Type 0 where
  pub script : ScriptState
  pub recording : RecordingState
  pub calls : ℕ
  pub faults : ℕ
  pub failing : List ℕ

-- the next call fails whatever it is: its number is listed, or no entry is left
abbrev pub MustFail : LinkState → Type 0
MustFail link = Contains link.failing (next_count link.calls) ⊎ (link.recording.entry_room ≡ 0)

-- after a call that fails
abbrev pub failed : LinkState → RecordingState → LinkState
failed link recording = record { script = link.script; recording = recording; calls = next_count link.calls; faults = next_count link.faults; failing = link.failing }

-- after a call that succeeds
abbrev pub succeeded : LinkState → ScriptState → RecordingState → LinkState
succeeded link script recording = record { script = script; recording = recording; calls = next_count link.calls; faults = link.faults; failing = link.failing }

abbrev pub after_dial : LinkState → Bool → LinkState
after_dial link fresh = succeeded link (script_of link.script.dials) (with_piece link.recording (Dialled fresh) 0)

abbrev pub after_send : LinkState → List ℕ → LinkState
after_send link bytes = succeeded link link.script (with_piece link.recording (Said bytes) (length bytes))

-- a call of `send` that fails says no bytes, once more than there is room for entries
abbrev pub after_failed_send : LinkState → LinkState
after_failed_send link = failed link (if link.recording.is_closed then link.recording else with_nothing_said link.recording)

-- the number of bytes that a room gets
abbrev pub received_len : LinkState → ℕ → ℕ
received_len link room = min room (length (front_chunk link.script.chunks))

abbrev pub after_receive : LinkState → ℕ → LinkState
after_receive link count =
    succeeded link (record { chunks = chunks_after count link.script.chunks; dials = link.script.dials }) (with_piece link.recording (Heard (take count (front_chunk link.script.chunks))) count)
