-- How a talk is recorded in a buffer, without memory of its own for each piece.
use Rattle.std.specs.Prelude.{◌≡◌, ℕ, ◌+◌, ◌-◌, nat_lt, ◌<◌, ◌≤◌, Bool, false, List, [], ◌∷◌, ◌++◌, length, take, drop}
use Rattle.account_pictures.specs.declared.talk.Piece.{Piece}
use Rattle.account_pictures.specs.declared.talk.Piece.TheVariants.{Dialled, Said, Heard}
use Rattle.mail_io.specs.declared.recording.Entry.{Entry}
use Rattle.mail_io.specs.declared.recording.Entry.TheVariants as entry
use Rattle.mail_io.specs.Talks.{EndsInNothingSaid}

pub record RecordingState : Type 0 where
  pub talk : List Piece
  -- the bytes and the entries that there is still room for
  pub byte_room : ℕ
  pub entry_room : ℕ
  -- the one entry beyond those is taken
  pub is_closed : Bool

-- the number of bytes that an entry has in the buffer
abbrev pub entry_len : Entry → ℕ
entry_len (entry.Dialled fresh) = 0
entry_len (entry.Said len) = len
entry_len (entry.Heard len) = len

-- the piece of an entry whose bytes come first
abbrev pub piece_of : Entry → List ℕ → Piece
piece_of (entry.Dialled fresh) bytes = Dialled fresh
piece_of (entry.Said len) bytes = Said (take len bytes)
piece_of (entry.Heard len) bytes = Heard (take len bytes)

-- the pieces of entries whose bytes follow each other
unfoldable pub pieces_of : List Entry → List ℕ → List Piece
pieces_of [] bytes = []
pieces_of (one ∷ entries) bytes = piece_of one bytes ∷ pieces_of entries (drop (entry_len one) bytes)

-- the number of bytes of some entries
unfoldable pub entries_len : List Entry → ℕ
entries_len [] = 0
entries_len (one ∷ entries) = entry_len one + entries_len entries

-- a recording of `bytes` and `entries`, with one entry more for a piece of no bytes, which is then the last
pub record IsRecording (byte_room entry_room : ℕ) (entries : List Entry) (bytes : List ℕ) : Type 0 where
  pub lens : entries_len entries ≡ length bytes
  pub bytes_fit : length bytes ≤ byte_room
  pub entries_fit : length entries ≤ entry_room + 1
  pub last : entry_room < length entries → EndsInNothingSaid (pieces_of entries bytes)

-- what a recording shows
abbrev pub view_of : ℕ → ℕ → List Entry → List ℕ → RecordingState
view_of byte_room entry_room entries bytes =
    record { talk = pieces_of entries bytes; byte_room = byte_room - length bytes; entry_room = entry_room - length entries; is_closed = nat_lt entry_room (length entries) }

-- one piece more
abbrev pub with_piece : RecordingState → Piece → ℕ → RecordingState
with_piece state piece len = record { talk = state.talk ++ piece ∷ []; byte_room = state.byte_room - len; entry_room = state.entry_room - 1; is_closed = false }

-- a piece of no bytes, for which there is one entry more
abbrev pub with_nothing_said : RecordingState → RecordingState
with_nothing_said state = record { talk = state.talk ++ Said [] ∷ []; byte_room = state.byte_room; entry_room = state.entry_room - 1; is_closed = nat_lt state.entry_room 1 }
