-- One entry more in a recording.
use native.Mathlib.Numerals.{unary_clauses}
use Rattle.std.proofs.Common.{◌≡◌, ℕ, ◌+◌, ◌-◌, ◌<◌, ◌≤◌, false, List, [], ◌∷◌, ◌++◌, length, drop, refl, sym, ap, ◌∙◌, arith, length-append, length-drop, inl, inr}
use Rattle.std.specs.Prelude.{nat_lt}
use Rattle.std.proofs.lemmas.Bool.{le-ltb, lt-ltb, cases_lt}
use Rattle.std.proofs.lemmas.List.{take-append-le, drop-append-le, append-nil}
use Rattle.account_pictures.specs.declared.talk.Piece.TheVariants.{Said, Heard}
use Rattle.mail_io.specs.declared.recording.Entry.{Entry}
use Rattle.mail_io.specs.declared.recording.Entry.TheVariants as entry
use Rattle.mail_io.specs.Recordings.{RecordingState, entry_len, piece_of, pieces_of, entries_len, view_of, IsRecording, with_piece, with_nothing_said}
use Rattle.mail_io.specs.Talks.{EndsInNothingSaid}

-- an entry whose bytes are at the front has its piece from them alone
pub piece_front : (one : Entry) (bytes more : List ℕ) → entry_len one ≤ length bytes → piece_of one (bytes ++ more) ≡ piece_of one bytes
piece_front (entry.Dialled fresh) bytes more h = refl
piece_front (entry.Said len) bytes more h = ap Said (take-append-le len bytes more h)
piece_front (entry.Heard len) bytes more h = ap Heard (take-append-le len bytes more h)

-- an entry more is a piece more
pub pieces_append : (entries : List Entry) (one : Entry) (bytes more : List ℕ) → entries_len entries ≡ length bytes → pieces_of (entries ++ one ∷ []) (bytes ++ more) ≡ pieces_of entries bytes ++ piece_of one more ∷ []
unfolding pieces_of entries_len
pieces_append [] one [] more h = refl
pieces_append [] one (b ∷ bytes) more h = absurd (omega (h, arith))
pieces_append (first ∷ entries) one bytes more h =
    let within : entry_len first ≤ length bytes = omega (h, arith) in
    let rest : entries_len entries ≡ length (drop (entry_len first) bytes) = omega (h, arith, length-drop {A = ℕ}) in
    rw (piece_front first bytes more within, drop-append-le (entry_len first) bytes more within) (ap (λ pieces. piece_of first bytes ∷ pieces) (pieces_append entries one (drop (entry_len first) bytes) more rest))

pub len_append : (entries : List Entry) (one : Entry) → entries_len (entries ++ one ∷ []) ≡ entries_len entries + entry_len one
unfolding entries_len
len_append [] one = omega arith
len_append (first ∷ entries) one = omega (len_append entries one, arith)

-- a recording with an entry more, within its room
pub is_recording : (byte_room entry_room : ℕ) (entries : List Entry) (one : Entry) (bytes more : List ℕ) → IsRecording byte_room entry_room entries bytes → entry_len one ≡ length more → 0 < entry_room - length entries → length more ≤ byte_room - length bytes → IsRecording byte_room entry_room (entries ++ one ∷ []) (bytes ++ more)
is_recording byte_room entry_room entries one bytes more is len room fits = record {
  lens = omega (is.lens, len, len_append entries one, length-append {A = ℕ}, arith);
  bytes_fit = omega (is.bytes_fit, fits, length-append {A = ℕ}, arith);
  entries_fit = omega (room, length-append {A = Entry}, arith);
  last = λ past. absurd (omega (past, room, length-append {A = Entry}, arith));
}

-- what it shows
pub shown_more : (byte_room entry_room : ℕ) (entries : List Entry) (one : Entry) (bytes more : List ℕ) (old : RecordingState) → IsRecording byte_room entry_room entries bytes → 0 < entry_room - length entries
    → view_of byte_room entry_room entries bytes ≡ old
    → view_of byte_room entry_room (entries ++ one ∷ []) (bytes ++ more) ≡ with_piece old (piece_of one more) (length more)
shown_more byte_room entry_room entries one bytes more old is room shows =
    let longer : length (entries ++ one ∷ []) ≡ length entries + 1 = length-append entries (one ∷ []) in
    let left : byte_room - length (bytes ++ more) ≡ byte_room - length bytes - length more = omega (length-append {A = ℕ}, arith) in
    let places : entry_room - (length entries + 1) ≡ entry_room - length entries - 1 = omega arith in
    let open_still : nat_lt entry_room (length entries + 1) ≡ false = le-ltb entry_room (length entries + 1) (omega (room, arith)) in
    rw (← shows, pieces_append entries one bytes more is.lens, longer, left, places, open_still) refl

pub said_more : (entries : List Entry) (bytes : List ℕ) → entries_len entries ≡ length bytes → pieces_of (entries ++ entry.Said 0 ∷ []) bytes ≡ pieces_of entries bytes ++ Said [] ∷ []
said_more entries bytes lens = ap (λ bs. pieces_of (entries ++ entry.Said 0 ∷ []) bs) (sym (append-nil bytes)) ∙ pieces_append entries (entry.Said 0) bytes [] lens

pub ends_said : (entries : List Entry) (bytes : List ℕ) → entries_len entries ≡ length bytes → EndsInNothingSaid (pieces_of (entries ++ entry.Said 0 ∷ []) bytes)
ends_said entries bytes lens = record { front = pieces_of entries bytes; last = said_more entries bytes lens }

-- the same with the piece of no bytes, for which there is one entry more
pub is_recording_closed : (byte_room entry_room : ℕ) (entries : List Entry) (bytes : List ℕ) → IsRecording byte_room entry_room entries bytes → length entries ≤ entry_room → IsRecording byte_room entry_room (entries ++ entry.Said 0 ∷ []) bytes
is_recording_closed byte_room entry_room entries bytes is room = record {
  lens = omega (is.lens, len_append entries (entry.Said 0), arith);
  bytes_fit = is.bytes_fit;
  entries_fit = omega (room, length-append {A = Entry}, arith);
  last = λ _. ends_said entries bytes is.lens;
}

-- the entry beyond the room is the next exactly if no room is left
pub closing : (room taken : ℕ) → taken ≤ room → nat_lt room (taken + 1) ≡ nat_lt (room - taken) 1
closing room taken h = elim (cases_lt taken room) [
  | inl below ↦ le-ltb room (taken + 1) (omega (below, arith)) ∙ sym (le-ltb (room - taken) 1 (omega (below, arith)))
  | inr above ↦ lt-ltb room (taken + 1) (omega (h, arith)) ∙ sym (lt-ltb (room - taken) 1 (omega (above, arith)))
]

pub shown_said : (byte_room entry_room : ℕ) (entries : List Entry) (bytes : List ℕ) (old : RecordingState) → IsRecording byte_room entry_room entries bytes → length entries ≤ entry_room
    → view_of byte_room entry_room entries bytes ≡ old
    → view_of byte_room entry_room (entries ++ entry.Said 0 ∷ []) bytes ≡ with_nothing_said old
shown_said byte_room entry_room entries bytes old is room shows =
    let longer : length (entries ++ entry.Said 0 ∷ []) ≡ length entries + 1 = length-append entries (entry.Said 0 ∷ []) in
    let places : entry_room - (length entries + 1) ≡ entry_room - length entries - 1 = omega arith in
    let closes : nat_lt entry_room (length entries + 1) ≡ nat_lt (entry_room - length entries) 1 = closing entry_room (length entries) room in
    rw (← shows, said_more entries bytes is.lens, longer, places, closes) refl

pub is_empty_recording : (byte_room entry_room : ℕ) → IsRecording byte_room entry_room [] []
unfolding entries_len
is_empty_recording byte_room entry_room = record {
  lens = refl;
  bytes_fit = omega arith;
  entries_fit = omega arith;
  last = λ past. absurd (omega (past, arith));
}

pub shown_empty : (byte_room entry_room : ℕ) → view_of byte_room entry_room [] [] ≡ record { talk = []; byte_room = byte_room; entry_room = entry_room; is_closed = false }
unfolding pieces_of
shown_empty byte_room entry_room = rw (le-ltb entry_room 0 (omega arith)) (simp unary_clauses refl)
