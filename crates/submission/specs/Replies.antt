-- Replies of a submission server (RFC 5321 §4.2): one or more lines, each ended by CR LF. All but the last are three digits, `-` and a
-- text; the last is three digits, and then nothing or a space and a text. A reply's code and text are those of its last line.
use Rattle.std.specs.Prelude.{ℕ, ◌+◌, ◌*◌, ◌-◌, ◌^◌, min, Bool, true, false, ◌&&◌, ◌==◌, nat_le, List, [], ◌∷◌, ◌++◌, length, take, drop, fold, Option, Some, None, if◌then◌else◌}
use Rattle.std.specs.Char.{is_ascii_digit}
use Rattle.std.specs.List.{slice_get}
use Rattle.submission.specs.declared.lines.Line as lines
use Rattle.submission.specs.declared.lines.Line.TheVariants as variant
use Rattle.submission.specs.declared.replies.Verdict.{Verdict}
use Rattle.submission.specs.declared.replies.Verdict.TheVariants.{Awaited, Whole, Wrong}

-- ---- lines

abbrev pub digit : ℕ → ℕ
digit b = b - 48

abbrev pub code_of : ℕ → ℕ → ℕ → ℕ
code_of a b c = 100 * digit a + 10 * digit b + digit c

-- a line, without its CR LF: the last one of a reply, one before it, or neither
pub data Line : Type 0 where
  last : (code : ℕ) → Line
  more : Line
  no_reply : Line

abbrev pub line_after : ℕ → List ℕ → Line
line_after code [] = last code
line_after code (b ∷ text) = if b == 32 then last code else (if b == 45 then more else no_reply)

unfoldable pub line_of : List ℕ → Line
line_of (a ∷ b ∷ c ∷ rest) = if is_ascii_digit a && is_ascii_digit b && is_ascii_digit c then line_after (code_of a b c) rest else no_reply
line_of _ = no_reply

-- the text of a last line
abbrev pub text_of : List ℕ → List ℕ
text_of line = drop 4 line

-- what the code calls a line
abbrev pub line_seen : lines.Line → Line
line_seen (variant.Last code) = last code
line_seen variant.More = more
line_seen variant.NoReply = no_reply

-- ---- what was heard of a reply

-- the most bytes of a reply
abbrev pub reply_limit : ℕ
reply_limit = 65536

-- A reply so far: the line that has begun, or the last line of a whole reply; how many bytes were read; where the reply begins, in bytes
-- since the dial, as far as 64 bits count; and what the reply is.
pub record Reading : Type 0 where
  pub line : List ℕ
  pub size : ℕ
  pub at : ℕ
  pub verdict : Verdict

-- a reply, and the bytes that came after it
pub record Hearing : Type 0 where
  pub reading : Reading
  pub rest : List ℕ

abbrev pub verdict_of : Line → Verdict
verdict_of (last code) = Whole code
verdict_of more = Awaited
verdict_of no_reply = Wrong

-- the line that is kept of an ended one
abbrev pub kept_line : Line → List ℕ → List ℕ
kept_line more line = []
kept_line _ line = line

-- after a line has ended
abbrev pub ended : List ℕ → Reading → Reading
ended line r = record { line = kept_line (line_of line) line; size = r.size + 1; at = r.at; verdict = verdict_of (line_of line) }

abbrev pub is_return : Option ℕ → Bool
is_return None = false
is_return (Some b) = b == 13

-- the bytes of a line end with a CR
abbrev pub ends_in_return : List ℕ → Bool
ends_in_return line = is_return (slice_get line (length line - 1))

abbrev pub without_last : List ℕ → List ℕ
without_last line = take (length line - 1) line

-- after one more byte of a reply that is awaited
unfoldable pub read : Reading → ℕ → Reading
read r b =
    if nat_le reply_limit r.size then record r { verdict = Wrong }
    else (if b == 10 && ends_in_return r.line then ended (without_last r.line) r else record r { line = r.line ++ b ∷ []; size = r.size + 1 })

abbrev pub is_awaited : Verdict → Bool
is_awaited Awaited = true
is_awaited (Whole code) = false
is_awaited Wrong = false

-- after one more byte: the reply's, or one after it
abbrev pub heard : Hearing → ℕ → Hearing
heard h b =
    if is_awaited h.reading.verdict then record { reading = read h.reading b; rest = h.rest }
    else record { reading = h.reading; rest = h.rest ++ b ∷ [] }

-- after bytes, however they are cut
abbrev pub hear : Hearing → List ℕ → Hearing
hear h bytes = fold heard h bytes

abbrev pub is_awaiting : Hearing → Bool
is_awaiting h = is_awaited h.reading.verdict

-- a reply that begins at a place
abbrev pub begun : ℕ → Reading
begun at = record { line = []; size = 0; at = at; verdict = Awaited }

-- the place after a reply
abbrev pub place_after : Reading → ℕ
place_after r = min (r.at + r.size) (2 ^ 64 - 1)

-- a dial: nothing was heard, and a reply is awaited
abbrev pub dialled : Hearing
dialled = record { reading = begun 0; rest = [] }

-- the next reply, which may have come already
abbrev pub next_reply : Hearing → Hearing
next_reply h = hear (record { reading = begun (place_after h.reading); rest = [] }) h.rest
