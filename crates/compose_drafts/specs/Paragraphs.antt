-- The paragraphs of a text that a person wrote, and how a body carries them.
use Rattle.std.specs.Prelude.{ℕ, ◌==◌, nat_le, nat_lt, Bool, ◌&&◌, if◌then◌else◌, List, length, map, codes}
use Rattle.std.specs.List.{list_all, slice_split}
use Rattle.std.specs.Str.{bytes_eq}
use Rattle.flowed_text.specs.declared.Para.{Para}
use Rattle.flowed_text.specs.Lines.{lines}
use Rattle.flowed_text.specs.Paragraphs.{read_line, signature}
use Rattle.mail_addresses.specs.Runs.{skip_spaces, trim_end}
use Rattle.mail_values.specs.Ascii.{line_feed}
use Rattle.transfer_codings.specs.QuotedRows.{quoted_text}

-- a line without its outer spaces. The line before a signature keeps its own
abbrev pub trimmed : List ℕ → List ℕ
trimmed line = if bytes_eq line signature then line else trim_end (skip_spaces line)

-- a paragraph without spaces at its front
abbrev pub unindented : Para → Para
unindented para = record { depth = para.depth; text = skip_spaces para.text }

abbrev pub paragraph_of : List ℕ → Para
paragraph_of line = unindented (read_line (trimmed line))

-- each line is a paragraph
unfoldable pub paragraphs_of : List ℕ → List Para
paragraphs_of text = map paragraph_of (lines text)

-- ---- the body

abbrev pub is_ascii : ℕ → Bool
is_ascii c = nat_lt c 128

-- a line with at most 998 bytes and its CR
abbrev pub is_short : List ℕ → Bool
is_short line = nat_le (length line) 999

abbrev pub is_line_feed : ℕ → Bool
is_line_feed c = c == line_feed

abbrev pub has_short_lines : List ℕ → Bool
has_short_lines body = list_all is_short (slice_split is_line_feed body)

-- whether a body can be sent as it is (RFC 2045 §2.7)
unfoldable pub is_seven_bit : List ℕ → Bool
is_seven_bit body = list_all is_ascii body && has_short_lines body

abbrev pub coding_name : Bool → List ℕ
coding_name seven_bit = if seven_bit then codes "7bit" else codes "quoted-printable"

abbrev pub coded : Bool → List ℕ → List ℕ
coded seven_bit body = if seven_bit then body else quoted_text body
