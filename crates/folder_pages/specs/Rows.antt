-- The rows of a table of messages, as their tokens.
use Rattle.std.specs.Prelude.{ℕ, min, Bool, if◌then◌else◌, List, [], ◌∷◌, ◌++◌, codes, chars, decimal, Option, Some, None}
use Rattle.std.specs.List.{list_any}
use Rattle.std.specs.Str.{str_eq_ignore_ascii_case}
use Rattle.html_syntax.specs.Token.{Token}
use Rattle.html_syntax.specs.Token.Token.{Start, End}
use Rattle.html_rules.specs.Tokens.{start_tag, replace_nulls}
use Rattle.header_words.specs.Fields.{FieldValue, Header, header_of, first_of}
use Rattle.header_words.specs.Value.{decoded_of}
use Rattle.mailbox_rows.specs.declared.row.Row.{Row}
use Rattle.message_dates.specs.Minutes.{minute_text}
use Rattle.message_dates.specs.Sent.{sent_of}
use Rattle.page_frames.specs.Elements.{element, link}
use Rattle.page_frames.specs.Paths.{show_address}

-- ---- what a row says

-- the decoded value of a field, empty if it is missing
abbrev pub value_or_empty : Option FieldValue → List ℕ
value_or_empty None = []
value_or_empty (Some field) = decoded_of field.lines

-- who the message says it is from
abbrev pub sender_of : Header → List ℕ
sender_of header = value_or_empty (first_of (codes "From") header.fields)

-- the subject, or a text in its place if it is empty
abbrev pub subject_or_default : List ℕ → List ℕ
subject_or_default [] = codes "(no subject)"
subject_or_default (b ∷ bs) = b ∷ bs

abbrev pub subject_of : Header → List ℕ
subject_of header = subject_or_default (value_or_empty (first_of (codes "Subject") header.fields))

-- whether the message was read (RFC 9051 §2.3.2)
abbrev pub is_seen : Row → Bool
is_seen row = list_any (λ flag. str_eq_ignore_ascii_case flag (codes "\\Seen")) row.flags

abbrev pub seen_class : Row → List ℕ
seen_class row = if is_seen row then codes "seen" else codes "new"

-- how deep the message is in its thread; from 16 on all look alike
abbrev pub depth_class : ℕ → List ℕ
depth_class depth = codes "d" ++ decimal (min depth 16)

-- ---- its tokens

abbrev pub cell : List ℕ → List Token
cell content = element (codes "td") content

-- the subject, which leads to the message
unfoldable pub subject_cell : List ℕ → ℕ → ℕ → Header → List Token
subject_cell folder validity uid header =
    start_tag (codes "td")
    ∷ link (show_address (record { folder = folder; validity = validity; uid = uid })) (subject_of header)
    ++ End (codes "td") ∷ []

-- when the message was sent, to the minute, and its size in octets
unfoldable pub number_cells : Row → List Token
number_cells row = cell (minute_text (sent_of (header_of row.header) row.internal)) ++ cell (decimal row.size)

unfoldable pub row_start : List ℕ → Token
row_start class = Start (codes "tr") (replace_nulls (record { name = codes "class"; value = chars class } ∷ []))

-- the row of a message
unfoldable pub message_row : List ℕ → ℕ → List ℕ → ℕ → Row → List Token
message_row folder validity class uid row =
    row_start class ∷ cell (sender_of (header_of row.header))
    ++ subject_cell folder validity uid (header_of row.header)
    ++ number_cells row
    ++ End (codes "tr") ∷ []
