-- The message of a draft, line by line (RFC 5322, RFC 2045).
use Rattle.std.specs.Prelude.{ℕ, zero, suc, ◌+◌, ◌/◌, ◌%◌, ◌==◌, nat_lt, Bool, if◌then◌else◌, List, [], ◌∷◌, ◌++◌, length, codes, Option, Some, None}
use Rattle.std.specs.List.{flat_map, join_by}
use Rattle.jiff_core.specs.declared.civil.datetime.DateTime.{DateTime}
use Rattle.flowed_text.specs.Flow.{flow}
use Rattle.site_asks.specs.declared.Draft.{Draft}
use Rattle.compose_drafts.specs.declared.parties.Parties.{Parties}
use Rattle.compose_drafts.specs.Moments.{date_text}
use Rattle.compose_drafts.specs.Paragraphs.{coded, coding_name, is_seven_bit, paragraphs_of}
use Rattle.compose_drafts.specs.References.{last_of_ids, references_of}
use Rattle.compose_drafts.specs.Texts.{ended, fold, in_angles, line_end, written}

-- ---- the values of fields

-- the digit of a value below 16, in lower case
abbrev pub hex_digit : ℕ → ℕ
hex_digit value = if nat_lt value 10 then 48 + value else 87 + value

-- the last `count` hexadecimal digits of a number
unfoldable pub hex_digits : ℕ → ℕ → List ℕ
hex_digits zero number = []
hex_digits (suc count) number = hex_digits count (number / 16) ++ hex_digit (number % 16) ∷ []

-- the identifier of the message: the form's number, at the sender's domain
abbrev pub own_id : ℕ → List ℕ → List ℕ
own_id form domain = in_angles (hex_digits 16 form ++ 64 ∷ domain)

-- an identifier after another, on a line of its own
abbrev pub next_id : List ℕ → List ℕ
next_id id = fold ++ in_angles id

abbrev pub ids_text : List (List ℕ) → List ℕ
ids_text ids = join_by in_angles fold ids

-- ---- the message

abbrev pub optional : List ℕ → Option (List ℕ) → List (List ℕ)
optional name None = []
optional name (Some value) = (name ++ value) ∷ []

-- the identifiers in a field, which is left out if there are none
abbrev pub ids_or_none : List (List ℕ) → Option (List ℕ)
ids_or_none ids = if length ids == 0 then None else Some (ids_text ids)

-- the fields of the header: what is before a field's colon is its name, and nothing else of a field is a name
unfoldable pub header : Draft → Parties → DateTime → Bool → List (List ℕ)
header draft parties clock seven_bit =
    (codes "Date: " ++ date_text clock) ∷ []
    ++ optional (codes "From: ") parties.from
    ++ optional (codes "To: ") parties.to
    ++ optional (codes "Cc: ") parties.cc
    ++ (codes "Subject: " ++ written draft.subject) ∷ []
    ++ optional (codes "In-Reply-To: ") (ids_or_none (last_of_ids 1 (references_of draft.refs)))
    ++ optional (codes "References: ") (ids_or_none (references_of draft.refs))
    ++ (codes "Message-ID: " ++ own_id draft.form parties.domain) ∷ []
    ++ codes "MIME-Version: 1.0" ∷ []
    ++ codes "Content-Type: text/plain; charset=utf-8; format=flowed" ∷ []
    ++ (codes "Content-Transfer-Encoding: " ++ coding_name seven_bit) ∷ []

-- the paragraphs of the draft's text, as flowed text
abbrev pub body : Draft → List ℕ
body draft = flow (paragraphs_of draft.text)

-- the header, an empty line, and the body
unfoldable pub message : Draft → Parties → DateTime → List ℕ
message draft parties clock =
    flat_map ended (header draft parties clock (is_seven_bit (body draft)))
    ++ line_end ++ coded (is_seven_bit (body draft)) (body draft)
