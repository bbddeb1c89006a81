-- The identifiers of the messages that a draft answers, from the header of the message that it is made from (RFC 5322 §3.6.4).
use Rattle.std.specs.Prelude.{ℕ, ◌==◌, if◌then◌else◌, List, [], ◌∷◌, ◌++◌, length, take, codes, Option, Some, None}
use Rattle.std.specs.List.{filter, join_by}
use Rattle.compose_drafts.specs.References.{is_writable, last_of_ids}
use Rattle.compose_drafts.specs.Texts.{in_angles}
use Rattle.header_words.specs.Fields.{FieldValue, Header, first_of}
use Rattle.header_words.specs.MessageIds.{ids_in}
use Rattle.header_words.specs.Value.{unfolded}
use Rattle.mail_values.specs.Ascii.{space}

-- the identifiers of a field that count: those of at most 200 bytes, all visible
abbrev pub ids_of_field : Option FieldValue → List (List ℕ)
ids_of_field (Some field) = filter is_writable (ids_in (unfolded field.lines))
ids_of_field None = []

unfoldable pub ids_of : List ℕ → Header → List (List ℕ)
ids_of name header = ids_of_field (first_of name header.fields)

-- the messages that a message answers: those of References, or else the first of In-Reply-To
abbrev pub references_or : List (List ℕ) → List (List ℕ) → List (List ℕ)
references_or references others = if length references == 0 then take 1 others else references

abbrev pub parents_of : Header → List (List ℕ)
parents_of header = references_or (ids_of (codes "References") header) (ids_of (codes "In-Reply-To") header)

-- the messages that an answer to a message answers
abbrev pub reply_ids : Header → List (List ℕ)
reply_ids header = parents_of header ++ take 1 (ids_of (codes "Message-ID") header)

-- an identifier after another
abbrev pub next_id : List ℕ → List ℕ
next_id id = space ∷ in_angles id

abbrev pub ids_text : List (List ℕ) → List ℕ
ids_text ids = join_by in_angles (space ∷ []) ids

-- the last 20 identifiers, each between `<` and `>`, with spaces between them
unfoldable pub refs_text : List (List ℕ) → List ℕ
refs_text ids = ids_text (last_of_ids 20 ids)
