-- What readers of mail find in the header of a built message.
use Rattle.std.specs.Prelude.{◌≡◌, ℕ, List, map, Result, Ok}
use Rattle.account_pictures.specs.declared.records.Identity.{Identity}
use Rattle.header_words.specs.Fields.{header_of, name_of}
use Rattle.jiff_core.specs.declared.civil.datetime.DateTime.{DateTime}
use Rattle.site_asks.specs.declared.Draft.{Draft}
use Rattle.compose_drafts.specs.declared.DraftFault.{DraftFault}
use Rattle.compose_drafts.specs.declared.parties.Parties.{Parties}
use Rattle.compose_drafts.specs.Message.{body, header, message}
use Rattle.compose_drafts.specs.Paragraphs.{is_seven_bit}

-- the names of the fields that a reader finds, in order
abbrev pub field_names : List ℕ → List (List ℕ)
field_names bytes = map (λ field. field.name) (header_of bytes).fields

-- whatever a draft holds, a reader finds one field for each line of its header, with that line's name, and no other field
abbrev pub FieldsAreRead : (Draft → Identity → Result Parties DraftFault) → Type 0
FieldsAreRead read = (draft : Draft) (identity : Identity) (parties : Parties) (clock : DateTime) → read draft identity ≡ Ok parties
    → field_names (message draft parties clock) ≡ map name_of (header draft parties clock (is_seven_bit (body draft)))
