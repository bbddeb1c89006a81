-- The lengths of a header's lines (RFC 5322 §2.1.1).
use Rattle.std.specs.Prelude.{◌≡◌, ℕ, nat_le, Bool, true, ◌||◌, List, [], ◌∷◌, length, codes, Result, Ok}
use Rattle.std.specs.List.{list_all, list_any}
use Rattle.std.specs.Str.{bytes_eq}
use Rattle.std.specs.Str.Lines.{lines}
use Rattle.account_pictures.specs.declared.records.Identity.{Identity}
use Rattle.header_words.specs.Fields.{name_of}
use Rattle.jiff_core.specs.declared.civil.datetime.DateTime.{DateTime}
use Rattle.site_asks.specs.declared.Draft.{Draft}
use Rattle.compose_drafts.specs.declared.DraftFault.{DraftFault}
use Rattle.compose_drafts.specs.declared.parties.Parties.{Parties}
use Rattle.compose_drafts.specs.Message.{header}

-- the fields with names and subjects, each of which is one line, however long it is
abbrev pub has_free_text : List ℕ → Bool
has_free_text field = list_any (λ name. bytes_eq name (name_of field)) (codes "From" ∷ codes "To" ∷ codes "Cc" ∷ codes "Subject" ∷ [])

-- whether no line of a field has more than 998 bytes, without the CR LF
abbrev pub is_narrow : List ℕ → Bool
is_narrow field = list_all (λ line. nat_le (length line) 998) (lines field)

-- no line of a built header has more than 998 bytes, but for the fields with names and subjects
abbrev pub HeadersAreNarrow : (Draft → Identity → Result Parties DraftFault) → Type 0
HeadersAreNarrow read = (draft : Draft) (identity : Identity) (parties : Parties) (clock : DateTime) (seven_bit : Bool) → read draft identity ≡ Ok parties → list_all (λ field. has_free_text field || is_narrow field) (header draft parties clock seven_bit) ≡ true
