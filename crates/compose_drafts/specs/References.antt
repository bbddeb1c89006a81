-- The messages that a draft answers (RFC 5322 §3.6.4).
use Rattle.std.specs.Prelude.{ℕ, ◌-◌, nat_le, Bool, ◌&&◌, List, length, drop}
use Rattle.std.specs.List.{filter, list_all}
use Rattle.header_words.specs.MessageIds.{ids_in}

abbrev pub is_visible : ℕ → Bool
is_visible c = nat_le 33 c && nat_le c 126

-- whether an identifier is written: it has at most 200 bytes, all visible
abbrev pub is_writable : List ℕ → Bool
is_writable id = nat_le (length id) 200 && list_all is_visible id

abbrev pub last_of_ids : ℕ → List (List ℕ) → List (List ℕ)
last_of_ids count ids = drop (length ids - count) ids

-- the identifiers that a draft refers to: the last 20 of those that can be written
unfoldable pub references_of : List ℕ → List (List ℕ)
references_of refs = last_of_ids 20 (filter is_writable (ids_in refs))
