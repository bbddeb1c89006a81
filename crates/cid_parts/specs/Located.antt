-- The parts that an address of a message may name, and the URL that an address reads as (RFC 2557 §5).
use Rattle.std.specs.Prelude.{ℕ, Bool, not, List, map, filter, Option, None, option_map, option_and_then}
use Rattle.std.specs.Result.{result_ok}
use Rattle.url.specs.Parser.{parse_url}
use Rattle.url.specs.Parts.{Parts, serialize}
use Rattle.mime_tree.specs.Tree.{PartValue, TreeValue}

-- a part: its section, the bytes of its Content-ID between `<` and `>`, and its Content-Location
pub record LocatedPart : Type 0 where
  pub section : List ℕ
  pub id : Option (List ℕ)
  pub location : Option (List ℕ)

abbrev pub located : PartValue → LocatedPart
located p = record { section = p.section; id = p.id; location = p.location }

-- a part of the message itself, and not of a message in it
abbrev pub is_own : PartValue → Bool
is_own p = not p.enclosed

-- the message's own parts, in tree order
abbrev pub located_parts : List PartValue → List LocatedPart
located_parts parts = map located (filter is_own parts)

-- the URL that an address reads as with a base
unfoldable pub url_of : Option Parts → List ℕ → Option Parts
url_of base address = result_ok (parse_url base address)

-- the base that a Content-Location gives, if it reads by itself
abbrev pub base_of : Option (List ℕ) → Option Parts
base_of location = option_and_then (url_of None) location

-- the text of the URL that a part's Content-Location reads as
abbrev pub address_of : Option Parts → LocatedPart → Option (List ℕ)
address_of base p = option_and_then (λ location. option_map serialize (url_of base location)) p.location

-- the parts of a message that addresses may name, and the base of its addresses
pub record ReferencesValue : Type 0 where
  pub parts : List LocatedPart
  pub base : Option Parts

abbrev pub references_of : TreeValue → Option (List ℕ) → ReferencesValue
references_of tree base = record { parts = located_parts tree.parts; base = base_of base }
