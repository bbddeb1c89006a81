-- What the maps of a message's own parts answer.
use Rattle.std.specs.Prelude.{◌≡◌, ℕ, List, [], ◌∷◌, Option}
use Rattle.std.specs.Option.{option_or}
use Rattle.std.specs.declared.cmp.Ordering.{Ordering}
use Rattle.std.specs.Ordering.{nat_cmp, ordering_then}
use Rattle.std.specs.Cmp.Lexicographic.{slice_cmp}
use Rattle.std.specs.BTreeMap.{BTreeMap, get_by}
use Rattle.std.specs.Hash.FoldHasher.{initial, write, finish}
use Rattle.std.specs.String.{string_bytes}
use Rattle.std.specs.declared.string.String.{String}
use Rattle.url.specs.Parts.{Parts}
use Rattle.mime_tree.specs.Tree.{PartValue}
use Rattle.cid_parts.specs.Located.{LocatedPart, located_parts}
use Rattle.cid_parts.specs.Refer.{first_part, has_id, has_address}
use denote.Ref.{Bor}

-- the section of a Content-ID
abbrev pub section_of_id : BTreeMap (Bor (List ℕ)) (List ℕ) → List ℕ → Option (List ℕ)
section_of_id m id = get_by (λ k. slice_cmp nat_cmp id k.now) m

-- each Content-ID has the section of its first part
abbrev pub MapsIds : BTreeMap (Bor (List ℕ)) (List ℕ) → List LocatedPart → Type 0
MapsIds m parts = (id : List ℕ) → section_of_id m id ≡ first_part (has_id id) parts

-- a number made of a text: two texts that differ mostly have two numbers
unfoldable pub digest : List ℕ → ℕ
digest text = finish (write initial text)

-- addresses are in the order of their digests, and those of one digest in that of their texts
abbrev pub compare_key : {Y : Type 0} → List ℕ → ℕ × String Y → Ordering
compare_key text key = ordering_then (nat_cmp (digest text) key.0) (slice_cmp nat_cmp text (string_bytes key.1))

-- the section of an address
abbrev pub section_of_address : {Y : Type 0} → BTreeMap (ℕ × String Y) (List ℕ) → List ℕ → Option (List ℕ)
section_of_address m text = get_by (compare_key text) m

-- each text of a URL has the section of the first part of that address
abbrev pub MapsAddresses : {Y : Type 0} → Option Parts → BTreeMap (ℕ × String Y) (List ℕ) → List LocatedPart → Type 0
MapsAddresses base m parts = (text : List ℕ) → section_of_address m text ≡ first_part (has_address base text) parts

-- a part is added after those that a map has
abbrev pub AddsId : BTreeMap (Bor (List ℕ)) (List ℕ) → BTreeMap (Bor (List ℕ)) (List ℕ) → PartValue → Type 0
AddsId old new p = (id : List ℕ) → section_of_id new id ≡ option_or (section_of_id old id) (first_part (has_id id) (located_parts (p ∷ [])))

abbrev pub AddsAddress : {Y : Type 0} → Option Parts → BTreeMap (ℕ × String Y) (List ℕ) → BTreeMap (ℕ × String Y) (List ℕ) → PartValue → Type 0
AddsAddress base old new p = (text : List ℕ) → section_of_address new text ≡ option_or (section_of_address old text) (first_part (has_address base text) (located_parts (p ∷ [])))

-- the maps of a message's own parts
pub record AreMapsOf {Y : Type 0} (parts : List LocatedPart) (base : Option Parts) (ids : BTreeMap (Bor (List ℕ)) (List ℕ)) (addresses : BTreeMap (ℕ × String Y) (List ℕ)) : Type 0 where
  pub by_id : MapsIds ids parts
  pub by_address : MapsAddresses base addresses parts
