-- What an address in a message refers to: a part by its Content-ID (RFC 2392 §2) or its Content-Location (RFC 2557 §8), a page or
-- a picture of the web, a link, or nothing.
use Rattle.std.specs.Prelude.{◌≡◌, ℕ, Bool, true, false, IsAscii, if◌then◌else◌, List, drop, take, find, codes, bytes_eq, Option, Some, None, option_map}
use Rattle.std.specs.List.{list_all}
use Rattle.std.specs.Option.{option_map_or}
use Rattle.std.specs.Str.{str_to_ascii_lowercase}
use Rattle.percent_encoding.specs.Percent.{percent_decode}
use Rattle.url.specs.Parts.{Parts, serialize}
use Rattle.html_rules.specs.Values.{is_address_char, is_remote, is_link}
use Rattle.cid_parts.specs.declared.refs.Ref.{Ref}
use Rattle.cid_parts.specs.declared.refs.Ref.TheVariants.{Part, Remote, Link, Nothing}
use Rattle.cid_parts.specs.Located.{LocatedPart, url_of, address_of, ReferencesValue}

-- ---- parts

abbrev pub is_text : List ℕ → Option (List ℕ) → Bool
is_text text None = false
is_text text (Some other) = bytes_eq other text

abbrev pub has_id : List ℕ → LocatedPart → Bool
has_id id p = is_text id p.id

-- the part's Content-Location reads as the URL of this text
abbrev pub has_address : Option Parts → List ℕ → LocatedPart → Bool
has_address base text p = is_text text (address_of base p)

-- the first part that passes, in tree order
abbrev pub first_part : (LocatedPart → Bool) → List LocatedPart → Option (List ℕ)
first_part passes parts = option_map (λ (p : LocatedPart). p.section) (find passes parts)

-- ---- addresses

-- an address of the scheme `cid`, in any case
abbrev pub is_cid : List ℕ → Bool
is_cid address = bytes_eq (str_to_ascii_lowercase (take 4 address)) (codes "cid:")

-- the Content-ID that an address of the scheme `cid` names
abbrev pub cid_of : List ℕ → List ℕ
cid_of address = percent_decode (drop 4 address)

-- what the text of a URL is by itself
unfoldable pub ref_of_text : List ℕ → Ref
ref_of_text text = if is_remote text then Remote text else if is_link text then Link text else Nothing

-- what a URL refers to, by its text. One with a space or a control refers to nothing
unfoldable pub refer_to_text : ReferencesValue → List ℕ → Ref
refer_to_text r text =
    if list_all is_address_char text
    then option_map_or Part (first_part (has_address r.base text) r.parts) (ref_of_text text)
    else Nothing

abbrev pub refer_to_url : ReferencesValue → Option Parts → Ref
refer_to_url r None = Nothing
refer_to_url r (Some url) = refer_to_text r (serialize url)

abbrev pub refer_to_id : ReferencesValue → List ℕ → Ref
refer_to_id r id = option_map_or Part (first_part (has_id id) r.parts) Nothing

-- what an address refers to
unfoldable pub refer : ReferencesValue → List ℕ → Ref
refer r address = if is_cid address then refer_to_id r (cid_of address) else refer_to_url r (url_of r.base address)

-- the texts are ASCII, and such as a page may have: of the web, or of a link
abbrev pub IsSafe : Ref → Type 0
IsSafe (Part section) = Unit {0}
IsSafe (Remote text) = (is_remote text ≡ true) × IsAscii text
IsSafe (Link text) = (is_link text ≡ true) × IsAscii text
IsSafe Nothing = Unit {0}
