-- What targets and styles have to be so that washed attributes are those of a message.
use Rattle.std.specs.Prelude.{ℕ, Bool, true, List, map, chars, IsTrue}
use Rattle.std.specs.List.{list_all, list_any}
use Rattle.html_syntax.specs.Token.{Attribute}
use Rattle.html_syntax.specs.Tokenizer.{same, replace_null}
use Rattle.html_rules.specs.Tables.{Name}
use Rattle.html_rules.specs.Tokens.{replace_nulls}
use Rattle.html_rules.specs.Values.{is_remote, is_link}
use Rattle.html_rules.specs.MessageTokens.{is_message_attribute, are_links_protected}
use Rattle.style_wash.specs.Declarations.{is_style}
use Rattle.wash_attributes.specs.Given.{Target, Given}
use Rattle.wash_attributes.specs.Given.Target.{Part, Remote, Link, Nothing}
use Rattle.wash_attributes.specs.Attributes.{washed_attributes}
use Rattle.wash_attributes.specs.declared.place.Place.{Place}
use Rattle.wash_attributes.specs.Addresses.{part_address, given_of}
use Rattle.cid_parts.specs.Located.{LocatedPart, ReferencesValue}

-- a value as it is written, with U+0000 as U+FFFD
abbrev pub as_written : List ℕ → List ℕ
as_written value = map replace_null value

-- the address of a part is one of the site's own pictures, and the others are addresses that their names say
unfoldable pub is_sound_target : (List ℕ → Bool) → Target → Bool
is_sound_target own (Part address) = own (as_written address)
is_sound_target own (Remote address) = is_remote (as_written address)
is_sound_target own (Link address) = is_link (as_written address)
is_sound_target own Nothing = true

-- what `refer` and `stylewash` return may be written into a message: addresses as their targets say, and styles in their written form
pub record IsSound (given : Given) (own : List ℕ → Bool) : Type 0 where
  pub targets : (address : List ℕ) → IsTrue (is_sound_target own (given.refer address))
  pub styles : (style : List ℕ) → IsTrue (is_style (as_written (given.stylewash style)))

-- the attributes are those of a message's element
pub record AreMessageAttributes (images : Bool) (own : List ℕ → Bool) (element : Name) (attributes : List Attribute) : Type 0 where
  pub listed : IsTrue (list_all (is_message_attribute images own element) attributes)
  pub protected : IsTrue (are_links_protected attributes)

-- Each washed attribute is listed for its element, with a value of its kind, and each link opens in a new window.
abbrev pub KeptAttributesAreAllowed : Type 0
KeptAttributesAreAllowed =
    (given : Given) (own : List ℕ → Bool) (declared : List ℕ) (element : Name) (attributes : List Attribute) → IsSound given own
    → IsTrue (is_style (as_written declared))
    → AreMessageAttributes given.images own element (replace_nulls (washed_attributes given declared element attributes))

-- the address of one of the parts, as it is written
abbrev pub is_part_address : Place → List LocatedPart → List ℕ → Bool
is_part_address place parts address = list_any (λ (p : LocatedPart). same (as_written (chars (part_address place p.section))) address) parts

-- What a message is washed with is sound. The site's own pictures are the parts that the message's addresses may name.
abbrev pub ReferencesAreSound : Type 0
ReferencesAreSound =
    (references : ReferencesValue) (place : Place) (images : Bool)
    → IsSound (given_of references place images) (is_part_address place references.parts)
