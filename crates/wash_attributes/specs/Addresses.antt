-- The targets of addresses in a message, and the washing of its attributes.
use Rattle.std.specs.Prelude.{ℕ, Bool, List, ◌++◌, chars, encode_utf8_all}
use Rattle.mail_values.specs.Section.{spelling}
use Rattle.style_wash.specs.Declarations.{stylewash}
use Rattle.cid_parts.specs.declared.refs.Ref.{Ref}
use Rattle.cid_parts.specs.declared.refs.Ref.TheVariants as ref
use Rattle.cid_parts.specs.Located.{ReferencesValue}
use Rattle.cid_parts.specs.Refer.{refer}
use Rattle.wash_attributes.specs.declared.place.Place.{Place}
use Rattle.wash_attributes.specs.Given.{Target, Given}
use Rattle.wash_attributes.specs.Given.Target.{Part, Remote, Link, Nothing}

-- the bytes of the address of a part
abbrev pub part_address : Place → List ℕ → List ℕ
part_address place section = place.prefix ++ spelling section ++ place.suffix

-- the target of a reference; the texts of URLs are ASCII
abbrev pub target_of : Place → Ref → Target
target_of place (ref.Part section) = Part (chars (part_address place section))
target_of place (ref.Remote text) = Remote text
target_of place (ref.Link text) = Link text
target_of place ref.Nothing = Nothing

-- what the attributes of a message are washed with; addresses and styles are read in UTF-8
unfoldable pub given_of : ReferencesValue → Place → Bool → Given
given_of references place images =
    record {
      refer = λ address. target_of place (refer references (encode_utf8_all address));
      stylewash = λ style. stylewash (encode_utf8_all style);
      images = images;
    }
