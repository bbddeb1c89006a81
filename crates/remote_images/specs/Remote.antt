-- Pictures of the web in the HTML of a message.
use Rattle.std.specs.Prelude.{ℕ, Bool, true, false, ◌&&◌, List, codes, encode_utf8_all, Option, Some, None}
use Rattle.std.specs.List.{list_any}
use Rattle.html_syntax.specs.Token.{Token}
use Rattle.html_syntax.specs.Token.Token.{Start, End, Char, Comment, Doctype}
use Rattle.html_syntax.specs.Tokenizer.{same}
use Rattle.wash_attributes.specs.FirstValues.{first_value}
use Rattle.cid_parts.specs.declared.refs.Ref.{Ref}
use Rattle.cid_parts.specs.declared.refs.Ref.TheVariants.{Part, Remote, Link, Nothing}
use Rattle.cid_parts.specs.Located.{ReferencesValue}
use Rattle.cid_parts.specs.Refer.{refer}

abbrev pub is_remote : Ref → Bool
is_remote (Part section) = false
is_remote (Remote text) = true
is_remote (Link text) = false
is_remote Nothing = false

-- there is an address, and it is one of the web
abbrev pub refers_to_web : ReferencesValue → Option (List ℕ) → Bool
refers_to_web references None = false
refers_to_web references (Some address) = is_remote (refer references (encode_utf8_all address))

-- an `img` whose first `src` is an address of the web. Which elements are open counts for nothing: an `img` is written inside each of
-- them, and the content of an element that is dropped has no tags.
unfoldable pub is_remote_image : ReferencesValue → Token → Bool
is_remote_image references (Start name attributes) = same (codes "img") name && refers_to_web references (first_value (codes "src") attributes)
is_remote_image references (End name) = false
is_remote_image references (Char c) = false
is_remote_image references (Comment text) = false
is_remote_image references Doctype = false

unfoldable pub has_remote_images : ReferencesValue → List Token → Bool
has_remote_images references ts = list_any (is_remote_image references) ts
