-- The list of a message's parts, as its tokens.
use Rattle.std.specs.Prelude.{ℕ, Bool, not, ◌||◌, if◌then◌else◌, List, [], ◌∷◌, ◌++◌, codes, decimal, length}
use Rattle.std.specs.List.{flat_map}
use Rattle.html_syntax.specs.Token.{Token}
use Rattle.html_syntax.specs.Token.Token.{End}
use Rattle.html_rules.specs.Tokens.{start_tag, start_tag_with}
use Rattle.mail_values.specs.Section.{spelling}
use Rattle.mime_tree.specs.Content.{is_multipart, is_message}
use Rattle.mime_tree.specs.Tree.{PartValue}
use Rattle.wash_attributes.specs.declared.place.Place.{Place}
use Rattle.wash_attributes.specs.Addresses.{part_address}
use Rattle.page_frames.specs.Elements.{text, link}

-- a link to the bytes of a part
unfoldable pub part_link : Place → List ℕ → List Token
part_link place section = link (part_address place section) (spelling section)

abbrev pub name_words : List ℕ → List Token
name_words [] = []
name_words (b ∷ bs) = text (codes " ") ++ text (b ∷ bs)

-- the type of the part, its name if it has one, and its encoded size in bytes
unfoldable pub part_words : PartValue → List Token
part_words p = text (codes " ") ++ text p.mime ++ name_words p.name ++ text (codes " ") ++ text (decimal (length p.bytes))

abbrev pub part_item : Place → PartValue → List Token
part_item place p = start_tag (codes "li") ∷ part_link place p.section ++ part_words p ++ End (codes "li") ∷ []

-- a part without children (only these are listed)
abbrev pub is_leaf : PartValue → Bool
is_leaf p = not (is_multipart p.mime || is_message p.mime)

abbrev pub leaf_item : Place → PartValue → List Token
leaf_item place p = if is_leaf p then part_item place p else []

abbrev pub part_items : Place → List PartValue → List Token
part_items place parts = flat_map (leaf_item place) parts

unfoldable pub part_list : Place → List PartValue → List Token
part_list place parts = start_tag_with (codes "ul") (codes "class") (codes "parts") ∷ part_items place parts ++ End (codes "ul") ∷ []
