-- The elements and attributes of pages. Each list occurs once, one row a line.
use Rattle.std.specs.Prelude.{ℕ, Bool, true, false, ◌&&◌, ◌||◌, ◌==◌, if◌then◌else◌, Option, Some, None, List, [], ◌∷◌, ◌++◌, codes}
use Rattle.std.specs.List.{list_any, flat_map}
use Rattle.html_syntax.specs.Tokenizer.{is_among}
use Rattle.html_rules.specs.declared.ValueKind.{ValueKind}
use Rattle.html_rules.specs.declared.ValueKind.TheVariants.{Number, Word, Flag, Text, Link, Source, Style}

-- the name of an element or an attribute, in characters
abbrev pub Name : Type 0
Name = List ℕ

abbrev pub add_letter : Bool → ℕ → List Name → List Name
add_letter true c words = [] ∷ words
add_letter false c [] = (c ∷ []) ∷ []
add_letter false c (word ∷ words) = (c ∷ word) ∷ words

-- the words of a text, separated by single spaces
abbrev pub words : List ℕ → List Name
words [] = [] ∷ []
words (c ∷ cs) = add_letter (c == 32) c (words cs)

-- ---- elements

-- the elements that a message may have
unfoldable pub message_elements : List Name
message_elements = words (codes "a abbr address b bdo big blockquote br caption center cite code col colgroup dd del dfn div dl dt em font h1 h2 h3 h4 h5 h6 hr i img ins kbd li ol p pre q s samp small span strike strong sub sup table tbody td tfoot th thead tr tt u ul var wbr")

-- further elements, which only a frame may have
unfoldable pub frame_elements : List Name
frame_elements = words (codes "html head meta title link body form input textarea button")

-- the elements that have no content and no end tag (HTML Standard, 13.1.2, void elements)
unfoldable pub message_void_elements : List Name
message_void_elements = words (codes "br col hr img wbr")

unfoldable pub frame_void_elements : List Name
frame_void_elements = words (codes "meta link input")

-- the elements whose content is text alone (HTML Standard, 13.1.2, escapable raw text elements)
unfoldable pub text_only_elements : List Name
text_only_elements = words (codes "title textarea")

-- the elements that are removed from a message together with their text
unfoldable pub dropped_elements : List Name
dropped_elements = words (codes "script style title iframe noembed noframes")

unfoldable pub is_message_element : Name → Bool
is_message_element name = is_among message_elements name

unfoldable pub is_element : Name → Bool
is_element name = is_among (message_elements ++ frame_elements) name

unfoldable pub is_void : Name → Bool
is_void name = is_among (message_void_elements ++ frame_void_elements) name

unfoldable pub is_text_only : Name → Bool
is_text_only name = is_among text_only_elements name

unfoldable pub is_dropped_element : Name → Bool
is_dropped_element name = is_among dropped_elements name

-- ---- attributes

-- elements, and the attributes that they may have in a message
pub record AttributeRow : Type 0 where
  pub elements : List Name
  pub attributes : List Name

abbrev pub row : List ℕ → List ℕ → AttributeRow
row elements attributes = record { elements = words elements; attributes = words attributes }

-- the attributes that every element may have in a message
unfoldable pub common_attributes : List Name
common_attributes = words (codes "dir lang style title")

-- further attributes, by element
unfoldable pub attribute_rows : List AttributeRow
attribute_rows =
    row (codes "a") (codes "href")
    ∷ row (codes "img") (codes "src alt width height align border hspace vspace")
    ∷ row (codes "table") (codes "width height border cellpadding cellspacing align bgcolor")
    ∷ row (codes "td th") (codes "width height align valign bgcolor colspan rowspan nowrap")
    ∷ row (codes "tr") (codes "align valign bgcolor")
    ∷ row (codes "tbody thead tfoot") (codes "align valign")
    ∷ row (codes "col colgroup") (codes "span width align valign")
    ∷ row (codes "caption div p h1 h2 h3 h4 h5 h6") (codes "align")
    ∷ row (codes "hr") (codes "align size width color noshade")
    ∷ row (codes "br") (codes "clear")
    ∷ row (codes "font") (codes "color face size")
    ∷ row (codes "ol") (codes "start type")
    ∷ row (codes "ul") (codes "type")
    ∷ row (codes "li") (codes "type value")
    ∷ []

-- the attributes that are added to a link in a message
unfoldable pub link_attributes : List Name
link_attributes = words (codes "rel target")

-- the attributes that the elements of a frame may have
unfoldable pub frame_attributes : List Name
frame_attributes = words (codes "lang charset rel href class method action type name value rows cols")

unfoldable pub is_listed_attribute : Name → Name → Bool
is_listed_attribute element name =
    is_among common_attributes name
    || list_any (λ r. is_among r.elements element && is_among r.attributes name) attribute_rows

unfoldable pub is_frame_attribute_name : Name → Bool
is_frame_attribute_name name = is_among frame_attributes name

-- the name of some attribute, in a message or in a frame
unfoldable pub is_attribute_name : Name → Bool
is_attribute_name name =
    is_among (common_attributes ++ flat_map (λ r. r.attributes) attribute_rows ++ link_attributes ++ frame_attributes) name

-- ---- kinds of value

pub record ValueKindRow : Type 0 where
  pub kind : ValueKind
  pub attributes : List Name

abbrev pub value_kind_row : ValueKind → List ℕ → ValueKindRow
value_kind_row kind attributes = record { kind = kind; attributes = words attributes }

-- the kind of the values of each attribute of a message
unfoldable pub value_kind_rows : List ValueKindRow
value_kind_rows =
    value_kind_row Number (codes "width height border cellpadding cellspacing hspace vspace size colspan rowspan span start value")
    ∷ value_kind_row Word (codes "align valign bgcolor color clear type dir lang")
    ∷ value_kind_row Flag (codes "nowrap noshade")
    ∷ value_kind_row Text (codes "title alt face")
    ∷ value_kind_row Link (codes "href")
    ∷ value_kind_row Source (codes "src")
    ∷ value_kind_row Style (codes "style")
    ∷ []

abbrev pub kind_among : List ValueKindRow → Name → Option ValueKind
kind_among [] name = None
kind_among (row ∷ rows) name = if is_among row.attributes name then Some row.kind else kind_among rows name

unfoldable pub kind_of : Name → Option ValueKind
kind_of name = kind_among value_kind_rows name
