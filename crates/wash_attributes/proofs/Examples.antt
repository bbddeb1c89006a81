-- Washed attributes, computed.
use Rattle.std.proofs.Common.{◌≡◌, ℕ, Bool, true, false, if◌then◌else◌, List, [], ◌∷◌, ◌++◌, codes, refl}
use Rattle.html_syntax.specs.Token.{Attribute}
use Rattle.html_syntax.specs.Tokenizer.{same}
use Rattle.html_rules.specs.Tables.{Name, is_listed_attribute, common_attributes, attribute_rows, kind_of, value_kind_rows}
use Rattle.html_rules.specs.Values.{is_number, is_word}
use Rattle.style_wash.specs.Characters.{trimmed}
use Rattle.wash_attributes.specs.Given.{Target, Given}
use Rattle.wash_attributes.specs.Values.{written_value}
use Rattle.html_tokens.specs.Attributes.{first_of_each}
use Rattle.wash_attributes.specs.Attributes.{attribute, kept_attribute, kept_attributes, with_declared, link_protection, washed_attributes}

-- four addresses that refer to something, and one style that has a declaration
target_of : List ℕ → Target
target_of address =
    if same (codes "cid:top%40n") address then Target.Part (codes "/part/0/0/2.2?f=")
    else (if same (codes "http://e.example/") address then Target.Remote (codes "http://e.example/")
    else (if same (codes " HTTPS://E.example/a b") address then Target.Remote (codes "https://e.example/a%20b")
    else (if same (codes "MAILTO:a@e.example") address then Target.Link (codes "mailto:a@e.example")
    else Target.Nothing)))

style_of : List ℕ → List ℕ
style_of style = if same (codes "color:red;x") style then codes "color: red" else []

with_images : Bool → Given
with_images images = record { refer = target_of; stylewash = style_of; images = images }

-- ---- the first of each name

first_counts : first_of_each (attribute (codes "a") (codes "1") ∷ attribute (codes "b") (codes "2") ∷ attribute (codes "a") (codes "3") ∷ attribute (codes "c") [] ∷ attribute (codes "b") (codes "4") ∷ []) ≡ attribute (codes "a") (codes "1") ∷ attribute (codes "b") (codes "2") ∷ attribute (codes "c") [] ∷ []
first_counts = refl

-- ---- tags, as their elements and attributes

washed : Name → List Attribute → List Attribute
washed element attributes = washed_attributes (with_images false) [] element attributes

washed_with_images : Name → List Attribute → List Attribute
washed_with_images element attributes = washed_attributes (with_images true) [] element attributes

-- what isn't listed is dropped, and the order is kept
order : washed (codes "img") (attribute (codes "alt") (codes "A & B") ∷ attribute (codes "onerror") (codes "alert(1)") ∷ attribute (codes "width") (codes "600") ∷ attribute (codes "lang") (codes "de") ∷ []) ≡ attribute (codes "alt") (codes "A & B") ∷ attribute (codes "width") (codes "600") ∷ attribute (codes "lang") (codes "de") ∷ []
unfolding washed with_images washed_attributes with_declared kept_attributes kept_attribute is_listed_attribute common_attributes attribute_rows kind_of value_kind_rows written_value is_number is_word trimmed
order = refl

-- an attribute of another element is dropped
other_element : washed (codes "p") (attribute (codes "width") (codes "600") ∷ attribute (codes "href") (codes "http://e.example/") ∷ attribute (codes "align") (codes "left") ∷ []) ≡ attribute (codes "align") (codes "left") ∷ []
unfolding washed with_images washed_attributes with_declared kept_attributes kept_attribute is_listed_attribute common_attributes attribute_rows kind_of value_kind_rows written_value is_number is_word trimmed
other_element = refl

-- the first of a name counts, even if it is dropped for its value
dropped_first : washed (codes "td") (attribute (codes "width") (codes "5px") ∷ attribute (codes "width") (codes "5") ∷ attribute (codes "height") (codes "7") ∷ attribute (codes "height") (codes "8") ∷ []) ≡ attribute (codes "height") (codes "7") ∷ []
unfolding washed with_images washed_attributes with_declared kept_attributes kept_attribute is_listed_attribute common_attributes attribute_rows kind_of value_kind_rows written_value is_number is_word trimmed
dropped_first = refl

-- numbers: a sign, 1 to 5 digits, a `%`, and white space around
numbers : washed (codes "table") (attribute (codes "width") (codes " 600\t") ∷ attribute (codes "height") (codes "-99999") ∷ attribute (codes "border") (codes "+1%") ∷ attribute (codes "cellpadding") (codes "123456") ∷ attribute (codes "cellspacing") [] ∷ []) ≡ attribute (codes "width") (codes "600") ∷ attribute (codes "height") (codes "-99999") ∷ attribute (codes "border") (codes "+1%") ∷ []
unfolding washed with_images washed_attributes with_declared kept_attributes kept_attribute is_listed_attribute common_attributes attribute_rows kind_of value_kind_rows written_value is_number is_word trimmed
numbers = refl

not_numbers : washed (codes "img") (attribute (codes "width") (codes "6 0") ∷ attribute (codes "height") (codes "1.5") ∷ attribute (codes "border") (codes "%") ∷ attribute (codes "hspace") (codes "+-1") ∷ attribute (codes "vspace") (codes "1%%") ∷ []) ≡ []
unfolding washed with_images washed_attributes with_declared kept_attributes kept_attribute is_listed_attribute common_attributes attribute_rows kind_of value_kind_rows written_value is_number is_word trimmed
not_numbers = refl

-- words: 1 to 32 letters, digits, `-` and `#`
words : washed (codes "td") (attribute (codes "align") (codes "\ncenter ") ∷ attribute (codes "bgcolor") (codes "#fff") ∷ attribute (codes "valign") (codes "abcdefghijklmnopqrstuvwxyz-12345") ∷ []) ≡ attribute (codes "align") (codes "center") ∷ attribute (codes "bgcolor") (codes "#fff") ∷ attribute (codes "valign") (codes "abcdefghijklmnopqrstuvwxyz-12345") ∷ []
unfolding washed with_images washed_attributes with_declared kept_attributes kept_attribute is_listed_attribute common_attributes attribute_rows kind_of value_kind_rows written_value is_number is_word trimmed
words = refl

not_words : washed (codes "td") (attribute (codes "align") (codes "a b") ∷ attribute (codes "bgcolor") [] ∷ attribute (codes "valign") (codes "abcdefghijklmnopqrstuvwxyz-123456") ∷ attribute (codes "dir") (codes "r_l") ∷ []) ≡ []
unfolding washed with_images washed_attributes with_declared kept_attributes kept_attribute is_listed_attribute common_attributes attribute_rows kind_of value_kind_rows written_value is_number is_word trimmed
not_words = refl

-- a flag is written empty; a text is any text
flags : washed (codes "td") (attribute (codes "nowrap") (codes "no") ∷ attribute (codes "title") (codes " \"<x> ") ∷ []) ≡ attribute (codes "nowrap") [] ∷ attribute (codes "title") (codes " \"<x> ") ∷ []
unfolding washed with_images washed_attributes with_declared kept_attributes kept_attribute is_listed_attribute common_attributes attribute_rows kind_of value_kind_rows written_value is_number is_word trimmed
flags = refl

-- a style is written if it has a declaration
styles : washed (codes "p") (attribute (codes "style") (codes "color:red;x") ∷ []) ++ washed (codes "p") (attribute (codes "style") (codes "x") ∷ []) ≡ attribute (codes "style") (codes "color: red") ∷ []
unfolding washed with_images style_of washed_attributes with_declared kept_attributes kept_attribute is_listed_attribute common_attributes attribute_rows kind_of value_kind_rows written_value is_number is_word trimmed
styles = refl

-- ---- what rules declare

declared_for : List ℕ → Name → List Attribute → List Attribute
declared_for declared element attributes = washed_attributes (with_images false) declared element attributes

-- it precedes the own style, in the place of that
before_own : declared_for (codes "margin: 0") (codes "p") (attribute (codes "style") (codes "color:red;x") ∷ attribute (codes "dir") (codes "ltr") ∷ []) ≡ attribute (codes "style") (codes "margin: 0; color: red") ∷ attribute (codes "dir") (codes "ltr") ∷ []
unfolding declared_for with_images style_of washed_attributes with_declared kept_attributes kept_attribute is_listed_attribute common_attributes attribute_rows kind_of value_kind_rows written_value is_number is_word trimmed
before_own = refl

-- also if the own style has no declaration
in_place_of_own : declared_for (codes "margin: 0") (codes "p") (attribute (codes "style") (codes "x") ∷ attribute (codes "dir") (codes "ltr") ∷ []) ≡ attribute (codes "style") (codes "margin: 0") ∷ attribute (codes "dir") (codes "ltr") ∷ []
unfolding declared_for with_images style_of washed_attributes with_declared kept_attributes kept_attribute is_listed_attribute common_attributes attribute_rows kind_of value_kind_rows written_value is_number is_word trimmed
in_place_of_own = refl

-- or else it follows what is kept, and precedes a link's protection
after_kept : declared_for (codes "margin: 0") (codes "a") (attribute (codes "href") (codes "http://e.example/") ∷ attribute (codes "class") (codes "x") ∷ []) ≡ attribute (codes "href") (codes "http://e.example/") ∷ attribute (codes "style") (codes "margin: 0") ∷ link_protection
unfolding declared_for with_images target_of link_protection washed_attributes with_declared kept_attributes kept_attribute is_listed_attribute common_attributes attribute_rows kind_of value_kind_rows written_value is_number is_word trimmed
after_kept = refl

-- also in a tag without attributes
alone : declared_for (codes "margin: 0") (codes "p") [] ≡ attribute (codes "style") (codes "margin: 0") ∷ []
unfolding declared_for with_images washed_attributes with_declared kept_attributes kept_attribute is_listed_attribute common_attributes attribute_rows kind_of value_kind_rows written_value is_number is_word trimmed
alone = refl

-- the first `style` of a tag is its own
first_style : declared_for (codes "margin: 0") (codes "p") (attribute (codes "style") (codes "x") ∷ attribute (codes "style") (codes "color:red;x") ∷ []) ≡ attribute (codes "style") (codes "margin: 0") ∷ []
unfolding declared_for with_images style_of washed_attributes with_declared kept_attributes kept_attribute is_listed_attribute common_attributes attribute_rows kind_of value_kind_rows written_value is_number is_word trimmed
first_style = refl

-- ---- links

protected : List Attribute
protected = attribute (codes "rel") (codes "noopener noreferrer") ∷ attribute (codes "target") (codes "_blank") ∷ []

-- a link's protection comes last, and isn't the message's
link : washed (codes "a") (attribute (codes "target") (codes "_top") ∷ attribute (codes "href") (codes " HTTPS://E.example/a b") ∷ attribute (codes "rel") (codes "opener") ∷ attribute (codes "title") (codes "t") ∷ []) ≡ attribute (codes "href") (codes "https://e.example/a%20b") ∷ attribute (codes "title") (codes "t") ∷ protected
unfolding washed with_images target_of protected link_protection washed_attributes with_declared kept_attributes kept_attribute is_listed_attribute common_attributes attribute_rows kind_of value_kind_rows written_value is_number is_word trimmed
link = refl

mail_link : washed (codes "a") (attribute (codes "href") (codes "MAILTO:a@e.example") ∷ []) ≡ attribute (codes "href") (codes "mailto:a@e.example") ∷ protected
unfolding washed with_images target_of protected link_protection washed_attributes with_declared kept_attributes kept_attribute is_listed_attribute common_attributes attribute_rows kind_of value_kind_rows written_value is_number is_word trimmed
mail_link = refl

-- neither a part nor what refers to nothing is a link's address
no_link : washed (codes "a") (attribute (codes "href") (codes "jav\tascript:1") ∷ []) ++ washed (codes "a") (attribute (codes "href") (codes "cid:top%40n") ∷ []) ≡ []
unfolding washed with_images target_of link_protection washed_attributes with_declared kept_attributes kept_attribute is_listed_attribute common_attributes attribute_rows kind_of value_kind_rows written_value is_number is_word trimmed
no_link = refl

-- ---- pictures

part : washed (codes "img") (attribute (codes "src") (codes "cid:top%40n") ∷ attribute (codes "src") (codes "http://e.example/") ∷ []) ≡ attribute (codes "src") (codes "/part/0/0/2.2?f=") ∷ []
unfolding washed with_images target_of washed_attributes with_declared kept_attributes kept_attribute is_listed_attribute common_attributes attribute_rows kind_of value_kind_rows written_value is_number is_word trimmed
part = refl

-- a remote picture is written if pictures were requested
remote : washed (codes "img") (attribute (codes "src") (codes "http://e.example/") ∷ []) ++ washed_with_images (codes "img") (attribute (codes "src") (codes "http://e.example/") ∷ []) ≡ attribute (codes "src") (codes "http://e.example/") ∷ []
unfolding washed washed_with_images with_images target_of washed_attributes with_declared kept_attributes kept_attribute is_listed_attribute common_attributes attribute_rows kind_of value_kind_rows written_value is_number is_word trimmed
remote = refl

no_picture : washed_with_images (codes "img") (attribute (codes "src") (codes "x") ∷ []) ++ washed_with_images (codes "img") (attribute (codes "src") (codes "MAILTO:a@e.example") ∷ []) ≡ []
unfolding washed_with_images with_images target_of washed_attributes with_declared kept_attributes kept_attribute is_listed_attribute common_attributes attribute_rows kind_of value_kind_rows written_value is_number is_word trimmed
no_picture = refl
