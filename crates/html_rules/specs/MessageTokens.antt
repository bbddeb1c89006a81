-- The tokens that a message may have.
use Rattle.std.specs.Prelude.{ℕ, Bool, false, not, ◌&&◌, ◌||◌, ◌==◌, if◌then◌else◌, List, codes}
use Rattle.std.specs.List.{list_all}
use Rattle.html_syntax.specs.Characters.{null}
use Rattle.html_syntax.specs.Token.{Attribute, Token}
use Rattle.html_syntax.specs.Token.Token.{Start, End, Char, Comment, Doctype}
use Rattle.html_syntax.specs.Tokenizer.{same, has_name}
use Rattle.html_rules.specs.Tables.{Name, is_message_element, is_void, is_listed_attribute}
use Rattle.html_rules.specs.Values.{is_value_of_attribute}

-- the attributes that open a link in a new window, which learns nothing of this one (HTML Standard, 4.6.7.9 and 4.6.7.10)
abbrev pub is_link_protection : Attribute → Bool
is_link_protection a =
    (same (codes "rel") a.name && same (codes "noopener noreferrer") a.value)
    || (same (codes "target") a.name && same (codes "_blank") a.value)

-- an attribute that is listed for the element, with a value of its kind, or one that protects a link
abbrev pub is_message_attribute : Bool → (List ℕ → Bool) → Name → Attribute → Bool
is_message_attribute images own element a =
    (is_listed_attribute element a.name && is_value_of_attribute images own a.name a.value) || is_link_protection a

-- `rel` and `target` accompany an `href`, and neither occurs without one
abbrev pub are_links_protected : List Attribute → Bool
are_links_protected attributes =
    if has_name (codes "href") attributes then has_name (codes "rel") attributes && has_name (codes "target") attributes
    else not (has_name (codes "rel") attributes || has_name (codes "target") attributes)

-- `images` tells whether remote pictures were requested, `own` which addresses are the site's own pictures
unfoldable pub is_message_token : Bool → (List ℕ → Bool) → Token → Bool
is_message_token images own (Start name attributes) =
    is_message_element name && list_all (is_message_attribute images own name) attributes && are_links_protected attributes
is_message_token images own (End name) = is_message_element name && not (is_void name)
is_message_token images own (Char c) = not (c == null)
is_message_token images own (Comment text) = false
is_message_token images own Doctype = false

abbrev pub is_message : Bool → (List ℕ → Bool) → List Token → Bool
is_message images own tokens = list_all (is_message_token images own) tokens
