-- The tokens that the frame of a page may have: all that does not come from a message.
use Rattle.std.specs.Prelude.{ℕ, Bool, true, false, not, ◌&&◌, ◌||◌, ◌==◌, if◌then◌else◌, List, [], ◌∷◌, codes}
use Rattle.std.specs.List.{list_all, list_any}
use Rattle.html_syntax.specs.Characters.{tabulation, line_feed, carriage_return, solidus}
use Rattle.html_syntax.specs.Token.{Attribute, Token}
use Rattle.html_syntax.specs.Token.Token.{Start, End, Char, Comment, Doctype}
use Rattle.html_syntax.specs.Tokenizer.{same, is_among}
use Rattle.html_rules.specs.Tables.{Name, words, is_element, is_frame_attribute_name}

abbrev pub reverse_solidus : ℕ
reverse_solidus = 0x5C

-- An address on the site itself: `/`, and next neither `/` nor `\`, which would begin the name of another host, nor a TAB, LF or
-- CR, which a browser removes from an address (URL Standard, 4.4).
abbrev pub is_local_address : List ℕ → Bool
is_local_address [] = false
is_local_address (c ∷ []) = c == solidus
is_local_address (c ∷ d ∷ cs) = c == solidus && not (d == solidus || d == reverse_solidus || d == tabulation || d == line_feed || d == carriage_return)

abbrev pub style_sheet : List ℕ
style_sheet = codes "/site.css"

-- a frame loads its style sheet alone, and its links and forms lead to the site itself
abbrev pub is_frame_value : Name → Attribute → Bool
is_frame_value element a =
    if same (codes "href") a.name && same (codes "link") element then same style_sheet a.value
    else (if same (codes "href") a.name || same (codes "action") a.name then is_local_address a.value else true)

abbrev pub is_frame_attribute : Name → Attribute → Bool
is_frame_attribute element a = is_frame_attribute_name a.name && is_frame_value element a

unfoldable pub is_frame_token : Token → Bool
is_frame_token (Start name attributes) = is_element name && list_all (is_frame_attribute name) attributes
is_frame_token (End name) = is_element name
is_frame_token (Char c) = true
is_frame_token (Comment text) = false
is_frame_token Doctype = true

-- the attribute gives the element this class
abbrev pub has_class : List ℕ → Attribute → Bool
has_class class a = same (codes "class") a.name && is_among (words a.value) class

-- a `div` of class `mail`, which holds a message
unfoldable pub opens_mail : Token → Bool
opens_mail (Start name attributes) = same (codes "div") name && list_any (has_class (codes "mail")) attributes
opens_mail _ = false

-- a frame without a message
abbrev pub is_frame : List Token → Bool
is_frame tokens = list_all (λ t. is_frame_token t && not (opens_mail t)) tokens
