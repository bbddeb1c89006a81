-- Values, tokens and pages that are allowed, and some that aren't, computed.
use Rattle.std.proofs.Common.{◌≡◌, ℕ, Bool, true, false, inr, List, [], ◌∷◌, ◌++◌, map, codes, refl, Some, None, sym}
use Rattle.html_syntax.specs.Token.{Attribute, Token}
use Rattle.html_syntax.specs.Token.Token.{Start, End, Char, Doctype}
use Rattle.html_syntax.specs.Tokenizer.{is_among}
use Rattle.html_rules.specs.Tables.{message_elements, frame_elements, message_void_elements, frame_void_elements, is_message_element, is_element, is_void, common_attributes, attribute_rows, is_listed_attribute, frame_attributes, is_frame_attribute_name, kind_of, value_kind_rows}
use Rattle.html_rules.specs.Values.{is_number, is_word, is_remote, is_link, is_source, is_value_of, is_value_of_attribute}
use Rattle.html_rules.specs.Tokens.{start_tag, start_tag_with}
use Rattle.html_rules.specs.Nesting.{open_elements_after}
use Rattle.html_rules.specs.MessageTokens.{is_message_token}
use Rattle.html_rules.specs.FrameTokens.{is_frame_token, opens_mail, is_local_address}
use Rattle.html_rules.specs.Allowed.{IsAllowed, loads}
use Rattle.html_rules.proofs.Mail.{allowed_known}

abbrev pair : List ℕ → List ℕ → Attribute
pair name value = record { name = name; value = value }

-- the site has one picture of its own
abbrev own : List ℕ → Bool
own address = is_among (codes "/part/0/0/2.2?f=" ∷ []) address

yes : List Bool
yes = true ∷ true ∷ true ∷ true ∷ []

no : List Bool
no = false ∷ false ∷ false ∷ false ∷ []

-- ---- values

numbers : map is_number (codes "600" ∷ codes "+100%" ∷ codes "-5" ∷ codes "99999" ∷ []) ≡ yes
unfolding is_number yes
numbers = refl

not_numbers : map is_number (codes "" ∷ codes "100000" ∷ codes "5px" ∷ codes "%" ∷ []) ≡ no
unfolding is_number no
not_numbers = refl

words : map is_word (codes "center" ∷ codes "#c00" ∷ codes "en-GB" ∷ codes "abcdefghijklmnopqrstuvwxyz012345" ∷ []) ≡ yes
unfolding is_word yes
words = refl

not_words : map is_word (codes "" ∷ codes "a b" ∷ codes "1.5" ∷ codes "abcdefghijklmnopqrstuvwxyz0123456" ∷ []) ≡ no
unfolding is_word no
not_words = refl

links : map is_link (codes "http://e.example/" ∷ codes "https://e.example/?a=b&c" ∷ codes "mailto:a@e.example" ∷ codes "http://" ∷ []) ≡ yes
unfolding is_link is_remote yes
links = refl

not_links : map is_link (codes "javascript:alert(1)" ∷ codes " https://e.example/" ∷ codes "https://e.example/a b" ∷ codes "//e.example/" ∷ []) ≡ no
unfolding is_link is_remote no
not_links = refl

local : map is_local_address (codes "/" ∷ codes "/list?f=INBOX" ∷ codes "/part/0/0/1?f=" ∷ codes "/a//b" ∷ []) ≡ yes
unfolding yes
local = refl

not_local : map is_local_address (codes "//e.example/" ∷ codes "/\\e.example/" ∷ codes "http://e.example/" ∷ codes "" ∷ []) ≡ no
unfolding no
not_local = refl

-- ---- tokens of a message

link : List ℕ → Token
link address = Start (codes "a") (pair (codes "href") address ∷ pair (codes "rel") (codes "noopener noreferrer") ∷ pair (codes "target") (codes "_blank") ∷ [])

message_tokens : map (is_message_token false own) (link (codes "https://e.example/") ∷ start_tag_with (codes "img") (codes "src") (codes "/part/0/0/2.2?f=") ∷ start_tag_with (codes "td") (codes "width") (codes "50%") ∷ End (codes "td") ∷ []) ≡ yes
unfolding is_message_token link yes message_elements is_message_element is_listed_attribute common_attributes attribute_rows kind_of value_kind_rows is_value_of_attribute is_value_of is_link is_remote is_source is_number is_void message_void_elements frame_void_elements
message_tokens = refl

-- scripts, handlers, links that don't open apart, and marks of links without one
not_message_tokens : map (is_message_token false own) (start_tag (codes "script") ∷ start_tag_with (codes "p") (codes "onclick") (codes "x") ∷ start_tag_with (codes "a") (codes "href") (codes "https://e.example/") ∷ start_tag_with (codes "a") (codes "target") (codes "_blank") ∷ []) ≡ no
unfolding is_message_token no message_elements is_message_element is_listed_attribute common_attributes attribute_rows kind_of value_kind_rows is_value_of_attribute is_value_of is_link is_remote
not_message_tokens = refl

-- an attribute of another element, an identifier, another document type, the end of what has no end
nor_these : map (is_message_token true own) (start_tag_with (codes "p") (codes "width") (codes "5") ∷ start_tag_with (codes "p") (codes "id") (codes "x") ∷ Doctype ∷ End (codes "br") ∷ []) ≡ no
unfolding is_message_token no message_elements is_message_element is_listed_attribute common_attributes attribute_rows kind_of value_kind_rows is_value_of_attribute is_value_of is_void message_void_elements frame_void_elements
nor_these = refl

-- a picture of the web, where pictures weren't asked for and where they were
pictures : map (λ images. is_message_token images own (start_tag_with (codes "img") (codes "src") (codes "https://e.example/o"))) (false ∷ true ∷ []) ≡ false ∷ true ∷ []
unfolding is_message_token message_elements is_message_element is_listed_attribute common_attributes attribute_rows kind_of value_kind_rows is_value_of_attribute is_value_of is_source is_remote
pictures = refl

-- ---- tokens of a frame

frame_tokens : map is_frame_token (Start (codes "link") (pair (codes "rel") (codes "stylesheet") ∷ pair (codes "href") (codes "/site.css") ∷ []) ∷ start_tag_with (codes "form") (codes "action") (codes "/flag") ∷ start_tag_with (codes "ul") (codes "class") (codes "parts") ∷ End (codes "html") ∷ []) ≡ yes
unfolding is_frame_token yes is_element message_elements frame_elements is_frame_attribute_name frame_attributes
frame_tokens = refl

not_frame_tokens : map is_frame_token (start_tag (codes "script") ∷ start_tag_with (codes "link") (codes "href") (codes "/other.css") ∷ start_tag_with (codes "a") (codes "href") (codes "//e.example/") ∷ start_tag_with (codes "img") (codes "src") (codes "/part/0/0/2.2?f=") ∷ []) ≡ no
unfolding is_frame_token no is_element message_elements frame_elements is_frame_attribute_name frame_attributes
not_frame_tokens = refl

-- ---- nesting

nested : open_elements_after [] (start_tag (codes "p") ∷ start_tag (codes "br") ∷ start_tag (codes "b") ∷ Char 65 ∷ End (codes "b") ∷ End (codes "p") ∷ []) ≡ Some []
unfolding open_elements_after is_void message_void_elements frame_void_elements
nested = refl

crossed : open_elements_after [] (start_tag (codes "p") ∷ start_tag (codes "b") ∷ End (codes "p") ∷ End (codes "b") ∷ []) ≡ None
unfolding open_elements_after is_void message_void_elements frame_void_elements
crossed = refl

left_open : open_elements_after [] (start_tag (codes "p") ∷ []) ≡ Some (codes "p" ∷ [])
unfolding open_elements_after is_void message_void_elements frame_void_elements
left_open = refl

-- ---- pages

before : List Token
before = Doctype ∷ start_tag (codes "html") ∷ start_tag (codes "body") ∷ []

inside : List Token
inside = start_tag (codes "p") ∷ start_tag_with (codes "img") (codes "src") (codes "/part/0/0/2.2?f=") ∷ Char 65 ∷ End (codes "p") ∷ []

after_mail : List Token
after_mail = Char 10 ∷ End (codes "body") ∷ End (codes "html") ∷ []

mail : Token
mail = start_tag_with (codes "div") (codes "class") (codes "mail")

page : List Token
page = before ++ (mail ∷ inside ++ (End (codes "div") ∷ after_mail))

page_is_allowed : IsAllowed page false own
unfolding page before inside after_mail mail is_frame_token opens_mail is_element message_elements frame_elements is_frame_attribute_name frame_attributes is_message_token is_message_element is_listed_attribute common_attributes attribute_rows kind_of value_kind_rows is_value_of_attribute is_value_of is_source is_void message_void_elements frame_void_elements open_elements_after
page_is_allowed = inr (record { before = before; mail = mail; message = inside; after = after_mail; equals = refl; before_is_frame = refl; opens = refl; is_a_message = refl; is_nested = refl; after_is_frame = refl })

page_loads : loads page ≡ codes "/part/0/0/2.2?f=" ∷ []
unfolding loads page before inside after_mail mail
page_loads = refl

-- a page with a script is refused
page_with_script : IsAllowed (start_tag (codes "script") ∷ page) false own → true ≡ false
unfolding is_frame_token is_element message_elements frame_elements is_message_token is_message_element
page_with_script h = sym (allowed_known (start_tag (codes "script") ∷ page) false own h)
