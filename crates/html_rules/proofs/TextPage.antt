-- A page with texts in it that nobody knows beforehand, put together from its parts: an example for crates that prove theirs.
use Rattle.std.specs.List.{list_all}
use Rattle.std.proofs.Common.{◌≡◌, ℕ, Bool, true, inr, List, [], ◌∷◌, ◌++◌, codes, refl, ap, ◌∙◌, append_assoc}
use Rattle.html_syntax.specs.Token.{Token}
use Rattle.html_syntax.specs.Token.Token.{Start, End, Char, Doctype}
use Rattle.html_rules.specs.Tables.{message_elements, frame_elements, message_void_elements, frame_void_elements, is_message_element, is_element, is_void, frame_attributes, is_frame_attribute_name}
use Rattle.html_rules.specs.Tokens.{text_tokens}
use Rattle.html_rules.specs.Tokens.{start_tag, start_tag_with}
use Rattle.html_rules.specs.Nesting.{open_elements_after, IsNested}
use Rattle.html_rules.specs.MessageTokens.{is_message_token}
use Rattle.html_rules.specs.FrameTokens.{is_frame_token, is_frame, opens_mail}
use Rattle.html_rules.specs.Allowed.{IsAllowed, loads}
use Rattle.html_rules.proofs.Nesting.{open_after-text}
use Rattle.html_rules.proofs.Parts.{is_frame-append, is_frame-text, is_message-append, is_message-text, loads-past_text}

style_link : Token
style_link = Start (codes "link") (record { name = codes "rel"; value = codes "stylesheet" } ∷ record { name = codes "href"; value = codes "/site.css" } ∷ [])

head : List Token
head = Doctype ∷ start_tag_with (codes "html") (codes "lang") (codes "en") ∷ start_tag (codes "head") ∷ start_tag (codes "title") ∷ []

body : List Token
body = End (codes "title") ∷ style_link ∷ End (codes "head") ∷ start_tag (codes "body") ∷ []

foot : List Token
foot = Char 10 ∷ End (codes "body") ∷ End (codes "html") ∷ []

before : List ℕ → List Token
before title = head ++ (text_tokens title ++ body)

message : List ℕ → List Token
message text = start_tag (codes "pre") ∷ Char 10 ∷ text_tokens text ++ (End (codes "pre") ∷ [])

mail : Token
mail = start_tag_with (codes "div") (codes "class") (codes "mail")

text_page : List ℕ → List ℕ → List Token
text_page title text = before title ++ (mail ∷ message text ++ (End (codes "div") ∷ foot))

before_is_frame : (title : List ℕ) → is_frame (before title) ≡ true
unfolding before head body style_link is_frame_token opens_mail is_element message_elements frame_elements is_frame_attribute_name frame_attributes
before_is_frame title = is_frame-append head (text_tokens title ++ body) refl (is_frame-append (text_tokens title) body (is_frame-text title) refl)

message_is : (images : Bool) (own : List ℕ → Bool) (text : List ℕ) → list_all (is_message_token images own) (message text) ≡ true
unfolding message is_message_token is_message_element message_elements is_void message_void_elements frame_void_elements
message_is images own text = is_message-append images own (text_tokens text) (End (codes "pre") ∷ []) (is_message-text images own text) refl

message_nested : (text : List ℕ) → IsNested (message text)
unfolding message open_elements_after is_void message_void_elements frame_void_elements
message_nested text = open_after-text (codes "pre" ∷ []) text (End (codes "pre") ∷ [])

text_page_is_allowed : (title text : List ℕ) (images : Bool) (own : List ℕ → Bool) → IsAllowed (text_page title text) images own
unfolding text_page mail foot is_frame_token opens_mail is_element message_elements frame_elements is_frame_attribute_name frame_attributes
text_page_is_allowed title text images own = inr (record {
  before = before title;
  mail = mail;
  message = message text;
  after = foot;
  equals = refl;
  before_is_frame = before_is_frame title;
  opens = refl;
  is_a_message = message_is images own text;
  is_nested = message_nested text;
  after_is_frame = refl;
})

text_page_loads : (title text : List ℕ) → loads (text_page title text) ≡ codes "/site.css" ∷ []
unfolding text_page before head body style_link mail message foot loads
text_page_loads title text =
    let rest = mail ∷ message text ++ (End (codes "div") ∷ foot) in
    ap loads (append_assoc (text_tokens title) body rest)
    ∙ loads-past_text title (body ++ rest)
    ∙ ap (λ (xs : List (List ℕ)). codes "/site.css" ∷ xs)
    (ap loads (append_assoc (text_tokens text) (End (codes "pre") ∷ []) (End (codes "div") ∷ foot)) ∙ loads-past_text text (End (codes "pre") ∷ End (codes "div") ∷ foot))
