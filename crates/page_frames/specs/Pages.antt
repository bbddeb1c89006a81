-- The frame of every page, and what a browser makes of a page without a message.
use Rattle.std.specs.Prelude.{◌≡◌, ℕ, Bool, if◌then◌else◌, List, [], ◌∷◌, ◌++◌, codes, encode_utf8_all, IsTrue, IsUtf8}
use Rattle.std.specs.List.{AllByRecursion}
use Rattle.html_syntax.specs.Token.{Token}
use Rattle.html_syntax.specs.Token.Token.{Start, End, Doctype}
use Rattle.html_syntax.specs.Tokenizer.{tokens_of_bytes}
use Rattle.html_rules.specs.Tables.{Name}
use Rattle.html_rules.specs.Tokens.{start_tag, start_tag_with}
use Rattle.html_rules.specs.Nesting.{IsNested}
use Rattle.html_rules.specs.FrameTokens.{is_frame, style_sheet}
use Rattle.html_rules.specs.Allowed.{IsAllowed, loads}
use Rattle.page_writer.specs.Page.{spell, MayAppendAll}
use Rattle.page_frames.specs.Elements.{text, line_end, element, link}
use Rattle.page_frames.specs.Paths.{folders_path, compose_path, identities_path}

-- ---- the document

-- the only address that a page loads
abbrev pub style_link : Token
style_link = Start (codes "link") (record { name = codes "rel"; value = codes "stylesheet" } ∷ record { name = codes "href"; value = codes "/site.css" } ∷ [])

-- the beginning of the document's head, which says how its bytes are read
abbrev pub head_start : List Token
head_start = start_tag (codes "head") ∷ start_tag_with (codes "meta") (codes "charset") (codes "utf-8") ∷ []

-- the document's beginning
abbrev pub document_start : List Token
document_start = Doctype ∷ line_end ∷ start_tag_with (codes "html") (codes "lang") (codes "en") ∷ head_start

-- the document's head, which has its title
abbrev pub document_head : List ℕ → List Token
document_head title = document_start ++ element (codes "title") title ++ style_link ∷ End (codes "head") ∷ line_end ∷ []

-- the document's end
abbrev pub document_end : List Token
document_end = line_end ∷ End (codes "body") ∷ End (codes "html") ∷ line_end ∷ []

-- ---- the frame

unfoldable pub nav_links : List Token
nav_links = link folders_path (codes "Folders") ++ text (codes " ") ++ link compose_path (codes "Compose") ++ text (codes " ") ++ link identities_path (codes "Identities")

-- the links that every page of a session begins with
unfoldable pub nav : List Token
nav = start_tag_with (codes "p") (codes "class") (codes "nav") ∷ nav_links ++ End (codes "p") ∷ line_end ∷ []

abbrev pub nav_if : Bool → List Token
nav_if in_session = if in_session then nav else []

-- all that comes before the content
unfoldable pub page_start : List ℕ → Bool → List Token
page_start title in_session = document_head title ++ start_tag (codes "body") ∷ nav_if in_session

-- a page with this title and this content
unfoldable pub framed : List ℕ → Bool → List Token → List Token
framed title in_session content = page_start title in_session ++ content ++ document_end

-- the heading that a page's content begins with; its text is the page's title
unfoldable pub heading : List ℕ → List Token
heading title = element (codes "h1") title ++ line_end ∷ []

-- ---- what a browser makes of it

-- The bytes of the page read as its tokens. They are a frame without a message, so that the page is allowed whatever was requested, and
-- they are nested. All that a browser loads for it is the style sheet.
pub record IsFramePage (tokens : List Token) : Type 0 where
  pub reads : tokens_of_bytes (encode_utf8_all (spell tokens)) ≡ tokens
  pub frame : IsTrue (is_frame tokens)
  pub allowed : (images : Bool) (own : List ℕ → Bool) → IsAllowed tokens images own
  pub nested : IsNested tokens
  pub loads_style_sheet : AllByRecursion (λ address. address ≡ style_sheet) (loads tokens)

-- the elements that are open around a page's content, innermost first
abbrev pub around_content : List Name
around_content = codes "body" ∷ codes "html" ∷ []

-- tokens that a writer may append inside the body, and that leave it open as it was; none opens a message
pub record IsContent (content : List Token) : Type 0 where
  pub may_append : MayAppendAll around_content content around_content
  pub frame : IsTrue (is_frame content)

abbrev pub FramePagesAreSafe : Type 0
FramePagesAreSafe = (title : List ℕ) (in_session : Bool) (content : List Token) → IsUtf8 title → IsContent content → IsFramePage (framed title in_session content)
