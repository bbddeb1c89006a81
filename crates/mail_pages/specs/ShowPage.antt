-- The page of a message, as its tokens, and what a browser makes of it.
use Rattle.std.specs.Prelude.{◌≡◌, ◌≢◌, ◌↔◌, ℕ, Bool, true, false, List, ◌∷◌, ◌++◌, codes, encode_utf8_all, Option, None, is_some, IsTrue}
use Rattle.std.specs.List.{AllByRecursion}
use Rattle.html_syntax.specs.Token.{Token}
use Rattle.html_syntax.specs.Token.Token.{End}
use Rattle.html_syntax.specs.Tokenizer.{tokens_of_bytes}
use Rattle.html_rules.specs.Nesting.{IsNested}
use Rattle.html_rules.specs.Tokens.{start_tag_with}
use Rattle.html_rules.specs.Allowed.{IsAllowed, loads, may_load}
use Rattle.page_writer.specs.Page.{spell}
use Rattle.header_words.specs.Fields.{header_of}
use Rattle.mime_tree.specs.declared.choice.Shown.{Shown}
use Rattle.mime_tree.specs.Opening.{tree_of}
use Rattle.mime_tree.specs.Tree.{PartValue}
use Rattle.cid_parts.specs.Located.{located_parts}
use Rattle.wash_attributes.specs.Soundness.{is_part_address}
use Rattle.page_frames.specs.Elements.{line_end}
use Rattle.page_frames.specs.Pages.{document_end}
use Rattle.mail_pages.specs.declared.frame.Frame.{Frame}
use Rattle.mail_pages.specs.Place.{in_session, site_place}
use Rattle.mail_pages.specs.Head.{page_head}
use Rattle.mail_pages.specs.Parts.{part_list}
use Rattle.mail_pages.specs.Actions.{actions}
use Rattle.mail_pages.specs.Mail.{choice, mail_or_none}
use Rattle.mail_pages.specs.Offer.{offers_images, images_offer}

-- ---- its tokens

-- the tokens of what is shown of a message
unfoldable pub shown_of : Frame → List ℕ → Option (List ℕ) → Bool → List Token
shown_of frame message part images = mail_or_none (site_place frame) (tree_of message).parts images (choice (tree_of message) part)

-- what is shown is in this element
abbrev pub mail : Token
mail = start_tag_with (codes "div") (codes "class") (codes "mail")

-- all that comes after what is shown
unfoldable pub page_foot : Frame → List PartValue → List Token
page_foot frame parts = End (codes "div") ∷ line_end ∷ part_list (site_place frame) parts ++ actions frame ++ document_end

-- the tokens of the page of a message
unfoldable pub page_of : Frame → List ℕ → Option (List ℕ) → Bool → List Token
page_of frame message part images =
    page_head (header_of message).fields (in_session frame)
    ++ images_offer frame (tree_of message) part images
    ++ mail ∷ shown_of frame message part images
    ++ page_foot frame (tree_of message).parts

-- the bytes of the page of a message
unfoldable pub page_bytes : Frame → List ℕ → Option (List ℕ) → Bool → List ℕ
page_bytes frame message part images = encode_utf8_all (spell (page_of frame message part images))

-- ---- what a browser makes of it

-- the addresses of the message's own parts, as a page has them: of all parts that aren't in a message in the message
abbrev pub is_own : Frame → List ℕ → List ℕ → Bool
is_own frame message address = is_part_address (site_place frame) (located_parts (tree_of message).parts) address

-- What a browser makes of the page: it reads the page's tokens, all of them are allowed and nested, and of itself it loads the
-- style sheet, the message's own parts and, if `images`, addresses of the web: nothing else.
pub record IsSafe (frame : Frame) (message : List ℕ) (part : Option (List ℕ)) (images : Bool) : Type 0 where
  pub reads : tokens_of_bytes (page_bytes frame message part images) ≡ page_of frame message part images
  pub allowed : IsAllowed (page_of frame message part images) images (is_own frame message)
  pub nested : IsNested (page_of frame message part images)
  pub loads_allowed : AllByRecursion (λ address. IsTrue (may_load images (is_own frame message) address)) (loads (page_of frame message part images))

-- ---- what is shown

-- what is shown if this part, or none, is requested
abbrev pub shown_at : List ℕ → Option (List ℕ) → Option Shown
shown_at message part = choice (tree_of message) part

abbrev pub IsShown : List ℕ → Option (List ℕ) → Type 0
IsShown message part = is_some (shown_at message part) ≡ true

abbrev pub IsMissing : List ℕ → Option (List ℕ) → Type 0
IsMissing message part = shown_at message part ≡ None

-- ---- remote images

-- what is shown is other tokens if remote images are requested
abbrev pub ImagesChangeShown : Frame → List ℕ → Option (List ℕ) → Type 0
ImagesChangeShown frame message part = shown_of frame message part true ≢ shown_of frame message part false

-- The page offers remote images if and only if it is a session's, they weren't requested, and requesting them would change what is
-- shown.
abbrev pub OffersChangeWhatIsShown : Frame → List ℕ → Option (List ℕ) → Bool → Type 0
OffersChangeWhatIsShown frame message part images =
    IsTrue (offers_images frame (tree_of message) part images)
    ↔ ((in_session frame ≡ true) × (images ≡ false) × ImagesChangeShown frame message part)
