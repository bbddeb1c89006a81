-- The paragraph that offers remote images, and when a page has it.
use Rattle.std.specs.Prelude.{ℕ, Bool, false, not, ◌&&◌, if◌then◌else◌, List, [], ◌∷◌, ◌++◌, codes, chars, Option, Some, None}
use Rattle.html_syntax.specs.Token.{Token}
use Rattle.html_syntax.specs.Token.Token.{End}
use Rattle.html_syntax.specs.Tokenizer.{tokens}
use Rattle.html_rules.specs.Tokens.{start_tag_with}
use Rattle.account_pictures.specs.declared.records.Address.{Address}
use Rattle.mime_tree.specs.declared.choice.Shown.{Shown}
use Rattle.mime_tree.specs.declared.choice.Shown.TheVariants.{Plain, Flowed, Html, Unread, Nothing}
use Rattle.mime_tree.specs.Best.{part_at}
use Rattle.mime_tree.specs.Tree.{PartValue, TreeValue}
use Rattle.page_frames.specs.Elements.{line_end, link}
use Rattle.page_frames.specs.Paths.{show_address, shown_part_address, images_address}
use Rattle.remote_images.specs.Remote.{has_remote_images}
use Rattle.mail_pages.specs.declared.frame.Frame.{Frame}
use Rattle.mail_pages.specs.declared.frame.Frame.TheVariants as frame
use Rattle.mail_pages.specs.Mail.{choice, decoded_text, references_in}

-- the address of the page itself, if this part, or none, was requested
abbrev pub page_address : Address → Option (List ℕ) → List ℕ
page_address at None = show_address at
page_address at (Some section) = shown_part_address at section

-- the link from a page of this address to the same page with remote images
unfoldable pub images_link : List ℕ → List Token
images_link address = link (images_address address) (codes "Show remote images")

unfoldable pub images_paragraph : List ℕ → List Token
images_paragraph address = start_tag_with (codes "p") (codes "class") (codes "images") ∷ images_link address ++ End (codes "p") ∷ line_end ∷ []

-- ---- when

-- the HTML of a part has a remote picture
unfoldable pub html_has_images : List PartValue → PartValue → Bool
html_has_images parts p = has_remote_images (references_in parts p) (tokens (chars (decoded_text p)))

abbrev pub part_has_images : List PartValue → Option PartValue → Bool
part_has_images parts None = false
part_has_images parts (Some p) = html_has_images parts p

-- what is shown has a remote picture
abbrev pub has_images : List PartValue → Shown → Bool
has_images parts (Plain section) = false
has_images parts (Flowed section del_sp) = false
has_images parts (Html section) = part_has_images parts (part_at section parts)
has_images parts (Unread section) = false
has_images parts Nothing = false

abbrev pub has_images_or_none : List PartValue → Option Shown → Bool
has_images_or_none parts None = false
has_images_or_none parts (Some shown) = has_images parts shown

-- a page offers remote images: it is a session's, they weren't requested, and what is shown has some
abbrev pub offers_images : Frame → TreeValue → Option (List ℕ) → Bool → Bool
offers_images frame.Plain tree part images = false
offers_images (frame.Session at key) tree part images = not images && has_images_or_none tree.parts (choice tree part)

abbrev pub offer_in : Frame → Option (List ℕ) → List Token
offer_in frame.Plain part = []
offer_in (frame.Session at key) part = images_paragraph (page_address at part)

-- the paragraph, if the page offers remote images
unfoldable pub images_offer : Frame → TreeValue → Option (List ℕ) → Bool → List Token
images_offer frame tree part images = if offers_images frame tree part images then offer_in frame part else []
