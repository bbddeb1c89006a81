-- A framed page may be written, so that it reads as written.
use Rattle.std.proofs.Common.{◌≡◌, ℕ, Bool, true, false, List, [], ◌∷◌, ◌++◌, codes, refl}
use Rattle.std.proofs.lemmas.Str.{scalars-chars}
use Rattle.std.specs.Str.{IsUtf8, chars}
use Rattle.html_syntax.specs.Token.{Token}
use Rattle.html_syntax.specs.Token.Token.{End}
use Rattle.html_rules.specs.Tables.{Name, message_elements, frame_elements, message_void_elements, frame_void_elements, text_only_elements, is_element, is_void, is_text_only, common_attributes, attribute_rows, link_attributes, frame_attributes, is_attribute_name}
use Rattle.html_rules.specs.Tokens.{start_tag}
use Rattle.html_rules.proofs.Facts.{same-refl}
use Rattle.page_writer.specs.Bytes.{AreTexts}
use Rattle.page_writer.specs.Page.{MayAppendAll, takes_tags}
use Rattle.page_writer.proofs.Held.{Leads-append, text_leads, start_may}
use Rattle.page_writer.proofs.Law.{law_of_bytes}
use Rattle.page_writer.proofs.Nesting.{open_after-led}
use Rattle.page_frames.specs.Elements.{text, line_end, element, link}
use Rattle.page_frames.specs.Paths.{folders_path, compose_path, identities_path}
use Rattle.page_frames.specs.Pages.{style_link, document_start, document_head, document_end, nav_links, nav, nav_if, page_start, framed, around_content, IsContent, IsFramePage}
use Rattle.page_frames.proofs.Frame.{framed_frame}
use Rattle.page_frames.proofs.Safe.{frame_page}

bytes_lead : (inside : List Name) (bytes : List ℕ) → IsUtf8 bytes → MayAppendAll inside (text bytes) inside
bytes_lead inside bytes utf8 = text_leads inside (chars bytes) (scalars-chars bytes utf8)

element_leads : (inside : List Name) (name content : List ℕ) → is_element name ≡ true → takes_tags inside ≡ true → is_void name ≡ false → IsUtf8 content → MayAppendAll inside (element name content) inside
unfolding MayAppendAll AreTexts
element_leads inside name content is takes holds utf8 = (
  start_may inside name [] (is, takes, refl, refl) refl,
  rw holds (Leads-append (name ∷ inside) (text content) (name ∷ inside) (End name ∷ []) inside (bytes_lead (name ∷ inside) content utf8) ((is, same-refl name), refl)),
)

link_leads : (inside : List Name) (address content : List ℕ) → takes_tags inside ≡ true → IsUtf8 address → IsUtf8 content → MayAppendAll inside (link address content) inside
unfolding MayAppendAll AreTexts message_elements frame_elements message_void_elements frame_void_elements is_element is_void common_attributes attribute_rows link_attributes frame_attributes is_attribute_name
link_leads inside address content takes address_utf8 utf8 = (
  start_may inside (codes "a") (record { name = codes "href"; value = chars address } ∷ []) (refl, takes, refl, refl) (rw (scalars-chars address address_utf8) refl),
  Leads-append (codes "a" ∷ inside) (text content) (codes "a" ∷ inside) (End (codes "a") ∷ []) inside (bytes_lead (codes "a" ∷ inside) content utf8) ((refl, refl), refl),
)

start_leads : MayAppendAll [] document_start (codes "head" ∷ codes "html" ∷ [])
unfolding MayAppendAll AreTexts message_elements frame_elements message_void_elements frame_void_elements text_only_elements is_element is_void is_text_only common_attributes attribute_rows link_attributes frame_attributes is_attribute_name
start_leads = (
  refl,
  (
    (refl, refl),
    (
      start_may [] (codes "html") (record { name = codes "lang"; value = codes "en" } ∷ []) (refl, refl, refl, refl) refl,
      (
        start_may (codes "html" ∷ []) (codes "head") [] (refl, refl, refl, refl) refl,
        (start_may (codes "head" ∷ codes "html" ∷ []) (codes "meta") (record { name = codes "charset"; value = codes "utf-8" } ∷ []) (refl, refl, refl, refl) refl, refl),
      ),
    ),
  ),
)

style_leads : MayAppendAll (codes "head" ∷ codes "html" ∷ []) (style_link ∷ End (codes "head") ∷ line_end ∷ []) (codes "html" ∷ [])
unfolding MayAppendAll AreTexts message_elements frame_elements message_void_elements frame_void_elements text_only_elements is_element is_void is_text_only common_attributes attribute_rows link_attributes frame_attributes is_attribute_name
style_leads = (
  start_may (codes "head" ∷ codes "html" ∷ []) (codes "link") (record { name = codes "rel"; value = codes "stylesheet" } ∷ record { name = codes "href"; value = codes "/site.css" } ∷ []) (refl, refl, refl, refl) refl,
  ((refl, refl), ((refl, refl), refl)),
)

head_leads : (title : List ℕ) → IsUtf8 title → MayAppendAll [] (document_head title) (codes "html" ∷ [])
unfolding message_elements frame_elements message_void_elements frame_void_elements text_only_elements is_element is_void is_text_only
head_leads title utf8 =
    let head = codes "head" ∷ codes "html" ∷ [] in
    Leads-append [] (document_start ++ element (codes "title") title) head (style_link ∷ End (codes "head") ∷ line_end ∷ []) (codes "html" ∷ [])
    (Leads-append [] document_start head (element (codes "title") title) head start_leads (element_leads head (codes "title") title refl refl refl utf8)) style_leads

-- ---- what is around the content

html : List Name
html = codes "html" ∷ []

in_nav : List Name
in_nav = codes "p" ∷ around_content

nav_links_lead : MayAppendAll in_nav nav_links in_nav
unfolding in_nav nav_links text_only_elements is_text_only chars lib.Utf8.encode
nav_links_lead =
    let folders = link folders_path (codes "Folders") in
    let compose = link compose_path (codes "Compose") in
    let identities = link identities_path (codes "Identities") in
    let blank = text (codes " ") in
    let blank_leads = bytes_lead in_nav (codes " ") (codes " ", (refl, refl)) in
    Leads-append in_nav (folders ++ blank ++ compose ++ blank) in_nav identities in_nav
    (Leads-append in_nav (folders ++ blank ++ compose) in_nav blank in_nav
    (Leads-append in_nav (folders ++ blank) in_nav compose in_nav
    (Leads-append in_nav folders in_nav blank in_nav (link_leads in_nav folders_path (codes "Folders") refl (codes "/", (refl, refl)) (codes "Folders", (refl, refl))) blank_leads)
    (link_leads in_nav compose_path (codes "Compose") refl (compose_path, (refl, refl)) (codes "Compose", (refl, refl))))
    blank_leads)
    (link_leads in_nav identities_path (codes "Identities") refl (identities_path, (refl, refl)) (codes "Identities", (refl, refl)))

nav_leads : MayAppendAll around_content nav around_content
unfolding in_nav nav MayAppendAll AreTexts message_elements frame_elements message_void_elements frame_void_elements text_only_elements is_element is_void is_text_only common_attributes attribute_rows link_attributes frame_attributes is_attribute_name
nav_leads = (
  start_may around_content (codes "p") (record { name = codes "class"; value = codes "nav" } ∷ []) (refl, refl, refl, refl) refl,
  Leads-append in_nav nav_links in_nav (End (codes "p") ∷ line_end ∷ []) around_content nav_links_lead ((refl, refl), ((refl, refl), refl)),
)

nav_if_leads : (in_session : Bool) → MayAppendAll around_content (nav_if in_session) around_content
unfolding MayAppendAll
nav_if_leads true = nav_leads
nav_if_leads false = refl

body_leads : (in_session : Bool) → MayAppendAll html (start_tag (codes "body") ∷ nav_if in_session) around_content
unfolding html MayAppendAll AreTexts message_elements frame_elements message_void_elements frame_void_elements text_only_elements is_element is_void is_text_only
body_leads in_session = (start_may html (codes "body") [] (refl, refl, refl, refl) refl, nav_if_leads in_session)

end_leads : MayAppendAll around_content document_end []
unfolding MayAppendAll message_elements frame_elements is_element
end_leads = ((refl, refl), ((refl, refl), ((refl, refl), ((refl, refl), refl))))

page_leads : (title : List ℕ) (in_session : Bool) (content : List Token) → IsUtf8 title → MayAppendAll around_content content around_content → MayAppendAll [] (framed title in_session content) []
unfolding html page_start framed
page_leads title in_session content utf8 may =
    let start = page_start title in_session in
    Leads-append [] (start ++ content) around_content document_end []
    (Leads-append [] start around_content content around_content
    (Leads-append [] (document_head title) html (start_tag (codes "body") ∷ nav_if in_session) around_content (head_leads title utf8) (body_leads in_session)) may) end_leads

pub frame_pages_safe : (title : List ℕ) (in_session : Bool) (content : List Token) → IsUtf8 title → IsContent content → IsFramePage (framed title in_session content)
frame_pages_safe title in_session content utf8 given =
    let page = framed title in_session content in
    let may = page_leads title in_session content utf8 given.may_append in
    frame_page page (framed_frame title in_session content given.frame) (law_of_bytes page [] may) (open_after-led [] page [] may)
