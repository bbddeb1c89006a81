-- What pages are made of is frame, and opens no message.
use Rattle.std.proofs.Common.{◌≡◌, ℕ, Bool, true, false, not, ◌&&◌, List, [], ◌∷◌, ◌++◌, codes, refl, ap, map}
use Rattle.std.proofs.lemmas.Str.{chars-append}
use Rattle.std.specs.Str.{chars}
use Rattle.html_syntax.specs.Token.{Token}
use Rattle.html_syntax.specs.Token.Token.{End}
use Rattle.html_syntax.specs.Tokenizer.{same, replace_null}
use Rattle.html_rules.specs.Tables.{Name, message_elements, frame_elements, is_element, frame_attributes, is_frame_attribute_name}
use Rattle.html_rules.specs.Tokens.{start_tag}
use Rattle.html_rules.specs.FrameTokens.{is_frame_token, is_frame, opens_mail, is_local_address}
use Rattle.html_rules.proofs.Parts.{is_frame-append, is_frame-text}
use Rattle.account_pictures.specs.declared.records.Address.{Address}
use Rattle.mail_values.specs.Section.{spelling}
use Rattle.page_frames.specs.Elements.{text, line_end, element, link}
use Rattle.page_frames.specs.Paths.{folder_query, message_path, list_address, show_address, shown_part_address, part_address, images_address}
use Rattle.page_frames.specs.Forms.{form_start, form_end, form, hidden, visible, password, text_area_start, text_area}
use Rattle.page_frames.specs.Pages.{style_link, document_start, document_head, document_end, nav_links, nav, nav_if, page_start, framed, heading}

-- ---- elements

pub text_frame : (bytes : List ℕ) → is_frame (text bytes) ≡ true
text_frame bytes = is_frame-text (chars bytes)

pub after_text : (bytes : List ℕ) (rest : List Token) → is_frame rest ≡ true → is_frame (text bytes ++ rest) ≡ true
after_text bytes rest h = is_frame-append (text bytes) rest (text_frame bytes) h

not_mail : (b : Bool) → not (b && false) ≡ true
not_mail true = refl
not_mail false = refl

start_frame : (name : Name) → is_element name ≡ true → is_frame (start_tag name ∷ []) ≡ true
unfolding is_frame_token opens_mail
start_frame name h = rw (h, not_mail (same (codes "div") name)) refl

end_frame : (name : Name) → is_element name ≡ true → is_frame (End name ∷ []) ≡ true
unfolding is_frame_token opens_mail
end_frame name h = rw h refl

pub element_frame : (name content : List ℕ) → is_element name ≡ true → is_frame (element name content) ≡ true
element_frame name content h =
    is_frame-append (start_tag name ∷ []) (text content ++ End name ∷ []) (start_frame name h) (after_text content (End name ∷ []) (end_frame name h))

-- an address on the site itself, as a page has it
abbrev pub IsLocal : List ℕ → Type 0
IsLocal address = is_local_address (map replace_null (chars address)) ≡ true

pub link_frame : (address content : List ℕ) → IsLocal address → is_frame (link address content) ≡ true
unfolding is_frame_token opens_mail is_element message_elements frame_elements is_frame_attribute_name frame_attributes
link_frame address content h = rw h (after_text content (End (codes "a") ∷ []) refl)

-- ---- addresses

local_l : (rest : List ℕ) → IsLocal (codes "/l" ++ rest)
unfolding chars lib.Utf8.encode
local_l rest = ap (λ (cs : List ℕ). is_local_address (map replace_null cs)) (chars-append (codes "/l") rest (codes "/l", (refl, refl)))

local_s : (rest : List ℕ) → IsLocal (codes "/s" ++ rest)
unfolding chars lib.Utf8.encode
local_s rest = ap (λ (cs : List ℕ). is_local_address (map replace_null cs)) (chars-append (codes "/s") rest (codes "/s", (refl, refl)))

local_p : (rest : List ℕ) → IsLocal (codes "/p" ++ rest)
unfolding chars lib.Utf8.encode
local_p rest = ap (λ (cs : List ℕ). is_local_address (map replace_null cs)) (chars-append (codes "/p") rest (codes "/p", (refl, refl)))

pub list_local : (folder : List ℕ) → IsLocal (list_address folder)
unfolding list_address
list_local folder = local_l (codes "ist" ++ folder_query folder)

pub show_local : (at : Address) → IsLocal (show_address at)
unfolding show_address
show_local at = local_s (codes "how/" ++ message_path at.validity at.uid ++ folder_query at.folder)

pub shown_part_local : (at : Address) (section : List ℕ) → IsLocal (shown_part_address at section)
unfolding show_address shown_part_address
shown_part_local at section = local_s (codes "how/" ++ message_path at.validity at.uid ++ folder_query at.folder ++ codes "&part=" ++ spelling section)

pub part_local : (at : Address) (section : List ℕ) → IsLocal (part_address at section)
unfolding part_address
part_local at section = local_p (codes "art/" ++ message_path at.validity at.uid ++ codes "/" ++ spelling section ++ folder_query at.folder)

pub images_local : (at : Address) → IsLocal (images_address (show_address at))
unfolding show_address images_address
images_local at = local_s (codes "how/" ++ message_path at.validity at.uid ++ folder_query at.folder ++ codes "&images=1")

pub images_part_local : (at : Address) (section : List ℕ) → IsLocal (images_address (shown_part_address at section))
unfolding show_address shown_part_address images_address
images_part_local at section = local_s (codes "how/" ++ message_path at.validity at.uid ++ folder_query at.folder ++ codes "&part=" ++ spelling section ++ codes "&images=1")

-- ---- forms

form_start_frame : (path : List ℕ) → IsLocal path → is_frame (form_start path ∷ []) ≡ true
unfolding form_start is_frame_token opens_mail is_element message_elements frame_elements is_frame_attribute_name frame_attributes
form_start_frame path h = rw h refl

form_end_frame : (label : List ℕ) → is_frame (form_end label) ≡ true
unfolding form_end is_frame_token opens_mail is_element message_elements frame_elements
form_end_frame label = is_frame-append (element (codes "button") label) (End (codes "form") ∷ []) (element_frame (codes "button") label refl) refl

pub form_frame : (path : List ℕ) (inputs : List Token) (label : List ℕ) → IsLocal path → is_frame inputs ≡ true → is_frame (form path inputs label) ≡ true
form_frame path inputs label local h =
    is_frame-append (form_start path ∷ inputs) (form_end label) (is_frame-append (form_start path ∷ []) inputs (form_start_frame path local) h) (form_end_frame label)

pub hidden_frame : (name value : List ℕ) (rest : List Token) → is_frame rest ≡ true → is_frame (hidden name value ∷ rest) ≡ true
unfolding hidden is_frame_token opens_mail is_element message_elements frame_elements is_frame_attribute_name frame_attributes
hidden_frame name value rest h = h

pub visible_frame : (name value : List ℕ) (rest : List Token) → is_frame rest ≡ true → is_frame (visible name value ∷ rest) ≡ true
unfolding visible is_frame_token opens_mail is_element message_elements frame_elements is_frame_attribute_name frame_attributes
visible_frame name value rest h = h

pub password_frame : (name : List ℕ) (rest : List Token) → is_frame rest ≡ true → is_frame (password name ∷ rest) ≡ true
unfolding password is_frame_token opens_mail is_element message_elements frame_elements is_frame_attribute_name frame_attributes
password_frame name rest h = h

pub text_area_frame : (content : List ℕ) → is_frame (text_area content) ≡ true
unfolding text_area text_area_start is_frame_token opens_mail is_element message_elements frame_elements is_frame_attribute_name frame_attributes
text_area_frame content = after_text content (End (codes "textarea") ∷ []) refl

-- ---- the frame

pub heading_frame : (title : List ℕ) → is_frame (heading title) ≡ true
unfolding heading is_frame_token opens_mail is_element message_elements frame_elements
heading_frame title = is_frame-append (element (codes "h1") title) (line_end ∷ []) (element_frame (codes "h1") title refl) refl

pub head_frame : (title : List ℕ) → is_frame (document_head title) ≡ true
unfolding is_frame_token opens_mail is_element message_elements frame_elements is_frame_attribute_name frame_attributes
head_frame title =
    is_frame-append (document_start ++ element (codes "title") title) (style_link ∷ End (codes "head") ∷ line_end ∷ [])
    (is_frame-append document_start (element (codes "title") title) refl (element_frame (codes "title") title refl)) refl

nav_frame : (in_session : Bool) → is_frame (nav_if in_session) ≡ true
unfolding nav nav_links chars lib.Utf8.encode is_frame_token opens_mail is_element message_elements frame_elements is_frame_attribute_name frame_attributes
nav_frame true = refl
nav_frame false = refl

pub start_of_page_frame : (title : List ℕ) (in_session : Bool) → is_frame (page_start title in_session) ≡ true
unfolding page_start is_frame_token opens_mail is_element message_elements frame_elements
start_of_page_frame title in_session = is_frame-append (document_head title) (start_tag (codes "body") ∷ nav_if in_session) (head_frame title) (nav_frame in_session)

pub end_of_page_frame : is_frame document_end ≡ true
unfolding is_frame_token opens_mail is_element message_elements frame_elements
end_of_page_frame = refl

pub framed_frame : (title : List ℕ) (in_session : Bool) (content : List Token) → is_frame content ≡ true → is_frame (framed title in_session content) ≡ true
unfolding framed
framed_frame title in_session content h =
    is_frame-append (page_start title in_session ++ content) document_end (is_frame-append (page_start title in_session) content (start_of_page_frame title in_session) h) end_of_page_frame
