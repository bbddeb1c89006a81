-- The page of a message is allowed, and loads nothing else.
use Rattle.std.proofs.Common.{◌≡◌, ℕ, Bool, true, false, if◌then◌else◌, inr, List, [], ◌∷◌, ◌++◌, codes, inl, refl, sym, ap, subst, ◌∙◌, append_assoc, Option, Some, None, length, decimal}
use Rattle.std.proofs.lemmas.Bool.{cases_Bool}
use Rattle.std.specs.List.{list_all}
use Rattle.std.specs.Str.{chars}
use Rattle.html_syntax.specs.Token.{Token}
use Rattle.html_syntax.specs.Token.Token.{End}
use Rattle.html_rules.specs.Tables.{message_elements, frame_elements, message_void_elements, frame_void_elements, is_message_element, is_element, is_void, frame_attributes, is_frame_attribute_name}
use Rattle.html_rules.specs.Tokens.{start_tag, start_tag_with}
use Rattle.html_rules.specs.Nesting.{open_elements_after, IsNested}
use Rattle.html_rules.specs.MessageTokens.{is_message_token}
use Rattle.html_rules.specs.FrameTokens.{is_frame_token, is_frame, opens_mail}
use Rattle.html_rules.specs.Allowed.{IsAllowed}
use Rattle.html_rules.proofs.Nesting.{open_after-text}
use Rattle.html_rules.proofs.Parts.{is_frame-append, is_message-append, is_message-text, allowed_loads}
use Rattle.account_pictures.specs.declared.records.Address.{Address}
use Rattle.header_words.specs.Fields.{FieldValue, header_of, first_of}
use Rattle.header_words.specs.Value.{decoded_of}
use Rattle.mail_values.specs.Section.{spelling}
use Rattle.mime_tree.specs.declared.choice.Shown.{Shown}
use Rattle.mime_tree.specs.declared.choice.Shown.TheVariants.{Plain, Flowed, Html, Unread, Nothing}
use Rattle.mime_tree.specs.Best.{part_at}
use Rattle.mime_tree.specs.Opening.{tree_of}
use Rattle.mime_tree.specs.Tree.{PartValue, TreeValue}
use Rattle.flowed_text.specs.Paragraphs.{paras_of}
use Rattle.html_syntax.specs.Tokenizer.{tokens, tokens_of_bytes}
use Rattle.cid_parts.specs.Located.{located_parts}
use Rattle.wash_attributes.specs.declared.place.Place.{Place}
use Rattle.wash_attributes.specs.Addresses.{given_of, part_address}
use Rattle.wash_attributes.specs.Soundness.{is_part_address}
use Rattle.wash_attributes.proofs.Sound.{references_sound}
use Rattle.html_wash.specs.Wash.{start, wash_from, wash}
use Rattle.html_wash.specs.Law.{IsWashed}
use Rattle.html_wash.proofs.Law.{washed_is_allowed}
use Rattle.page_frames.specs.Elements.{text, element, line_end, link}
use Rattle.page_frames.specs.Paths.{part_address as frame_part_address, images_address, flag_path, delete_path, move_path}
use Rattle.page_frames.specs.Forms.{hidden, visible}
use Rattle.page_frames.specs.Pages.{page_start, heading, document_end}
use Rattle.page_frames.proofs.Frame.{text_frame, after_text, IsLocal, link_frame, part_local, images_local, images_part_local, form_frame, hidden_frame, visible_frame, heading_frame, start_of_page_frame, end_of_page_frame}
use Rattle.mail_pages.specs.declared.frame.Frame.{Frame}
use Rattle.mail_pages.specs.declared.frame.Frame.TheVariants as frame
use Rattle.mail_pages.specs.Place.{in_session, address_in, place_at, site_place}
use Rattle.mail_pages.specs.Head.{field_row, row_of_field, row_of, field_rows, title_of, field_table, page_head}
use Rattle.mail_pages.specs.Parts.{part_link, name_words, part_words, part_item, is_leaf, leaf_item, part_items, part_list}
use Rattle.mail_pages.specs.Offer.{page_address, images_link, images_paragraph, offers_images, offer_in, images_offer}
use Rattle.mail_pages.specs.Actions.{message_inputs, seen_inputs, seen_form, delete_form, move_form, message_forms, actions}
use Rattle.mail_pages.specs.Mail.{choice, decoded_text, references_in, washed_html, html_part, plain_text, text_of_part, paragraph, unread_words, plain_part, unread_part, flowed_tokens, flowed_part, mail_of, mail_or_none}
use Rattle.mail_pages.specs.ShowPage.{shown_of, mail, page_foot, page_of, page_bytes, is_own, IsSafe}
use Rattle.mail_pages.proofs.Quotes.{flowed_message, flowed_nested}

-- ---- the head

th_frame : (name : List ℕ) → is_frame (element (codes "th") name) ≡ true
unfolding is_frame_token opens_mail is_element message_elements frame_elements
th_frame name = after_text name (End (codes "th") ∷ []) refl

td_frame : (value : List ℕ) → is_frame (element (codes "td") value) ≡ true
unfolding is_frame_token opens_mail is_element message_elements frame_elements
td_frame value = after_text value (End (codes "td") ∷ []) refl

row_frame : (name value : List ℕ) → is_frame (field_row name value) ≡ true
unfolding is_frame_token opens_mail is_element message_elements frame_elements
row_frame name value =
    is_frame-append (start_tag (codes "tr") ∷ element (codes "th") name ++ element (codes "td") value) (End (codes "tr") ∷ [])
    (is_frame-append (element (codes "th") name) (element (codes "td") value) (th_frame name) (td_frame value)) refl

found_frame : (name : List ℕ) (field : Option FieldValue) → is_frame (row_of_field name field) ≡ true
found_frame name None = refl
found_frame name (Some field) = row_frame name (decoded_of field.lines)

rows_frame : (fields : List FieldValue) → is_frame (field_rows fields) ≡ true
rows_frame fields =
    is_frame-append (row_of fields (codes "From") ++ row_of fields (codes "To") ++ row_of fields (codes "Cc")) (row_of fields (codes "Date"))
    (is_frame-append (row_of fields (codes "From") ++ row_of fields (codes "To")) (row_of fields (codes "Cc"))
    (is_frame-append (row_of fields (codes "From")) (row_of fields (codes "To")) (found_frame (codes "From") (first_of (codes "From") fields)) (found_frame (codes "To") (first_of (codes "To") fields)))
    (found_frame (codes "Cc") (first_of (codes "Cc") fields)))
    (found_frame (codes "Date") (first_of (codes "Date") fields))

table_frame : (fields : List FieldValue) → is_frame (field_table fields) ≡ true
unfolding field_table is_frame_token opens_mail is_element message_elements frame_elements is_frame_attribute_name frame_attributes
table_frame fields = is_frame-append (start_tag_with (codes "table") (codes "class") (codes "head") ∷ field_rows fields) (End (codes "table") ∷ line_end ∷ []) (rows_frame fields) refl

head_frame : (fields : List FieldValue) (in_session : Bool) → is_frame (page_head fields in_session) ≡ true
unfolding page_head
head_frame fields in_session =
    is_frame-append (page_start (title_of fields) in_session ++ heading (title_of fields)) (field_table fields)
    (is_frame-append (page_start (title_of fields) in_session) (heading (title_of fields)) (start_of_page_frame (title_of fields) in_session) (heading_frame (title_of fields)))
    (table_frame fields)

-- ---- the list of parts

-- a link to a part, and a picture that is a part, have the address that all pages have for it
same_address : (at : Address) (section : List ℕ) → part_address (place_at at) section ≡ frame_part_address at section
unfolding place_at frame_part_address
same_address at section = refl

part_address_local : (at : Address) (section : List ℕ) → IsLocal (part_address (place_at at) section)
part_address_local at section = subst (λ (address : List ℕ). IsLocal address) (sym (same_address at section)) (part_local at section)

part_link_frame : (at : Address) (section : List ℕ) → is_frame (part_link (place_at at) section) ≡ true
unfolding part_link
part_link_frame at section = link_frame (part_address (place_at at) section) (spelling section) (part_address_local at section)

name_frame : (name : List ℕ) → is_frame (name_words name) ≡ true
name_frame [] = refl
name_frame (b ∷ bs) = after_text (codes " ") (text (b ∷ bs)) (text_frame (b ∷ bs))

words_frame : (p : PartValue) → is_frame (part_words p) ≡ true
unfolding part_words
words_frame p =
    is_frame-append (text (codes " ") ++ text p.mime ++ name_words p.name ++ text (codes " ")) (text (decimal (length p.bytes)))
    (is_frame-append (text (codes " ") ++ text p.mime ++ name_words p.name) (text (codes " "))
    (is_frame-append (text (codes " ") ++ text p.mime) (name_words p.name) (after_text (codes " ") (text p.mime) (text_frame p.mime)) (name_frame p.name))
    (text_frame (codes " ")))
    (text_frame (decimal (length p.bytes)))

item_frame : (at : Address) (p : PartValue) → is_frame (part_item (place_at at) p) ≡ true
unfolding is_frame_token opens_mail is_element message_elements frame_elements is_frame_attribute_name frame_attributes
item_frame at p =
    is_frame-append (start_tag (codes "li") ∷ part_link (place_at at) p.section ++ part_words p) (End (codes "li") ∷ [])
    (is_frame-append (start_tag (codes "li") ∷ part_link (place_at at) p.section) (part_words p) (part_link_frame at p.section) (words_frame p)) refl

leaf_frame : (at : Address) (p : PartValue) → is_frame (leaf_item (place_at at) p) ≡ true
leaf_frame at p = elim (cases_Bool (is_leaf p)) [ inl leaf ↦ rw leaf (item_frame at p) | inr holds ↦ rw holds refl ]

items_frame : (at : Address) (parts : List PartValue) → is_frame (part_items (place_at at) parts) ≡ true
items_frame at [] = refl
items_frame at (p ∷ ps) = is_frame-append (leaf_item (place_at at) p) (part_items (place_at at) ps) (leaf_frame at p) (items_frame at ps)

parts_frame : (at : Address) (parts : List PartValue) → is_frame (part_list (place_at at) parts) ≡ true
unfolding part_list is_frame_token opens_mail is_element message_elements frame_elements is_frame_attribute_name frame_attributes
parts_frame at parts = is_frame-append (start_tag_with (codes "ul") (codes "class") (codes "parts") ∷ part_items (place_at at) parts) (End (codes "ul") ∷ []) (items_frame at parts) refl

-- ---- the offer of remote images

paragraph_frame : (address : List ℕ) → IsLocal (images_address address) → is_frame (images_paragraph address) ≡ true
unfolding images_paragraph images_link is_frame_token opens_mail is_element message_elements frame_elements is_frame_attribute_name frame_attributes
paragraph_frame address local =
    is_frame-append (start_tag_with (codes "p") (codes "class") (codes "images") ∷ link (images_address address) (codes "Show remote images")) (End (codes "p") ∷ line_end ∷ [])
    (link_frame (images_address address) (codes "Show remote images") local) refl

page_local : (at : Address) (part : Option (List ℕ)) → IsLocal (images_address (page_address at part))
page_local at None = images_local at
page_local at (Some section) = images_part_local at section

offer_in_frame : (f : Frame) (part : Option (List ℕ)) → is_frame (offer_in f part) ≡ true
offer_in_frame frame.Plain part = refl
offer_in_frame (frame.Session at key) part = paragraph_frame (page_address at part) (page_local at part)

if_frame : (b : Bool) (ts : List Token) → is_frame ts ≡ true → is_frame (if b then ts else []) ≡ true
if_frame true ts h = h
if_frame false ts h = refl

offer_frame : (f : Frame) (tree : TreeValue) (part : Option (List ℕ)) (images : Bool) → is_frame (images_offer f tree part images) ≡ true
unfolding images_offer
offer_frame f tree part images = if_frame (offers_images f tree part images) (offer_in f part) (offer_in_frame f part)

-- ---- the forms

inputs_frame : (at : Address) (key : List ℕ) → is_frame (message_inputs at key) ≡ true
unfolding message_inputs
inputs_frame at key =
    let uid : List Token = hidden (codes "u") (decimal at.uid) ∷ [] in
    let validity : List Token = hidden (codes "v") (decimal at.validity) ∷ uid in
    let folder : List Token = hidden (codes "f") at.folder ∷ validity in
    hidden_frame (codes "key") key folder
    (hidden_frame (codes "f") at.folder validity (hidden_frame (codes "v") (decimal at.validity) uid (hidden_frame (codes "u") (decimal at.uid) [] refl)))

seen_inputs_frame : (on : List ℕ) → is_frame (seen_inputs on) ≡ true
unfolding seen_inputs
seen_inputs_frame on = hidden_frame (codes "flag") (codes "Seen") (hidden (codes "on") on ∷ []) (hidden_frame (codes "on") on [] refl)

flag_local : IsLocal flag_path
unfolding chars lib.Utf8.encode
flag_local = refl

delete_local : IsLocal delete_path
unfolding chars lib.Utf8.encode
delete_local = refl

move_local : IsLocal move_path
unfolding chars lib.Utf8.encode
move_local = refl

seen_frame : (at : Address) (key on label : List ℕ) → is_frame (seen_form at key on label) ≡ true
unfolding seen_form
seen_frame at key on label =
    form_frame flag_path (message_inputs at key ++ seen_inputs on) label flag_local
    (is_frame-append (message_inputs at key) (seen_inputs on) (inputs_frame at key) (seen_inputs_frame on))

delete_frame : (at : Address) (key : List ℕ) → is_frame (delete_form at key) ≡ true
unfolding delete_form
delete_frame at key = form_frame delete_path (message_inputs at key) (codes "Delete") delete_local (inputs_frame at key)

move_frame : (at : Address) (key : List ℕ) → is_frame (move_form at key) ≡ true
unfolding move_form
move_frame at key =
    form_frame move_path (message_inputs at key ++ visible (codes "to") [] ∷ []) (codes "Move") move_local
    (is_frame-append (message_inputs at key) (visible (codes "to") [] ∷ []) (inputs_frame at key) (visible_frame (codes "to") [] [] refl))

forms_frame : (at : Address) (key : List ℕ) → is_frame (message_forms at key) ≡ true
unfolding message_forms is_frame_token opens_mail
forms_frame at key =
    let read = seen_form at key (codes "1") (codes "Mark as read") in
    let unread = seen_form at key (codes "0") (codes "Mark as unread") in
    is_frame-append (line_end ∷ read ++ unread ++ delete_form at key) (move_form at key)
    (is_frame-append (line_end ∷ read ++ unread) (delete_form at key)
    (is_frame-append (line_end ∷ read) unread (seen_frame at key (codes "1") (codes "Mark as read")) (seen_frame at key (codes "0") (codes "Mark as unread")))
    (delete_frame at key))
    (move_frame at key)

actions_frame : (f : Frame) → is_frame (actions f) ≡ true
actions_frame frame.Plain = refl
actions_frame (frame.Session at key) = forms_frame at key

-- ---- the page

before : Frame → List ℕ → Option (List ℕ) → Bool → List Token
before f message part images = page_head (header_of message).fields (in_session f) ++ images_offer f (tree_of message) part images

after : Frame → List PartValue → List Token
after f parts = line_end ∷ part_list (site_place f) parts ++ actions f ++ document_end

before_frame : (f : Frame) (message : List ℕ) (part : Option (List ℕ)) (images : Bool) → is_frame (before f message part images) ≡ true
unfolding before
before_frame f message part images =
    is_frame-append (page_head (header_of message).fields (in_session f)) (images_offer f (tree_of message) part images)
    (head_frame (header_of message).fields (in_session f)) (offer_frame f (tree_of message) part images)

after_frame : (f : Frame) (parts : List PartValue) → is_frame (after f parts) ≡ true
unfolding after is_frame_token opens_mail
after_frame f parts =
    is_frame-append (line_end ∷ part_list (site_place f) parts ++ actions f) document_end
    (is_frame-append (line_end ∷ part_list (site_place f) parts) (actions f) (parts_frame (address_in f) parts) (actions_frame f))
    end_of_page_frame

-- ---- what is shown

plain_is : (images : Bool) (own : List ℕ → Bool) (content : List ℕ) → list_all (is_message_token images own) (plain_text content) ≡ true
unfolding plain_text is_message_token is_message_element message_elements is_void message_void_elements frame_void_elements
plain_is images own content = is_message-append images own (text content) (End (codes "pre") ∷ []) (is_message-text images own (chars content)) refl

paragraph_is : (images : Bool) (own : List ℕ → Bool) (content : List ℕ) → list_all (is_message_token images own) (paragraph content) ≡ true
unfolding paragraph is_message_token is_message_element message_elements is_void message_void_elements frame_void_elements
paragraph_is images own content = is_message-append images own (text content) (End (codes "p") ∷ []) (is_message-text images own (chars content)) refl

plain_part_is : (images : Bool) (own : List ℕ → Bool) (p : Option PartValue) → list_all (is_message_token images own) (plain_part p) ≡ true
plain_part_is images own None = refl
plain_part_is images own (Some p) = plain_is images own (text_of_part p)

unread_part_is : (images : Bool) (own : List ℕ → Bool) (p : Option PartValue) → list_all (is_message_token images own) (unread_part p) ≡ true
unread_part_is images own None = refl
unread_part_is images own (Some p) = paragraph_is images own (unread_words p)

flowed_part_is : (images : Bool) (own : List ℕ → Bool) (del_sp : Bool) (p : Option PartValue) → list_all (is_message_token images own) (flowed_part del_sp p) ≡ true
unfolding flowed_tokens
flowed_part_is images own del_sp None = refl
flowed_part_is images own del_sp (Some p) = flowed_message images own (paras_of (decoded_text p) del_sp)

-- what is washed is a message's, with the parts that addresses may name as its own
washed : (place : Place) (parts : List PartValue) (images : Bool) (p : PartValue) → IsWashed (given_of (references_in parts p) place images) (is_part_address place (located_parts parts)) start (tokens (chars (decoded_text p))) (wash_from (given_of (references_in parts p) place images) start (tokens (chars (decoded_text p))))
washed place parts images p = washed_is_allowed (given_of (references_in parts p) place images) (is_part_address place (located_parts parts)) start (tokens (chars (decoded_text p))) (references_sound (references_in parts p) place images) refl tt

html_part_is : (place : Place) (parts : List PartValue) (images : Bool) (p : Option PartValue) → list_all (is_message_token images (is_part_address place (located_parts parts))) (html_part place parts images p) ≡ true
unfolding washed_html wash given_of
html_part_is place parts images None = refl
html_part_is place parts images (Some p) = (washed place parts images p).message

mail_is : (place : Place) (parts : List PartValue) (images : Bool) (shown : Shown) → list_all (is_message_token images (is_part_address place (located_parts parts))) (mail_of place parts images shown) ≡ true
unfolding mail_of
mail_is place parts images (Plain section) = plain_part_is images (is_part_address place (located_parts parts)) (part_at section parts)
mail_is place parts images (Unread section) = unread_part_is images (is_part_address place (located_parts parts)) (part_at section parts)
mail_is place parts images Nothing = paragraph_is images (is_part_address place (located_parts parts)) (codes "No text to show.")
mail_is place parts images (Flowed section del_sp) = flowed_part_is images (is_part_address place (located_parts parts)) del_sp (part_at section parts)
mail_is place parts images (Html section) = html_part_is place parts images (part_at section parts)

mail_or_none_is : (place : Place) (parts : List PartValue) (images : Bool) (shown : Option Shown) → list_all (is_message_token images (is_part_address place (located_parts parts))) (mail_or_none place parts images shown) ≡ true
mail_or_none_is place parts images (Some shown) = mail_is place parts images shown
mail_or_none_is place parts images None = refl

message_is : (f : Frame) (message : List ℕ) (part : Option (List ℕ)) (images : Bool) → list_all (is_message_token images (is_own f message)) (shown_of f message part images) ≡ true
unfolding shown_of
message_is f message part images = mail_or_none_is (site_place f) (tree_of message).parts images (choice (tree_of message) part)

plain_nested : (content : List ℕ) → IsNested (plain_text content)
unfolding plain_text open_elements_after is_void message_void_elements frame_void_elements
plain_nested content = open_after-text (codes "pre" ∷ []) (chars content) (End (codes "pre") ∷ [])

paragraph_nested : (content : List ℕ) → IsNested (paragraph content)
unfolding paragraph open_elements_after is_void message_void_elements frame_void_elements
paragraph_nested content = open_after-text (codes "p" ∷ []) (chars content) (End (codes "p") ∷ [])

nothing_nested : IsNested []
unfolding open_elements_after
nothing_nested = refl

plain_part_nested : (p : Option PartValue) → IsNested (plain_part p)
plain_part_nested None = nothing_nested
plain_part_nested (Some p) = plain_nested (text_of_part p)

unread_part_nested : (p : Option PartValue) → IsNested (unread_part p)
unread_part_nested None = nothing_nested
unread_part_nested (Some p) = paragraph_nested (unread_words p)

flowed_part_nested : (del_sp : Bool) (p : Option PartValue) → IsNested (flowed_part del_sp p)
unfolding flowed_tokens
flowed_part_nested del_sp None = nothing_nested
flowed_part_nested del_sp (Some p) = flowed_nested (paras_of (decoded_text p) del_sp)

html_part_nested : (place : Place) (parts : List PartValue) (images : Bool) (p : Option PartValue) → IsNested (html_part place parts images p)
unfolding washed_html wash
html_part_nested place parts images None = nothing_nested
html_part_nested place parts images (Some p) = (washed place parts images p).nested

mail_nested : (place : Place) (parts : List PartValue) (images : Bool) (shown : Shown) → IsNested (mail_of place parts images shown)
unfolding mail_of
mail_nested place parts images (Plain section) = plain_part_nested (part_at section parts)
mail_nested place parts images (Unread section) = unread_part_nested (part_at section parts)
mail_nested place parts images Nothing = paragraph_nested (codes "No text to show.")
mail_nested place parts images (Flowed section del_sp) = flowed_part_nested del_sp (part_at section parts)
mail_nested place parts images (Html section) = html_part_nested place parts images (part_at section parts)

mail_or_none_nested : (place : Place) (parts : List PartValue) (images : Bool) (shown : Option Shown) → IsNested (mail_or_none place parts images shown)
mail_or_none_nested place parts images (Some shown) = mail_nested place parts images shown
mail_or_none_nested place parts images None = nothing_nested

message_nested : (f : Frame) (message : List ℕ) (part : Option (List ℕ)) (images : Bool) → IsNested (shown_of f message part images)
unfolding shown_of
message_nested f message part images = mail_or_none_nested (site_place f) (tree_of message).parts images (choice (tree_of message) part)

-- the page with its message in its place
in_place : (f : Frame) (message : List ℕ) (part : Option (List ℕ)) (images : Bool) → page_of f message part images ≡ before f message part images ++ (mail ∷ shown_of f message part images ++ (End (codes "div") ∷ after f (tree_of message).parts))
unfolding page_of page_foot before after
in_place f message part images =
    append_assoc (page_head (header_of message).fields (in_session f) ++ images_offer f (tree_of message) part images) (mail ∷ shown_of f message part images) (page_foot f (tree_of message).parts)

pub allowed : (f : Frame) (message : List ℕ) (part : Option (List ℕ)) (images : Bool) → IsAllowed (page_of f message part images) images (is_own f message)
unfolding is_frame_token opens_mail is_element message_elements frame_elements is_frame_attribute_name frame_attributes
allowed f message part images = inr (record {
  before = before f message part images;
  mail = mail;
  message = shown_of f message part images;
  after = after f (tree_of message).parts;
  equals = in_place f message part images;
  before_is_frame = before_frame f message part images;
  opens = refl;
  is_a_message = message_is f message part images;
  is_nested = message_nested f message part images;
  after_is_frame = after_frame f (tree_of message).parts;
})

-- the page of a message, read back and nested
pub safe : (f : Frame) (message : List ℕ) (part : Option (List ℕ)) (images : Bool) (bytes : List ℕ) → bytes ≡ page_bytes f message part images → tokens_of_bytes bytes ≡ page_of f message part images → IsNested (page_of f message part images) → IsSafe f message part images
safe f message part images bytes is reads nested = record {
  reads = ap tokens_of_bytes (sym is) ∙ reads;
  allowed = allowed f message part images;
  nested = nested;
  loads_allowed = allowed_loads (page_of f message part images) images (is_own f message) (allowed f message part images);
}
