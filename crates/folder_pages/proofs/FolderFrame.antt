-- The page that lists the folders is frame.
use Rattle.std.proofs.Common.{◌≡◌, ℕ, true, ◌&&◌, not, inl, inr, List, [], ◌∷◌, ◌++◌, codes, drop, refl, ap, ◌∙◌, append_assoc, Option, Some, None}
use Rattle.std.specs.Prelude.{find}
use Rattle.std.specs.List.{flat_map, slice_get}
use Rattle.std.specs.Str.{is_utf8}
use Rattle.std.specs.Str.Lossy.{utf8_lossy}
use Rattle.std.proofs.lemmas.Bool.{cases_Bool}
use Rattle.html_syntax.specs.Token.{Token}
use Rattle.html_syntax.specs.Token.Token.{End}
use Rattle.html_rules.specs.Tables.{Name, message_elements, frame_elements, is_element, frame_attributes, is_frame_attribute_name}
use Rattle.html_rules.specs.FrameTokens.{is_frame_token, is_frame, opens_mail}
use Rattle.html_rules.proofs.Parts.{is_frame-append}
use Rattle.mailbox_rows.specs.declared.row.Folder.{Folder}
use Rattle.page_writer.specs.Writer.{Page}
use Rattle.page_frames.specs.Elements.{text, with_tokens}
use Rattle.page_frames.specs.Paths.{list_address}
use Rattle.page_frames.specs.Pages.{page_start, document_end, heading, framed}
use Rattle.page_frames.proofs.Frame.{text_frame, after_text, link_frame, list_local, heading_frame, framed_frame}
use Rattle.folder_pages.proofs.Frame.{three_parts}
use Rattle.folder_pages.specs.Folders.{folder_order, is_closed, is_special_use, folder_name, use_words_of, use_words, folder_item, item_or_none, item_at, folders_start, folders_title, folder_page}

name_frame : (folder : Folder) → is_frame (folder_name folder) ≡ true
unfolding folder_name
name_frame folder =
    elim (cases_Bool (is_utf8 folder.name && not (is_closed folder))) [
      | inl linked ↦ rw linked (link_frame (list_address folder.name) folder.name (list_local folder.name))
      | inr bare ↦ rw bare (text_frame (utf8_lossy folder.name))
    ]

words_frame : (attribute : Option (List ℕ)) → is_frame (use_words_of attribute) ≡ true
words_frame None = refl
words_frame (Some attribute) = after_text (codes " ") (text (utf8_lossy (drop 1 attribute))) (text_frame (utf8_lossy (drop 1 attribute)))

item_frame : (folder : Folder) → is_frame (folder_item folder) ≡ true
unfolding folder_item use_words is_frame_token opens_mail is_element message_elements frame_elements
item_frame folder =
    is_frame-append (folder_name folder ++ use_words folder) (End (codes "li") ∷ [])
    (is_frame-append (folder_name folder) (use_words folder) (name_frame folder) (words_frame (find is_special_use folder.attributes))) refl

or_none_frame : (folder : Option Folder) → is_frame (item_or_none folder) ≡ true
or_none_frame None = refl
or_none_frame (Some folder) = item_frame folder

items_frame : (folders : List Folder) (order : List ℕ) → is_frame (flat_map (item_at folders) order) ≡ true
items_frame folders [] = refl
items_frame folders (place ∷ more) = is_frame-append (item_at folders place) (flat_map (item_at folders) more) (or_none_frame (slice_get folders place)) (items_frame folders more)

list_start_frame : (items : List Token) → is_frame items ≡ true → is_frame (folders_start ∷ items) ≡ true
unfolding is_frame_token opens_mail is_element message_elements frame_elements is_frame_attribute_name frame_attributes
list_start_frame items h = h

list_end_frame : is_frame (End (codes "ul") ∷ []) ≡ true
unfolding is_frame_token opens_mail is_element message_elements frame_elements
list_end_frame = refl

pub page_frame : (folders : List Folder) → is_frame (folder_page folders) ≡ true
unfolding folder_page
page_frame folders =
    let items = flat_map (item_at folders) (folder_order folders) in
    let title = heading folders_title in
    framed_frame folders_title true (title ++ (folders_start ∷ items) ++ End (codes "ul") ∷ [])
    (is_frame-append (title ++ (folders_start ∷ items)) (End (codes "ul") ∷ [])
    (is_frame-append title (folders_start ∷ items) (heading_frame folders_title) (list_start_frame items (items_frame folders (folder_order folders)))) list_end_frame)

-- what comes before the folders, the folders, and what comes after them
pub folder_parts : (folders : List Folder) → ((page_start folders_title true ++ heading folders_title ++ folders_start ∷ []) ++ flat_map (item_at folders) (folder_order folders)) ++ (End (codes "ul") ∷ document_end) ≡ folder_page folders
unfolding folder_page framed
folder_parts folders = simp append_assoc refl

pub written_frame : (p0 p1 p2 p3 : Page) (folders : List Folder) (o1 o2 o3 : List Name) → p0.written ≡ []
    → p1 ≡ with_tokens p0 (page_start folders_title true ++ heading folders_title ++ folders_start ∷ []) o1 → p2 ≡ with_tokens p1 (flat_map (item_at folders) (folder_order folders)) o2
    → p3 ≡ with_tokens p2 (End (codes "ul") ∷ document_end) o3 → is_frame p3.written ≡ true
written_frame p0 p1 p2 p3 folders o1 o2 o3 none one two three =
    let before : List Token = page_start folders_title true ++ heading folders_title ++ folders_start ∷ [] in
    let after : List Token = End (codes "ul") ∷ document_end in
    ap is_frame (three_parts p0 p1 p2 p3 before (flat_map (item_at folders) (folder_order folders)) after o1 o2 o3 none one two three ∙ folder_parts folders) ∙ page_frame folders
