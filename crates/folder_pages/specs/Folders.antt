-- The page that lists the folders.
use Rattle.std.specs.Prelude.{ℕ, suc, Bool, true, not, ◌&&◌, ◌||◌, if◌then◌else◌, List, [], ◌∷◌, ◌++◌, codes, map, drop, Option, Some, None, find}
use Rattle.std.specs.Borrow.{Bor}
use Rattle.std.specs.List.{list_any, flat_map, slice_get}
use Rattle.std.specs.Ordering.{is_lt, nat_cmp, bool_cmp, ordering_then}
use Rattle.std.specs.declared.cmp.Ordering.{Ordering}
use Rattle.std.specs.Cmp.Lexicographic.{slice_cmp}
use Rattle.std.specs.Str.{bytes_eq, is_utf8, str_eq_ignore_ascii_case}
use Rattle.std.specs.Str.Lossy.{utf8_lossy}
use Rattle.html_syntax.specs.Token.{Token}
use Rattle.html_syntax.specs.Token.Token.{End}
use Rattle.html_rules.specs.Tokens.{start_tag, start_tag_with}
use Rattle.mailbox_rows.specs.declared.row.Folder.{Folder}
use Rattle.page_frames.specs.Elements.{text, link}
use Rattle.page_frames.specs.Paths.{list_address}
use Rattle.page_frames.specs.Pages.{heading, framed}

-- ---- order: INBOX, then the others by the bytes of their names; of one name the one that was told first

-- whether the folder isn't INBOX, its name, and its place among the told ones
abbrev pub Key : Type 0
Key = Bool × List ℕ × ℕ

abbrev pub compare_keys : Key → Key → Ordering
compare_keys a b = ordering_then (ordering_then (bool_cmp a.0 b.0) (slice_cmp nat_cmp a.1 b.1)) (nat_cmp a.2 b.2)

unfoldable pub insert_by_key : Key → List Key → List Key
insert_by_key a [] = a ∷ []
insert_by_key a (b ∷ more) = if is_lt (compare_keys b a) then b ∷ insert_by_key a more else a ∷ b ∷ more

unfoldable pub by_key : List Key → List Key
by_key [] = []
by_key (a ∷ more) = insert_by_key a (by_key more)

abbrev pub key_at : ℕ → Folder → Key
key_at place folder = (not (bytes_eq folder.name (codes "INBOX")), folder.name, place)

-- a key of the code, which borrows its name
abbrev pub key_of : Bool × Bor (List ℕ) × ℕ → Key
key_of key = (key.0, key.1.now, key.2)

unfoldable pub keys_from : ℕ → List Folder → List Key
keys_from place [] = []
keys_from place (folder ∷ more) = key_at place folder ∷ keys_from (suc place) more

-- the places of the folders, in their order
unfoldable pub folder_order : List Folder → List ℕ
folder_order folders = map (λ key. key.2) (by_key (keys_from 0 folders))

-- ---- attributes (RFC 9051 §7.3.1, RFC 6154)

abbrev pub has_attribute : List ℕ → Folder → Bool
has_attribute name folder = list_any (λ attribute. str_eq_ignore_ascii_case attribute name) folder.attributes

-- there is no such mailbox, or it can't be opened
unfoldable pub is_closed : Folder → Bool
is_closed folder = has_attribute (codes "\\Noselect") folder || has_attribute (codes "\\NonExistent") folder

unfoldable pub is_special_use : List ℕ → Bool
is_special_use attribute =
    list_any (str_eq_ignore_ascii_case attribute) (codes "\\All" ∷ codes "\\Archive" ∷ codes "\\Drafts" ∷ codes "\\Flagged" ∷ codes "\\Junk" ∷ codes "\\Sent" ∷ codes "\\Trash" ∷ [])

-- ---- the page

-- the name, which leads to the folder's list if it is a text and the folder can be opened
unfoldable pub folder_name : Folder → List Token
folder_name folder =
    if is_utf8 folder.name && not (is_closed folder) then link (list_address folder.name) folder.name
    else text (utf8_lossy folder.name)

abbrev pub use_words_of : Option (List ℕ) → List Token
use_words_of None = []
use_words_of (Some attribute) = text (codes " ") ++ text (utf8_lossy (drop 1 attribute))

-- what the folder is for: its first special-use attribute, without the backslash
unfoldable pub use_words : Folder → List Token
use_words folder = use_words_of (find is_special_use folder.attributes)

unfoldable pub folder_item : Folder → List Token
folder_item folder = start_tag (codes "li") ∷ folder_name folder ++ use_words folder ++ End (codes "li") ∷ []

abbrev pub item_or_none : Option Folder → List Token
item_or_none None = []
item_or_none (Some folder) = folder_item folder

abbrev pub item_at : List Folder → ℕ → List Token
item_at folders place = item_or_none (slice_get folders place)

abbrev pub folders_start : Token
folders_start = start_tag_with (codes "ul") (codes "class") (codes "folders")

abbrev pub folders_title : List ℕ
folders_title = codes "Folders"

unfoldable pub folder_page : List Folder → List Token
folder_page folders =
    framed folders_title true (heading folders_title ++ folders_start ∷ flat_map (item_at folders) (folder_order folders) ++ End (codes "ul") ∷ [])
