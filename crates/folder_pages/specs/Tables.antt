-- The pages that list messages of a folder.
use Rattle.std.specs.Prelude.{ℕ, ◌+◌, ◌-◌, ◌*◌, ◌/◌, max, true, List, [], ◌∷◌, ◌++◌, codes, decimal, take, drop, length, reverse, Option, Some, None}
use Rattle.std.specs.List.{filter, flat_map}
use Rattle.std.specs.Map.{keys_of, lookup}
use Rattle.html_syntax.specs.Token.{Token}
use Rattle.html_syntax.specs.Token.Token.{End}
use Rattle.html_rules.specs.Tokens.{start_tag_with}
use Rattle.imap_commands.specs.declared.uid_set.UidRange.{UidRange}
use Rattle.imap_commands.specs.UidSets.{contains_uid}
use Rattle.mailbox_rows.specs.declared.row.Row.{Row}
use Rattle.mailbox_rows.specs.Rows.{Rows, has_uid}
use Rattle.page_frames.specs.Elements.{text, line_end}
use Rattle.page_frames.specs.Pages.{heading, framed}
use Rattle.folder_pages.specs.Rows.{seen_class, depth_class, message_row}

-- ---- pages of a list

abbrev pub rows_on_page : ℕ
rows_on_page = 50

-- what is on a page; pages are counted from 1, and a page past the last is empty
abbrev pub on_page : {X : Type 0} → ℕ → List X → List X
on_page page items = take rows_on_page (drop (rows_on_page * (page - 1)) items)

-- the number of pages, at least 1
abbrev pub page_count : ℕ → ℕ
page_count items = max 1 ((items + (rows_on_page - 1)) / rows_on_page)

-- ---- the messages

-- the UIDs of all messages, the newest first
abbrev pub newest_first : Rows → List ℕ
newest_first rows = reverse (keys_of rows)

-- those of a set
abbrev pub found_first : List UidRange → Rows → List ℕ
found_first found rows = filter (λ uid. contains_uid uid found) (newest_first rows)

abbrev pub list_row_of : List ℕ → ℕ → ℕ → Option Row → List Token
list_row_of folder validity uid None = []
list_row_of folder validity uid (Some row) = message_row folder validity (seen_class row) uid row

-- the row of the message with a UID, none if there is no such message
unfoldable pub list_row : List ℕ → ℕ → Rows → ℕ → List Token
list_row folder validity rows uid = list_row_of folder validity uid (lookup (has_uid uid) rows)

abbrev pub thread_row_of : List ℕ → ℕ → ℕ → ℕ → Option Row → List Token
thread_row_of folder validity uid depth None = []
thread_row_of folder validity uid depth (Some row) = message_row folder validity (depth_class depth) uid row

-- the row of the message with a UID at this depth of its thread
unfoldable pub thread_row : List ℕ → ℕ → Rows → ℕ × ℕ → List Token
thread_row folder validity rows entry = thread_row_of folder validity entry.0 entry.1 (lookup (has_uid entry.0) rows)

-- ---- the pages

abbrev pub table_start : Token
table_start = start_tag_with (codes "table") (codes "class") (codes "list")

-- which page this is, of how many
unfoldable pub pages_line : ℕ → ℕ → List Token
pages_line page items =
    start_tag_with (codes "p") (codes "class") (codes "pages")
    ∷ text (codes "Page " ++ decimal page ++ codes " of " ++ decimal (page_count items))
    ++ End (codes "p") ∷ []

-- a page with some rows, of a list of `items` rows
unfoldable pub table_page : List ℕ → List Token → ℕ → ℕ → List Token
table_page folder rows page items =
    framed folder true (heading folder ++ table_start ∷ rows ++ End (codes "table") ∷ line_end ∷ pages_line page items)

-- the list of a folder
unfoldable pub list_page : List ℕ → ℕ → Rows → ℕ → List Token
list_page folder validity rows page =
    table_page folder (flat_map (list_row folder validity rows) (on_page page (newest_first rows))) page (length rows)

-- the messages that a search found
unfoldable pub search_page : List ℕ → ℕ → Rows → List UidRange → ℕ → List Token
search_page folder validity rows found page =
    table_page folder (flat_map (list_row folder validity rows) (on_page page (found_first found rows))) page (length (found_first found rows))

-- the threads of a folder, in the order of `flat`: the UID and the depth of each message
unfoldable pub thread_page : List ℕ → ℕ → Rows → List (ℕ × ℕ) → ℕ → List Token
thread_page folder validity rows flat page =
    table_page folder (flat_map (thread_row folder validity rows) (on_page page flat)) page (length flat)
