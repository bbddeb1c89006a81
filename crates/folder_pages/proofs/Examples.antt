-- Pages of folders and messages, computed, as they are written.
use Rattle.std.proofs.Common.{◌≡◌, ℕ, pos, List, [], ◌∷◌, ◌++◌, codes, map, refl}
use Rattle.std.specs.Prelude.{replicate}
use Rattle.std.specs.Fmt.{digits}
use Rattle.std.specs.Str.{is_utf8, chars}
use Rattle.std.specs.Str.Lossy.{utf8_lossy, utf8_valid_len, utf8_error_len}
use lib.Utf8.{encode}
use Rattle.percent_encoding.specs.Percent.{percent_encode_byte}
use Rattle.form_urlencoded.specs.Form.{byte_serialize}
use Rattle.jiff_fmt.proofs.OnLiterals.{jiff_fmt_on_literals}
use Rattle.transfer_codings.specs.Quoted.{quoted_bytes, line_bytes, without_blanks, unescaped}
use Rattle.header_words.specs.EncodedWords.{with_words_decoded, items_from, joined, word_at, word_text}
use Rattle.header_words.specs.Fields.{header_of}
use Rattle.header_words.specs.Value.{decoded_of}
use Rattle.message_dates.specs.Calendar.{year_and_day, month_and_day}
use Rattle.message_dates.specs.Minutes.{minute_text}
use Rattle.message_dates.specs.Sent.{sent_of}
use Rattle.mailbox_rows.specs.declared.row.Folder.{Folder}
use Rattle.mailbox_rows.specs.declared.row.Row.{Row}
use Rattle.mailbox_rows.specs.Rows.{Rows}
use Rattle.page_writer.specs.Page.{spell}
use Rattle.page_frames.specs.Paths.{folder_query, message_path, list_address, show_address}
use Rattle.page_frames.specs.Pages.{nav_links, nav, page_start, framed, heading}
use Rattle.folder_pages.specs.Rows.{depth_class, subject_cell, number_cells, row_start, message_row}
use Rattle.folder_pages.specs.Tables.{on_page, page_count, list_row, thread_row, pages_line, table_page, list_page, search_page, thread_page}
use Rattle.folder_pages.specs.Folders.{insert_by_key, by_key, keys_from, folder_order, is_closed, is_special_use, folder_name, use_words, folder_item, folder_page}

-- ---- tables

-- a message that was read, with no date of its own
plain_row : Row
plain_row = record { flags = codes "\\Seen" ∷ []; modseq = 20; internal = pos 1767225600; size = 10; header = codes "From: a@b.example\r\nSubject: s\r\n\r\n" }

-- a new message without a subject, sent at one second before the minute, by somebody whose name is U+00E9 and markup
dated_row : Row
dated_row = record { flags = codes "\\Answered" ∷ []; modseq = 21; internal = pos 0; size = 4294967296; header = codes "Date: Thu, 1 Jan 2026 01:00:59 +0100\r\nFrom: =?utf-8?Q?=C3=A9?= <b>\r\nSubject: \r\n\r\n" }

-- a message of nobody, of a year that isn't shown, read by a flag in other letters
bare_row : Row
bare_row = record { flags = codes "x" ∷ codes "\\SEEN" ∷ []; modseq = 22; internal = pos 253402300800; size = 0; header = [] }

three_rows : Rows
three_rows = (5, plain_row) ∷ (7, dated_row) ∷ (9, bare_row) ∷ []

-- one message
worked_list : spell (list_page (codes "INBOX") 8 ((5, plain_row) ∷ []) 1) ≡ codes "<!DOCTYPE html>\n<html lang=\"en\"><head><meta charset=\"utf-8\"><title>INBOX</title><link rel=\"stylesheet\" href=\"/site.css\"></head>\n<body><p class=\"nav\"><a href=\"/\">Folders</a> <a href=\"/compose\">Compose</a> <a href=\"/identities\">Identities</a></p>\n<h1>INBOX</h1>\n<table class=\"list\"><tr class=\"seen\"><td>a@b.example</td><td><a href=\"/show/8/5?f=INBOX\">s</a></td><td>2026-01-01 00:00</td><td>10</td></tr></table>\n<p class=\"pages\">Page 1 of 1</p>\n</body></html>\n"
unfolding plain_row list_page table_page pages_line list_row message_row row_start subject_cell number_cells framed page_start nav nav_links heading show_address message_path folder_query byte_serialize percent_encode_byte sent_of minute_text year_and_day month_and_day jiff_fmt_on_literals decoded_of with_words_decoded items_from joined word_at word_text quoted_bytes line_bytes without_blanks unescaped header_of spell digits utf8_lossy utf8_valid_len is_utf8 chars encode
worked_list = refl

-- the newest first; a folder's name in its address and in its heading
whole_list : spell (list_page (codes "A & b") 8 three_rows 1) ≡ codes "<!DOCTYPE html>\n<html lang=\"en\"><head><meta charset=\"utf-8\"><title>A &amp; b</title><link rel=\"stylesheet\" href=\"/site.css\"></head>\n<body><p class=\"nav\"><a href=\"/\">Folders</a> <a href=\"/compose\">Compose</a> <a href=\"/identities\">Identities</a></p>\n<h1>A &amp; b</h1>\n<table class=\"list\"><tr class=\"seen\"><td></td><td><a href=\"/show/8/9?f=A+%26+b\">(no subject)</a></td><td>-</td><td>0</td></tr><tr class=\"new\"><td>" ++ 0xE9 ∷ codes " &lt;b&gt;</td><td><a href=\"/show/8/7?f=A+%26+b\">(no subject)</a></td><td>2026-01-01 00:00</td><td>4294967296</td></tr><tr class=\"seen\"><td>a@b.example</td><td><a href=\"/show/8/5?f=A+%26+b\">s</a></td><td>2026-01-01 00:00</td><td>10</td></tr></table>\n<p class=\"pages\">Page 1 of 1</p>\n</body></html>\n"
unfolding three_rows plain_row dated_row bare_row list_page table_page pages_line list_row message_row row_start subject_cell number_cells framed page_start nav nav_links heading show_address message_path folder_query byte_serialize percent_encode_byte sent_of minute_text year_and_day month_and_day jiff_fmt_on_literals decoded_of with_words_decoded items_from joined word_at word_text quoted_bytes line_bytes without_blanks unescaped header_of spell digits utf8_lossy utf8_valid_len is_utf8 chars encode
whole_list = refl

-- a page past the last, and a folder without messages
past_list : spell (list_page (codes "I") 8 three_rows 2) ≡ codes "<!DOCTYPE html>\n<html lang=\"en\"><head><meta charset=\"utf-8\"><title>I</title><link rel=\"stylesheet\" href=\"/site.css\"></head>\n<body><p class=\"nav\"><a href=\"/\">Folders</a> <a href=\"/compose\">Compose</a> <a href=\"/identities\">Identities</a></p>\n<h1>I</h1>\n<table class=\"list\"></table>\n<p class=\"pages\">Page 2 of 1</p>\n</body></html>\n"
unfolding three_rows list_page table_page pages_line framed page_start nav nav_links heading spell digits chars encode
past_list = refl

empty_list : spell (list_page [] 8 [] 1) ≡ codes "<!DOCTYPE html>\n<html lang=\"en\"><head><meta charset=\"utf-8\"><title></title><link rel=\"stylesheet\" href=\"/site.css\"></head>\n<body><p class=\"nav\"><a href=\"/\">Folders</a> <a href=\"/compose\">Compose</a> <a href=\"/identities\">Identities</a></p>\n<h1></h1>\n<table class=\"list\"></table>\n<p class=\"pages\">Page 1 of 1</p>\n</body></html>\n"
unfolding list_page table_page pages_line framed page_start nav nav_links heading spell digits chars encode
empty_list = refl

-- UIDs in two ranges; 6 has no message
worked_search : spell (search_page (codes "I") 8 three_rows (record { first = 1; last = 6 } ∷ record { first = 9; last = 20 } ∷ []) 1) ≡ codes "<!DOCTYPE html>\n<html lang=\"en\"><head><meta charset=\"utf-8\"><title>I</title><link rel=\"stylesheet\" href=\"/site.css\"></head>\n<body><p class=\"nav\"><a href=\"/\">Folders</a> <a href=\"/compose\">Compose</a> <a href=\"/identities\">Identities</a></p>\n<h1>I</h1>\n<table class=\"list\"><tr class=\"seen\"><td></td><td><a href=\"/show/8/9?f=I\">(no subject)</a></td><td>-</td><td>0</td></tr><tr class=\"seen\"><td>a@b.example</td><td><a href=\"/show/8/5?f=I\">s</a></td><td>2026-01-01 00:00</td><td>10</td></tr></table>\n<p class=\"pages\">Page 1 of 1</p>\n</body></html>\n"
unfolding three_rows plain_row dated_row bare_row search_page table_page pages_line list_row message_row row_start subject_cell number_cells framed page_start nav nav_links heading show_address message_path folder_query byte_serialize percent_encode_byte sent_of minute_text year_and_day month_and_day jiff_fmt_on_literals decoded_of with_words_decoded items_from joined word_at word_text quoted_bytes line_bytes without_blanks unescaped header_of spell digits utf8_lossy utf8_valid_len is_utf8 chars encode
worked_search = refl

-- the order of the threads; a message that isn't there has no row, but counts
worked_threads : spell (thread_page (codes "I") 8 three_rows ((9, 0) ∷ (5, 17) ∷ (6, 1) ∷ []) 1) ≡ codes "<!DOCTYPE html>\n<html lang=\"en\"><head><meta charset=\"utf-8\"><title>I</title><link rel=\"stylesheet\" href=\"/site.css\"></head>\n<body><p class=\"nav\"><a href=\"/\">Folders</a> <a href=\"/compose\">Compose</a> <a href=\"/identities\">Identities</a></p>\n<h1>I</h1>\n<table class=\"list\"><tr class=\"d0\"><td></td><td><a href=\"/show/8/9?f=I\">(no subject)</a></td><td>-</td><td>0</td></tr><tr class=\"d16\"><td>a@b.example</td><td><a href=\"/show/8/5?f=I\">s</a></td><td>2026-01-01 00:00</td><td>10</td></tr></table>\n<p class=\"pages\">Page 1 of 1</p>\n</body></html>\n"
unfolding three_rows plain_row dated_row bare_row thread_page table_page pages_line thread_row message_row row_start subject_cell number_cells framed page_start nav nav_links heading show_address message_path folder_query byte_serialize percent_encode_byte sent_of minute_text year_and_day month_and_day jiff_fmt_on_literals decoded_of with_words_decoded items_from joined word_at word_text quoted_bytes line_bytes without_blanks unescaped header_of spell digits utf8_lossy utf8_valid_len is_utf8 chars encode
worked_threads = refl

depths : map depth_class (0 ∷ 15 ∷ 16 ∷ 17 ∷ []) ≡ codes "d0" ∷ codes "d15" ∷ codes "d16" ∷ codes "d16" ∷ []
unfolding digits
depths = refl

-- ---- pages of a list

counts : map page_count (0 ∷ 1 ∷ 50 ∷ 51 ∷ 100 ∷ 101 ∷ []) ≡ 1 ∷ 1 ∷ 1 ∷ 2 ∷ 2 ∷ 3 ∷ []
counts = refl

second_page : on_page {X = ℕ} 2 (replicate 50 0 ++ 1 ∷ 2 ∷ []) ≡ 1 ∷ 2 ∷ []
second_page = refl

first_page : on_page {X = ℕ} 1 (replicate 50 0 ++ 1 ∷ 2 ∷ []) ≡ replicate 50 0
first_page = refl

third_page : on_page {X = ℕ} 3 (replicate 50 0 ++ 1 ∷ 2 ∷ []) ≡ []
third_page = refl

-- ---- folders

some_folders : List Folder
some_folders =
    record { name = codes "b"; attributes = codes "\\HasNoChildren" ∷ codes "\\Sent" ∷ codes "\\Trash" ∷ [] }
    ∷ record { name = codes "a/<"; attributes = codes "\\noselect" ∷ codes "\\junk" ∷ [] }
    ∷ record { name = codes "INBOX"; attributes = [] }
    ∷ record { name = codes "B" ++ 0xFF ∷ []; attributes = codes "\\Sen" ∷ codes "Sent" ∷ [] }
    ∷ record { name = codes "b"; attributes = codes "\\NonExistent" ∷ [] }
    ∷ record { name = codes "B c&" ++ 0xC3 ∷ 0xA9 ∷ []; attributes = [] }
    ∷ record { name = codes "inbox"; attributes = [] }
    ∷ []

orders : folder_order some_folders ≡ 2 ∷ 5 ∷ 3 ∷ 1 ∷ 0 ∷ 4 ∷ 6 ∷ []
unfolding some_folders folder_order by_key insert_by_key keys_from
orders = refl

worked_folders : spell (folder_page some_folders) ≡ codes "<!DOCTYPE html>\n<html lang=\"en\"><head><meta charset=\"utf-8\"><title>Folders</title><link rel=\"stylesheet\" href=\"/site.css\"></head>\n<body><p class=\"nav\"><a href=\"/\">Folders</a> <a href=\"/compose\">Compose</a> <a href=\"/identities\">Identities</a></p>\n<h1>Folders</h1>\n<ul class=\"folders\"><li><a href=\"/list?f=INBOX\">INBOX</a></li><li><a href=\"/list?f=B+c%26%C3%A9\">B c&amp;" ++ 0xE9 ∷ codes "</a></li><li>B" ++ 0xFFFD ∷ codes "</li><li>a/&lt; junk</li><li><a href=\"/list?f=b\">b</a> Sent</li><li>b</li><li><a href=\"/list?f=inbox\">inbox</a></li></ul>\n</body></html>\n"
unfolding some_folders folder_page folder_order by_key insert_by_key keys_from folder_item folder_name is_closed use_words is_special_use framed page_start nav nav_links heading list_address folder_query byte_serialize percent_encode_byte spell utf8_lossy utf8_valid_len utf8_error_len is_utf8 chars encode
worked_folders = refl

no_folders : spell (folder_page []) ≡ codes "<!DOCTYPE html>\n<html lang=\"en\"><head><meta charset=\"utf-8\"><title>Folders</title><link rel=\"stylesheet\" href=\"/site.css\"></head>\n<body><p class=\"nav\"><a href=\"/\">Folders</a> <a href=\"/compose\">Compose</a> <a href=\"/identities\">Identities</a></p>\n<h1>Folders</h1>\n<ul class=\"folders\"></ul>\n</body></html>\n"
unfolding folder_page folder_order by_key keys_from framed page_start nav nav_links heading spell chars encode
no_folders = refl
