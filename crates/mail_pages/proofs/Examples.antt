-- The pages of some messages, computed, as they are written.
use Rattle.std.proofs.Common.{◌≡◌, ℕ, true, false, List, [], ◌∷◌, codes, map, refl}
use Rattle.std.specs.Prelude.{Some, None}
use lib.Utf8.{encode}
use Rattle.std.specs.Str.{is_utf8, chars}
use Rattle.std.specs.Str.Lossy.{utf8_lossy, utf8_valid_len}
use Rattle.std.specs.Fmt.{digits}
use Rattle.html_rules.specs.Tables.{message_void_elements, frame_void_elements, is_void}
use Rattle.page_writer.specs.Page.{spell}
use Rattle.transfer_codings.specs.Quoted.{quoted_bytes, line_bytes, without_blanks, unescaped}
use Rattle.header_words.specs.EncodedWords.{with_words_decoded, items_from, joined, word_at, word_text}
use Rattle.header_words.specs.Fields.{header_of}
use Rattle.header_words.specs.Value.{decoded_of}
use Rattle.mime_content.specs.Content.{content_of}
use Rattle.mime_tree.specs.declared.choice.Shown.TheVariants.{Plain, Html, Unread}
use Rattle.mime_tree.specs.Body.{places, is_closing_line, is_delimiter_line}
use Rattle.mime_tree.specs.Opening.{node_at, children_from, children_of, opens_beside, open_first, tree_after_steps, message_of, parts_of, tree_of}
use Rattle.mime_tree.specs.Best.{best_of, leaf_to_show}
use Rattle.mail_pages.specs.Text.{with_line_feeds}
use Rattle.form_urlencoded.specs.Form.{byte_serialize}
use Rattle.page_frames.specs.Paths.{folder_query, message_path}
use Rattle.page_frames.specs.Pages.{page_start, heading}
use Rattle.mail_pages.specs.declared.frame.Frame.TheVariants.{Plain as by_itself}
use Rattle.mail_pages.specs.Place.{place_at}
use Rattle.mail_pages.specs.Head.{title_of, field_table, page_head}
use Rattle.mail_pages.specs.Parts.{part_link, part_words, part_list}
use Rattle.mail_pages.specs.Offer.{images_offer}
use Rattle.mail_pages.specs.Mail.{plain_text, paragraph, mail_of}
use Rattle.mail_pages.specs.ShowPage.{shown_at, shown_of, page_foot, page_of, is_own}

title_in : List ℕ → List ℕ
title_in message = title_of (header_of message).fields

-- a text is text, whatever it holds
text_page : spell (page_of by_itself (codes "Subject: t\r\n\r\n<script>alert(1)</script> & \"x\"") None false) ≡ codes "<!DOCTYPE html>\n<html lang=\"en\"><head><meta charset=\"utf-8\"><title>t</title><link rel=\"stylesheet\" href=\"/site.css\"></head>\n<body><h1>t</h1>\n<table class=\"head\"></table>\n<div class=\"mail\"><pre>\n&lt;script&gt;alert(1)&lt;/script&gt; &amp; &quot;x&quot;</pre></div>\n<ul class=\"parts\"><li><a href=\"/part/0/0/1?f=\">1</a> text/plain 31</li></ul>\n</body></html>\n"
unfolding digits decoded_of with_words_decoded items_from joined word_at word_text quoted_bytes line_bytes without_blanks unescaped page_of page_foot shown_of page_head page_start heading field_table images_offer place_at folder_query message_path byte_serialize part_list part_link part_words plain_text paragraph mail_of with_line_feeds spell is_void message_void_elements frame_void_elements best_of leaf_to_show tree_of parts_of message_of tree_after_steps open_first opens_beside children_of children_from node_at content_of places is_closing_line is_delimiter_line header_of utf8_lossy utf8_valid_len is_utf8 chars encode
text_page = refl

-- nothing at all has a page
empty_page : spell (page_of by_itself [] None false) ≡ codes "<!DOCTYPE html>\n<html lang=\"en\"><head><meta charset=\"utf-8\"><title>(no subject)</title><link rel=\"stylesheet\" href=\"/site.css\"></head>\n<body><h1>(no subject)</h1>\n<table class=\"head\"></table>\n<div class=\"mail\"><pre>\n</pre></div>\n<ul class=\"parts\"><li><a href=\"/part/0/0/1?f=\">1</a> text/plain 0</li></ul>\n</body></html>\n"
unfolding digits decoded_of with_words_decoded items_from joined word_at word_text quoted_bytes line_bytes without_blanks unescaped page_of page_foot shown_of page_head page_start heading field_table images_offer place_at folder_query message_path byte_serialize part_list part_link part_words plain_text paragraph mail_of with_line_feeds spell is_void message_void_elements frame_void_elements best_of leaf_to_show tree_of parts_of message_of tree_after_steps open_first opens_beside children_of children_from node_at content_of places is_closing_line is_delimiter_line header_of utf8_lossy utf8_valid_len is_utf8 chars encode
empty_page = refl

-- a subject of blanks, or none
empty_subjects : map title_in (codes "Subject: \t \n\nx" ∷ codes "From: a\n\nx" ∷ codes "SUBJECT:a \n\nx" ∷ []) ≡ codes "(no subject)" ∷ codes "(no subject)" ∷ codes "a" ∷ []
unfolding title_in header_of decoded_of with_words_decoded items_from joined word_at utf8_lossy utf8_valid_len is_utf8 chars encode
empty_subjects = refl

-- ---- a message of four parts: a page, a text of a charset that isn't read, a text with every kind of line end, a message

abbrev four_parts : List ℕ
four_parts = codes "Date: d\nCc: <c@x>\nTO: b\nto: later\nReply-To: r\nFrom: \"A\" & Co\nSubject: =?utf-8?Q?=3Cb=3E?=\nContent-Type: multipart/mixed; boundary=q\n\n--q\nContent-Type: text/html\n\n<b>\n--q\nContent-Type: text/plain; charset=koi8-r; name=\"<n>\"\n\nxy\n--q\nContent-Type: text/plain; charset=latin1\nContent-Transfer-Encoding: quoted-printable\n\n=E9=0D=0A1=0D2=0A=00</pre>\n--q\nContent-Type: message/rfc822\n\nContent-Type: text/plain\n\n..\n--q--\n"

-- The fields come in this order, the first of each name; a part that is no leaf isn't listed.
unread_page : spell (page_of by_itself four_parts (Some (2 ∷ [])) false) ≡ codes "<!DOCTYPE html>\n<html lang=\"en\"><head><meta charset=\"utf-8\"><title>&lt;b&gt;</title><link rel=\"stylesheet\" href=\"/site.css\"></head>\n<body><h1>&lt;b&gt;</h1>\n<table class=\"head\"><tr><th>From</th><td>&quot;A&quot; &amp; Co</td></tr><tr><th>To</th><td>b</td></tr><tr><th>Cc</th><td>&lt;c@x&gt;</td></tr><tr><th>Date</th><td>d</td></tr></table>\n<div class=\"mail\"><p>Charset koi8-r is not read here; part 2 is offered below.</p></div>\n<ul class=\"parts\"><li><a href=\"/part/0/0/1?f=\">1</a> text/html 3</li><li><a href=\"/part/0/0/2?f=\">2</a> text/plain &lt;n&gt; 2</li><li><a href=\"/part/0/0/3?f=\">3</a> text/plain 26</li><li><a href=\"/part/0/0/4.1?f=\">4.1</a> text/plain 2</li></ul>\n</body></html>\n"
unfolding digits decoded_of with_words_decoded items_from joined word_at word_text quoted_bytes line_bytes without_blanks unescaped page_of page_foot shown_of page_head page_start heading field_table images_offer place_at folder_query message_path byte_serialize part_list part_link part_words plain_text paragraph mail_of with_line_feeds spell is_void message_void_elements frame_void_elements best_of leaf_to_show tree_of parts_of message_of tree_after_steps open_first opens_beside children_of children_from node_at content_of places is_closing_line is_delimiter_line header_of utf8_lossy utf8_valid_len is_utf8 chars encode
unread_page = refl

-- U+0000 is U+FFFD
line_ends_page : spell (page_of by_itself four_parts (Some (3 ∷ [])) false) ≡ codes "<!DOCTYPE html>\n<html lang=\"en\"><head><meta charset=\"utf-8\"><title>&lt;b&gt;</title><link rel=\"stylesheet\" href=\"/site.css\"></head>\n<body><h1>&lt;b&gt;</h1>\n<table class=\"head\"><tr><th>From</th><td>&quot;A&quot; &amp; Co</td></tr><tr><th>To</th><td>b</td></tr><tr><th>Cc</th><td>&lt;c@x&gt;</td></tr><tr><th>Date</th><td>d</td></tr></table>\n<div class=\"mail\"><pre>\né\n1\n2\n�&lt;/pre&gt;</pre></div>\n<ul class=\"parts\"><li><a href=\"/part/0/0/1?f=\">1</a> text/html 3</li><li><a href=\"/part/0/0/2?f=\">2</a> text/plain &lt;n&gt; 2</li><li><a href=\"/part/0/0/3?f=\">3</a> text/plain 26</li><li><a href=\"/part/0/0/4.1?f=\">4.1</a> text/plain 2</li></ul>\n</body></html>\n"
unfolding digits decoded_of with_words_decoded items_from joined word_at word_text quoted_bytes line_bytes without_blanks unescaped page_of page_foot shown_of page_head page_start heading field_table images_offer place_at folder_query message_path byte_serialize part_list part_link part_words plain_text paragraph mail_of with_line_feeds spell is_void message_void_elements frame_void_elements best_of leaf_to_show tree_of parts_of message_of tree_after_steps open_first opens_beside children_of children_from node_at content_of places is_closing_line is_delimiter_line header_of utf8_lossy utf8_valid_len is_utf8 chars encode
line_ends_page = refl

-- a part that was asked for is shown even in a message in the message
inner_page : spell (page_of by_itself four_parts (Some (4 ∷ 1 ∷ [])) false) ≡ codes "<!DOCTYPE html>\n<html lang=\"en\"><head><meta charset=\"utf-8\"><title>&lt;b&gt;</title><link rel=\"stylesheet\" href=\"/site.css\"></head>\n<body><h1>&lt;b&gt;</h1>\n<table class=\"head\"><tr><th>From</th><td>&quot;A&quot; &amp; Co</td></tr><tr><th>To</th><td>b</td></tr><tr><th>Cc</th><td>&lt;c@x&gt;</td></tr><tr><th>Date</th><td>d</td></tr></table>\n<div class=\"mail\"><pre>\n..</pre></div>\n<ul class=\"parts\"><li><a href=\"/part/0/0/1?f=\">1</a> text/html 3</li><li><a href=\"/part/0/0/2?f=\">2</a> text/plain &lt;n&gt; 2</li><li><a href=\"/part/0/0/3?f=\">3</a> text/plain 26</li><li><a href=\"/part/0/0/4.1?f=\">4.1</a> text/plain 2</li></ul>\n</body></html>\n"
unfolding digits decoded_of with_words_decoded items_from joined word_at word_text quoted_bytes line_bytes without_blanks unescaped page_of page_foot shown_of page_head page_start heading field_table images_offer place_at folder_query message_path byte_serialize part_list part_link part_words plain_text paragraph mail_of with_line_feeds spell is_void message_void_elements frame_void_elements best_of leaf_to_show tree_of parts_of message_of tree_after_steps open_first opens_beside children_of children_from node_at content_of places is_closing_line is_delimiter_line header_of utf8_lossy utf8_valid_len is_utf8 chars encode
inner_page = refl

-- which kind is shown: without a request the page; a part that isn't there and one that is no text are none
choices : map (λ part. shown_at four_parts part) (None ∷ Some (1 ∷ []) ∷ Some (2 ∷ []) ∷ Some (3 ∷ []) ∷ Some (4 ∷ []) ∷ Some (5 ∷ []) ∷ Some (4 ∷ 1 ∷ []) ∷ []) ≡ Some (Html (1 ∷ [])) ∷ Some (Html (1 ∷ [])) ∷ Some (Unread (2 ∷ [])) ∷ Some (Plain (3 ∷ [])) ∷ None ∷ None ∷ Some (Plain (4 ∷ 1 ∷ [])) ∷ []
unfolding digits decoded_of with_words_decoded items_from joined word_at word_text quoted_bytes line_bytes without_blanks unescaped page_of page_foot shown_of page_head page_start heading field_table images_offer place_at folder_query message_path byte_serialize part_list part_link part_words plain_text paragraph mail_of with_line_feeds spell is_void message_void_elements frame_void_elements best_of leaf_to_show tree_of parts_of message_of tree_after_steps open_first opens_beside children_of children_from node_at content_of places is_closing_line is_delimiter_line header_of utf8_lossy utf8_valid_len is_utf8 chars encode
choices = refl

-- nothing to show
nothing_page : spell (shown_of by_itself (codes "Content-Type: image/png\n\nx") None false) ≡ codes "<p>No text to show.</p>"
unfolding digits decoded_of with_words_decoded items_from joined word_at word_text quoted_bytes line_bytes without_blanks unescaped page_of page_foot shown_of page_head page_start heading field_table images_offer place_at folder_query message_path byte_serialize part_list part_link part_words plain_text paragraph mail_of with_line_feeds spell is_void message_void_elements frame_void_elements best_of leaf_to_show tree_of parts_of message_of tree_after_steps open_first opens_beside children_of children_from node_at content_of places is_closing_line is_delimiter_line header_of utf8_lossy utf8_valid_len is_utf8 chars encode
nothing_page = refl

-- the message's own addresses are those of its parts, but of none in a message in the message
own_addresses : map (is_own by_itself (codes "Content-Type: message/rfc822\n\n\nx")) (codes "/part/0/0/1.1?f=" ∷ codes "/part/0/0/1?f=" ∷ codes "/part/0/0/11?f=" ∷ codes "/part/1/0/1.1?f=" ∷ codes "/part/0/0/1.1?f=x" ∷ codes "/part/0/0/1.1" ∷ []) ≡ false ∷ true ∷ false ∷ false ∷ false ∷ false ∷ []
unfolding digits decoded_of with_words_decoded items_from joined word_at word_text quoted_bytes line_bytes without_blanks unescaped page_of page_foot shown_of page_head page_start heading field_table images_offer place_at folder_query message_path byte_serialize part_list part_link part_words plain_text paragraph mail_of with_line_feeds spell is_void message_void_elements frame_void_elements best_of leaf_to_show tree_of parts_of message_of tree_after_steps open_first opens_beside children_of children_from node_at content_of places is_closing_line is_delimiter_line header_of utf8_lossy utf8_valid_len is_utf8 chars encode
own_addresses = refl
