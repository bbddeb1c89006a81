-- The page of a message in a session, computed, as it is written.
use Rattle.std.proofs.Common.{◌≡◌, ℕ, true, false, List, [], ◌∷◌, ◌++◌, codes, refl}
use Rattle.std.specs.Prelude.{Some, None}
use lib.Utf8.{encode}
use Rattle.std.specs.Str.{is_utf8, chars}
use Rattle.std.specs.Str.Lossy.{utf8_lossy, utf8_valid_len}
use Rattle.std.specs.Fmt.{digits}
use Rattle.percent_encoding.specs.Percent.{percent_decode}
use Rattle.url.proofs.OnLiterals.{url_on_literals}
use Rattle.form_urlencoded.specs.Form.{byte_serialize}
use Rattle.html_syntax.specs.References.{reference}
use Rattle.html_syntax.specs.Tokenizer.{look, look_again, step, tokens_at_end, read, normalize_newlines, tokens}
use Rattle.html_rules.specs.Tables.{message_void_elements, frame_void_elements, is_void, message_elements, is_message_element, dropped_elements, is_dropped_element, common_attributes, attribute_rows, is_listed_attribute, kind_of, value_kind_rows}
use Rattle.html_rules.specs.Values.{is_remote, is_link}
use Rattle.page_writer.specs.Page.{spell}
use Rattle.transfer_codings.specs.Quoted.{quoted_bytes, line_bytes, without_blanks, unescaped}
use Rattle.header_words.specs.EncodedWords.{with_words_decoded, items_from, joined, word_at, word_text}
use Rattle.header_words.specs.Fields.{header_of}
use Rattle.header_words.specs.Value.{decoded_of}
use Rattle.mime_content.specs.Content.{content_of}
use Rattle.mime_tree.specs.Body.{places, is_closing_line, is_delimiter_line}
use Rattle.mime_tree.specs.Opening.{node_at, children_from, children_of, opens_beside, open_first, tree_after_steps, message_of, parts_of, tree_of}
use Rattle.mime_tree.specs.Best.{best_of, leaf_to_show}
use Rattle.cid_parts.specs.Located.{url_of}
use Rattle.cid_parts.specs.Refer.{refer, refer_to_text, ref_of_text}
use Rattle.wash_attributes.specs.Addresses.{given_of}
use Rattle.wash_attributes.specs.Values.{written_value}
use Rattle.wash_attributes.specs.Attributes.{kept_attribute, kept_attributes, with_declared, link_protection, washed_attributes}
use Rattle.html_wash.specs.Closings.{closing_rows, lookups_of, looked_up, closed_by, blocks, ended}
use Rattle.style_rules.specs.Cascade.{declared, entries_of, last_of_each}
use Rattle.wash_attributes.specs.FirstValues.{attribute_text}
use Rattle.html_wash.specs.Styling.{settled, following_of, declared_for, counted}
use Rattle.html_wash.specs.Wash.{after_start, after_end, wash_token, wash_part, wash_from, wash}
use Rattle.remote_images.specs.Remote.{is_remote_image, has_remote_images}
use Rattle.page_frames.specs.Paths.{folder_query, message_path, show_address, shown_part_address, images_address}
use Rattle.page_frames.specs.Forms.{form_start, form_end, hidden, visible}
use Rattle.page_frames.specs.Pages.{page_start, nav_links, nav, heading}
use Rattle.mail_pages.specs.declared.frame.Frame.{Frame}
use Rattle.mail_pages.specs.declared.frame.Frame.TheVariants.{Plain, Session}
use Rattle.mail_pages.specs.Place.{place_at}
use Rattle.mail_pages.specs.Head.{field_table, page_head}
use Rattle.mail_pages.specs.Parts.{part_link, part_words, part_list}
use Rattle.mail_pages.specs.Mail.{mail_of, washed_html}
use Rattle.mail_pages.specs.Offer.{html_has_images, images_link, images_paragraph, images_offer}
use Rattle.mail_pages.specs.Actions.{message_inputs, seen_inputs, seen_form, delete_form, move_form, message_forms}
use Rattle.mail_pages.specs.ShowPage.{shown_of, page_foot, page_of}

-- a message of a folder whose name is no word of an address
abbrev in_folder : Frame
in_folder = Session (record { folder = codes "A &%"; validity = 8; uid = 7 }) (codes "k")

-- HTML with a picture of the message itself and a remote one
abbrev pictures : List ℕ
pictures = codes "Subject: t\nContent-Type: multipart/related; boundary=b\n\n--b\nContent-Type: text/html\n\n<img src=cid:p@n><img src=http://t.example/o>\n--b\nContent-Type: image/png\nContent-ID: <p@n>\n\nx\n--b--\n"

-- the links of a session, the offer, the message's own picture alone, the parts, and the forms
session_page : spell (page_of in_folder pictures None false) ≡ codes "<!DOCTYPE html>\n<html lang=\"en\"><head><meta charset=\"utf-8\"><title>t</title><link rel=\"stylesheet\" href=\"/site.css\"></head>\n<body><p class=\"nav\"><a href=\"/\">Folders</a> <a href=\"/compose\">Compose</a> <a href=\"/identities\">Identities</a></p>\n<h1>t</h1>\n<table class=\"head\"></table>\n<p class=\"images\"><a href=\"/show/8/7?f=A+%26%25&amp;images=1\">Show remote images</a></p>\n<div class=\"mail\"><img src=\"/part/8/7/2?f=A+%26%25\"><img></div>\n<ul class=\"parts\"><li><a href=\"/part/8/7/1?f=A+%26%25\">1</a> text/html 45</li><li><a href=\"/part/8/7/2?f=A+%26%25\">2</a> image/png 1</li></ul>\n<form method=\"post\" action=\"/flag\"><input type=\"hidden\" name=\"key\" value=\"k\"><input type=\"hidden\" name=\"f\" value=\"A &amp;%\"><input type=\"hidden\" name=\"v\" value=\"8\"><input type=\"hidden\" name=\"u\" value=\"7\"><input type=\"hidden\" name=\"flag\" value=\"Seen\"><input type=\"hidden\" name=\"on\" value=\"1\"><button>Mark as read</button></form><form method=\"post\" action=\"/flag\"><input type=\"hidden\" name=\"key\" value=\"k\"><input type=\"hidden\" name=\"f\" value=\"A &amp;%\"><input type=\"hidden\" name=\"v\" value=\"8\"><input type=\"hidden\" name=\"u\" value=\"7\"><input type=\"hidden\" name=\"flag\" value=\"Seen\"><input type=\"hidden\" name=\"on\" value=\"0\"><button>Mark as unread</button></form><form method=\"post\" action=\"/delete\"><input type=\"hidden\" name=\"key\" value=\"k\"><input type=\"hidden\" name=\"f\" value=\"A &amp;%\"><input type=\"hidden\" name=\"v\" value=\"8\"><input type=\"hidden\" name=\"u\" value=\"7\"><button>Delete</button></form><form method=\"post\" action=\"/move\"><input type=\"hidden\" name=\"key\" value=\"k\"><input type=\"hidden\" name=\"f\" value=\"A &amp;%\"><input type=\"hidden\" name=\"v\" value=\"8\"><input type=\"hidden\" name=\"u\" value=\"7\"><input type=\"text\" name=\"to\" value=\"\"><button>Move</button></form>\n</body></html>\n"
unfolding digits decoded_of with_words_decoded items_from joined word_at word_text quoted_bytes line_bytes without_blanks unescaped page_of page_foot shown_of page_head page_start nav nav_links heading field_table images_offer images_paragraph images_link place_at folder_query message_path show_address shown_part_address images_address byte_serialize part_list part_link part_words message_forms seen_form seen_inputs message_inputs delete_form move_form form_start form_end hidden visible mail_of washed_html html_has_images spell is_void message_void_elements frame_void_elements best_of leaf_to_show tree_of parts_of message_of tree_after_steps open_first opens_beside children_of children_from node_at content_of places is_closing_line is_delimiter_line header_of utf8_lossy utf8_valid_len is_utf8 chars encode tokens normalize_newlines read step look_again look tokens_at_end reference wash wash_from wash_part wash_token after_start after_end settled following_of declared_for counted attribute_text declared entries_of last_of_each closed_by looked_up lookups_of closing_rows ended blocks is_listed_attribute common_attributes attribute_rows kind_of value_kind_rows written_value is_message_element message_elements is_dropped_element dropped_elements washed_attributes kept_attribute kept_attributes link_protection with_declared given_of refer refer_to_text ref_of_text url_of url_on_literals is_remote is_link percent_decode has_remote_images is_remote_image
session_page = refl

-- remote images as they were requested
requested_page : spell (shown_of in_folder pictures None true) ≡ codes "<img src=\"/part/8/7/2?f=A+%26%25\"><img src=\"http://t.example/o\">"
unfolding digits decoded_of with_words_decoded items_from joined word_at word_text quoted_bytes line_bytes without_blanks unescaped page_of page_foot shown_of page_head page_start nav nav_links heading field_table images_offer images_paragraph images_link place_at folder_query message_path show_address shown_part_address images_address byte_serialize part_list part_link part_words message_forms seen_form seen_inputs message_inputs delete_form move_form form_start form_end hidden visible mail_of washed_html html_has_images spell is_void message_void_elements frame_void_elements best_of leaf_to_show tree_of parts_of message_of tree_after_steps open_first opens_beside children_of children_from node_at content_of places is_closing_line is_delimiter_line header_of utf8_lossy utf8_valid_len is_utf8 chars encode tokens normalize_newlines read step look_again look tokens_at_end reference wash wash_from wash_part wash_token after_start after_end settled following_of declared_for counted attribute_text declared entries_of last_of_each closed_by looked_up lookups_of closing_rows ended blocks is_listed_attribute common_attributes attribute_rows kind_of value_kind_rows written_value is_message_element message_elements is_dropped_element dropped_elements washed_attributes kept_attribute kept_attributes link_protection with_declared given_of refer refer_to_text ref_of_text url_of url_on_literals is_remote is_link percent_decode has_remote_images is_remote_image
requested_page = refl

-- what was requested is not offered again, and a page that is shown by itself offers nothing
no_offers : images_offer in_folder (tree_of pictures) None true ++ images_offer Plain (tree_of pictures) None false ≡ []
unfolding digits decoded_of with_words_decoded items_from joined word_at word_text quoted_bytes line_bytes without_blanks unescaped page_of page_foot shown_of page_head page_start nav nav_links heading field_table images_offer images_paragraph images_link place_at folder_query message_path show_address shown_part_address images_address byte_serialize part_list part_link part_words message_forms seen_form seen_inputs message_inputs delete_form move_form form_start form_end hidden visible mail_of washed_html html_has_images spell is_void message_void_elements frame_void_elements best_of leaf_to_show tree_of parts_of message_of tree_after_steps open_first opens_beside children_of children_from node_at content_of places is_closing_line is_delimiter_line header_of utf8_lossy utf8_valid_len is_utf8 chars encode tokens normalize_newlines read step look_again look tokens_at_end reference wash wash_from wash_part wash_token after_start after_end settled following_of declared_for counted attribute_text declared entries_of last_of_each closed_by looked_up lookups_of closing_rows ended blocks is_listed_attribute common_attributes attribute_rows kind_of value_kind_rows written_value is_message_element message_elements is_dropped_element dropped_elements washed_attributes kept_attribute kept_attributes link_protection with_declared given_of refer refer_to_text ref_of_text url_of url_on_literals is_remote is_link percent_decode has_remote_images is_remote_image
no_offers = refl

-- the offer keeps the part that was requested
offer_of_part : spell (images_offer in_folder (tree_of pictures) (Some (1 ∷ [])) false) ≡ codes "<p class=\"images\"><a href=\"/show/8/7?f=A+%26%25&amp;part=1&amp;images=1\">Show remote images</a></p>\n"
unfolding digits decoded_of with_words_decoded items_from joined word_at word_text quoted_bytes line_bytes without_blanks unescaped page_of page_foot shown_of page_head page_start nav nav_links heading field_table images_offer images_paragraph images_link place_at folder_query message_path show_address shown_part_address images_address byte_serialize part_list part_link part_words message_forms seen_form seen_inputs message_inputs delete_form move_form form_start form_end hidden visible mail_of washed_html html_has_images spell is_void message_void_elements frame_void_elements best_of leaf_to_show tree_of parts_of message_of tree_after_steps open_first opens_beside children_of children_from node_at content_of places is_closing_line is_delimiter_line header_of utf8_lossy utf8_valid_len is_utf8 chars encode tokens normalize_newlines read step look_again look tokens_at_end reference wash wash_from wash_part wash_token after_start after_end settled following_of declared_for counted attribute_text declared entries_of last_of_each closed_by looked_up lookups_of closing_rows ended blocks is_listed_attribute common_attributes attribute_rows kind_of value_kind_rows written_value is_message_element message_elements is_dropped_element dropped_elements washed_attributes kept_attribute kept_attributes link_protection with_declared given_of refer refer_to_text ref_of_text url_of url_on_literals is_remote is_link percent_decode has_remote_images is_remote_image
offer_of_part = refl

-- what has no remote picture offers none
no_remote_picture : images_offer in_folder (tree_of (codes "Content-Type: text/html\n\n<a href=http://t.example/><img src=cid:p@n>")) None false ≡ []
unfolding digits decoded_of with_words_decoded items_from joined word_at word_text quoted_bytes line_bytes without_blanks unescaped page_of page_foot shown_of page_head page_start nav nav_links heading field_table images_offer images_paragraph images_link place_at folder_query message_path show_address shown_part_address images_address byte_serialize part_list part_link part_words message_forms seen_form seen_inputs message_inputs delete_form move_form form_start form_end hidden visible mail_of washed_html html_has_images spell is_void message_void_elements frame_void_elements best_of leaf_to_show tree_of parts_of message_of tree_after_steps open_first opens_beside children_of children_from node_at content_of places is_closing_line is_delimiter_line header_of utf8_lossy utf8_valid_len is_utf8 chars encode tokens normalize_newlines read step look_again look tokens_at_end reference wash wash_from wash_part wash_token after_start after_end settled following_of declared_for counted attribute_text declared entries_of last_of_each closed_by looked_up lookups_of closing_rows ended blocks is_listed_attribute common_attributes attribute_rows kind_of value_kind_rows written_value is_message_element message_elements is_dropped_element dropped_elements washed_attributes kept_attribute kept_attributes link_protection with_declared given_of refer refer_to_text ref_of_text url_of url_on_literals is_remote is_link percent_decode has_remote_images is_remote_image
no_remote_picture = refl
