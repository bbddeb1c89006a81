-- The pages of some messages of HTML and of flowed text, computed, as they are written.
use Rattle.std.proofs.Common.{◌≡◌, ℕ, false, List, [], ◌∷◌, ◌++◌, codes, refl}
use Rattle.std.specs.Prelude.{None, replicate}
use lib.Utf8.{encode}
use Rattle.std.specs.Str.{is_utf8, chars}
use Rattle.std.specs.Str.Lossy.{utf8_lossy, utf8_valid_len}
use Rattle.std.specs.Fmt.{digits}
use Rattle.html_rules.specs.Tables.{message_void_elements, frame_void_elements, is_void, message_elements, is_message_element, dropped_elements, is_dropped_element, common_attributes, attribute_rows, is_listed_attribute}
use Rattle.page_writer.specs.Page.{spell}
use Rattle.transfer_codings.specs.Quoted.{quoted_bytes, line_bytes, without_blanks, unescaped}
use Rattle.header_words.specs.EncodedWords.{with_words_decoded, items_from, joined, word_at, word_text}
use Rattle.header_words.specs.Fields.{header_of}
use Rattle.header_words.specs.Value.{decoded_of}
use Rattle.mime_content.specs.Content.{content_of}
use Rattle.mime_tree.specs.Body.{places, is_closing_line, is_delimiter_line}
use Rattle.mime_tree.specs.Opening.{node_at, children_from, children_of, opens_beside, open_first, tree_after_steps, message_of, parts_of, tree_of}
use Rattle.mime_tree.specs.Best.{best_of, leaf_to_show}
use Rattle.mail_pages.specs.Text.{with_line_feeds}
use Rattle.form_urlencoded.specs.Form.{byte_serialize}
use Rattle.page_frames.specs.Paths.{folder_query, message_path}
use Rattle.page_frames.specs.Pages.{page_start, heading}
use Rattle.mail_pages.specs.declared.frame.Frame.TheVariants.{Plain as by_itself}
use Rattle.mail_pages.specs.Place.{place_at}
use Rattle.mail_pages.specs.Head.{field_table, page_head}
use Rattle.mail_pages.specs.Parts.{part_link, part_words, part_list}
use Rattle.mail_pages.specs.Offer.{images_offer}
use Rattle.mail_pages.specs.Mail.{plain_text, paragraph, mail_of, washed_html, flowed_tokens}
use Rattle.mail_pages.specs.ShowPage.{shown_of, page_foot, page_of}
use Rattle.html_syntax.specs.References.{reference}
use Rattle.html_syntax.specs.Tokenizer.{look, look_again, step, tokens_at_end, read, normalize_newlines, tokens}
use Rattle.wash_attributes.specs.Attributes.{kept_attribute, kept_attributes, with_declared, link_protection, washed_attributes}
use Rattle.html_wash.specs.Closings.{closing_rows, lookups_of, looked_up, closed_by, blocks, ended}
use Rattle.style_rules.specs.Cascade.{declared, entries_of, last_of_each}
use Rattle.wash_attributes.specs.FirstValues.{attribute_text}
use Rattle.html_wash.specs.Styling.{settled, following_of, declared_for, counted}
use Rattle.html_wash.specs.Wash.{after_start, after_end, wash_token, wash_part, wash_from, wash}
use Rattle.flowed_text.specs.declared.Para.{Para}
use Rattle.flowed_text.specs.Lines.{lines}
use Rattle.flowed_text.specs.Paragraphs.{paras_of}
use Rattle.std.specs.List.{concat}
use Rattle.mail_pages.specs.Flowed.{paras_after, flowed_paras}

-- ---- HTML

-- what acts goes, what is open is closed
html_page : spell (page_of by_itself (codes "Subject: t\nContent-Type: text/html\n\n<p onclick=x>a<script>b</script><p>c<b><!-- d -->&lt;e</div>") None false) ≡ codes "<!DOCTYPE html>\n<html lang=\"en\"><head><meta charset=\"utf-8\"><title>t</title><link rel=\"stylesheet\" href=\"/site.css\"></head>\n<body><h1>t</h1>\n<table class=\"head\"></table>\n<div class=\"mail\"><p>a</p><p>c<b>&lt;e</b></p></div>\n<ul class=\"parts\"><li><a href=\"/part/0/0/1?f=\">1</a> text/html 60</li></ul>\n</body></html>\n"
unfolding digits decoded_of with_words_decoded items_from joined word_at word_text quoted_bytes line_bytes without_blanks unescaped page_of page_foot shown_of page_head page_start heading field_table images_offer place_at folder_query message_path byte_serialize part_list part_link part_words plain_text paragraph mail_of with_line_feeds spell is_void message_void_elements frame_void_elements best_of leaf_to_show tree_of parts_of message_of tree_after_steps open_first opens_beside children_of children_from node_at content_of places is_closing_line is_delimiter_line header_of utf8_lossy utf8_valid_len is_utf8 chars encode tokens normalize_newlines read step look_again look tokens_at_end reference wash wash_from wash_part wash_token after_start after_end settled following_of declared_for counted attribute_text declared entries_of last_of_each closed_by looked_up lookups_of closing_rows ended blocks is_listed_attribute common_attributes attribute_rows is_message_element message_elements is_dropped_element dropped_elements washed_attributes kept_attribute kept_attributes link_protection with_declared washed_html
html_page = refl

-- ---- flowed text

flowed_page : spell (page_of by_itself (codes "Subject: t\r\nContent-Type: text/plain; format=flowed\r\n\r\n> quoted one \r\n> goes on\r\n>> deep\r\nplain \r\ntext\r\n\r\n-- \r\nsig\r\n") None false) ≡ codes "<!DOCTYPE html>\n<html lang=\"en\"><head><meta charset=\"utf-8\"><title>t</title><link rel=\"stylesheet\" href=\"/site.css\"></head>\n<body><h1>t</h1>\n<table class=\"head\"></table>\n<div class=\"mail\"><blockquote><div>quoted one goes on</div><blockquote><div>deep</div></blockquote></blockquote><div>plain text</div><div><br></div><div>-- </div><div>sig</div></div>\n<ul class=\"parts\"><li><a href=\"/part/0/0/1?f=\">1</a> text/plain 61</li></ul>\n</body></html>\n"
unfolding digits decoded_of with_words_decoded items_from joined word_at word_text quoted_bytes line_bytes without_blanks unescaped page_of page_foot shown_of page_head page_start heading field_table images_offer place_at folder_query message_path byte_serialize part_list part_link part_words plain_text paragraph mail_of with_line_feeds spell is_void message_void_elements frame_void_elements best_of leaf_to_show tree_of parts_of message_of tree_after_steps open_first opens_beside children_of children_from node_at content_of places is_closing_line is_delimiter_line header_of utf8_lossy utf8_valid_len is_utf8 chars encode flowed_tokens paras_of lines paras_after
flowed_page = refl

flowed_page_del_sp : spell (shown_of by_itself (codes "Content-Type: text/plain; format=flowed; delsp=yes\n\n>a \n>b\nc \n<d>") None false) ≡ codes "<blockquote><div>ab</div></blockquote><div>c&lt;d&gt;</div>"
unfolding digits decoded_of with_words_decoded items_from joined word_at word_text quoted_bytes line_bytes without_blanks unescaped page_of page_foot shown_of page_head page_start heading field_table images_offer place_at folder_query message_path byte_serialize part_list part_link part_words plain_text paragraph mail_of with_line_feeds spell is_void message_void_elements frame_void_elements best_of leaf_to_show tree_of parts_of message_of tree_after_steps open_first opens_beside children_of children_from node_at content_of places is_closing_line is_delimiter_line header_of utf8_lossy utf8_valid_len is_utf8 chars encode flowed_tokens paras_of lines paras_after
flowed_page_del_sp = refl

at_depth : ℕ → Para
at_depth depth = record { depth = depth; text = codes "x" }

times : ℕ → List ℕ → List ℕ
times count text = concat (replicate count text)

-- only the difference of depths is opened or closed; quotes past the sixteenth are left out
depths : spell (flowed_paras (at_depth 1 ∷ at_depth 3 ∷ at_depth 2 ∷ at_depth 20 ∷ at_depth 16 ∷ at_depth 0 ∷ [])) ≡
    codes "<blockquote><div>x</div><blockquote><blockquote><div>x</div></blockquote><div>x</div>" ++ times 14 (codes "<blockquote>") ++ codes "<div>x</div><div>x</div>" ++ times 16 (codes "</blockquote>") ++ codes "<div>x</div>"
unfolding at_depth times paras_after spell is_void message_void_elements frame_void_elements chars
depths = refl

no_paras : flowed_paras [] ≡ []
unfolding paras_after
no_paras = refl
