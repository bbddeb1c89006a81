-- Washed texts, computed: a text, and the spelling of its washed tokens.
use Rattle.std.proofs.Common.{◌≡◌, ℕ, zero, suc, Bool, true, false, if◌then◌else◌, List, [], ◌∷◌, ◌++◌, codes, refl}
use Rattle.std.specs.Str.{chars}
use Rattle.html_syntax.specs.References.{reference}
use Rattle.html_syntax.specs.Tokenizer.{same, look, look_again, step, tokens_at_end, read, normalize_newlines, tokens}
use Rattle.html_rules.specs.Tables.{message_elements, is_message_element, dropped_elements, is_dropped_element, message_void_elements, frame_void_elements, is_void, common_attributes, attribute_rows, is_listed_attribute, kind_of, value_kind_rows}
use Rattle.html_rules.specs.Values.{is_number, is_word}
use Rattle.page_writer.specs.Page.{spell}
use Rattle.style_wash.specs.Characters.{trimmed}
use Rattle.wash_attributes.specs.Given.{Target, Given}
use Rattle.wash_attributes.specs.Values.{written_value}
use Rattle.wash_attributes.specs.Attributes.{kept_attribute, kept_attributes, with_declared, link_protection, washed_attributes}
use Rattle.html_wash.specs.Closings.{closing_rows, lookups_of, looked_up, closed_by, blocks, ended}
use Rattle.style_rules.specs.Cascade.{declared, entries_of, last_of_each}
use Rattle.wash_attributes.specs.FirstValues.{attribute_text}
use Rattle.html_wash.specs.Styling.{settled, following_of, declared_for, counted}
use Rattle.html_wash.specs.Wash.{after_start, after_end, wash_token, wash_part, wash_from, wash}

-- four addresses that refer to something, and two styles that have a declaration
target_of : List ℕ → Target
target_of address =
    if same (codes "cid:top%40n") address then Target.Part (codes "/part/0/0/2.2?f=")
    else (if same (codes "http://e.example/") address then Target.Remote (codes "http://e.example/")
    else (if same (codes " HTTPS://E.example/a b") address then Target.Remote (codes "https://e.example/a%20b")
    else (if same (codes "mailto:a@e.example") address then Target.Link address
    else Target.Nothing)))

style_of : List ℕ → List ℕ
style_of style =
    if same (codes "color:red;background:url(x);width:expression(1);font-family:'A B'") style then codes "color: red; font-family: 'A B'"
    else (if same (codes "color:red") style then codes "color: red" else [])

with_images : Bool → Given
with_images images = record { refer = target_of; stylewash = style_of; images = images }

-- the washed text, without and with remote pictures
washed : List ℕ → List ℕ
washed text = spell (wash (with_images false) (tokens text))

washed_with_images : List ℕ → List ℕ
washed_with_images text = spell (wash (with_images true) (tokens text))

-- ---- tags and text

-- a name may have `<` in it
odd_name : washed (codes "<scr<script>ipt>x</script>y") ≡ codes "ipt&gt;xy"
unfolding washed with_images target_of style_of tokens normalize_newlines read step look_again look tokens_at_end reference spell wash wash_from wash_part wash_token after_start after_end settled following_of declared_for counted attribute_text chars declared entries_of last_of_each closed_by looked_up lookups_of closing_rows ended blocks washed_attributes with_declared kept_attributes kept_attribute link_protection is_listed_attribute common_attributes attribute_rows kind_of value_kind_rows written_value is_number is_word trimmed is_message_element message_elements is_dropped_element dropped_elements is_void message_void_elements frame_void_elements
odd_name = refl

-- comments and document types are dropped
comments : washed (codes "<!DOCTYPE html><!--><b>x</b><!-- --!><i>y") ≡ codes "<b>x</b><i>y</i>"
unfolding washed with_images target_of style_of tokens normalize_newlines read step look_again look tokens_at_end reference spell wash wash_from wash_part wash_token after_start after_end settled following_of declared_for counted attribute_text chars declared entries_of last_of_each closed_by looked_up lookups_of closing_rows ended blocks washed_attributes with_declared kept_attributes kept_attribute link_protection is_listed_attribute common_attributes attribute_rows kind_of value_kind_rows written_value is_number is_word trimmed is_message_element message_elements is_dropped_element dropped_elements is_void message_void_elements frame_void_elements
comments = refl

-- references are decoded, and U+0000 is U+FFFD
text : washed (codes "<b title='\"&gt;&notanentity; &copy=1'>&#13;&#0;&#128;</b>" ++ 0 ∷ []) ≡ codes "<b title=\"&quot;&gt;&amp;notanentity; &amp;copy=1\">&#13;" ++ 0xFFFD ∷ 0x20AC ∷ codes "</b>" ++ 0xFFFD ∷ []
unfolding washed with_images target_of style_of tokens normalize_newlines read step look_again look tokens_at_end reference spell wash wash_from wash_part wash_token after_start after_end settled following_of declared_for counted attribute_text chars declared entries_of last_of_each closed_by looked_up lookups_of closing_rows ended blocks washed_attributes with_declared kept_attributes kept_attribute link_protection is_listed_attribute common_attributes attribute_rows kind_of value_kind_rows written_value is_number is_word trimmed is_message_element message_elements is_dropped_element dropped_elements is_void message_void_elements frame_void_elements
text = refl

-- the tags of unlisted elements are dropped, their content is kept
unlisted : washed (codes "<form action=x><svg><p>a</p></svg><input>b</form>") ≡ codes "<p>a</p>b"
unfolding washed with_images target_of style_of tokens normalize_newlines read step look_again look tokens_at_end reference spell wash wash_from wash_part wash_token after_start after_end settled following_of declared_for counted attribute_text chars declared entries_of last_of_each closed_by looked_up lookups_of closing_rows ended blocks washed_attributes with_declared kept_attributes kept_attribute link_protection is_listed_attribute common_attributes attribute_rows kind_of value_kind_rows written_value is_number is_word trimmed is_message_element message_elements is_dropped_element dropped_elements is_void message_void_elements frame_void_elements
unlisted = refl

-- dropped elements go with their text, references and all
dropped : washed (codes "a<script>if (b<c) d()</script>e<title>&lt;b&gt;</title>f<style>p{}</style>g<iframe src=x>h</iframe>i<noembed>j</noembed>k<noframes>l</noframes>m") ≡ codes "aefgikm"
unfolding washed with_images target_of style_of tokens normalize_newlines read step look_again look tokens_at_end reference spell wash wash_from wash_part wash_token after_start after_end settled following_of declared_for counted attribute_text chars declared entries_of last_of_each closed_by looked_up lookups_of closing_rows ended blocks washed_attributes with_declared kept_attributes kept_attribute link_protection is_listed_attribute common_attributes attribute_rows kind_of value_kind_rows written_value is_number is_word trimmed is_message_element message_elements is_dropped_element dropped_elements is_void message_void_elements frame_void_elements
dropped = refl

-- only the characters directly after the start tag are dropped, so an end tag that never comes drops all
dropped_to_the_next_token : washed (codes "a<title>b&amp;c") ≡ codes "a"
unfolding washed with_images target_of style_of tokens normalize_newlines read step look_again look tokens_at_end reference spell wash wash_from wash_part wash_token after_start after_end settled following_of declared_for counted attribute_text chars declared entries_of last_of_each closed_by looked_up lookups_of closing_rows ended blocks washed_attributes with_declared kept_attributes kept_attribute link_protection is_listed_attribute common_attributes attribute_rows kind_of value_kind_rows written_value is_number is_word trimmed is_message_element message_elements is_dropped_element dropped_elements is_void message_void_elements frame_void_elements
dropped_to_the_next_token = refl

-- after `plaintext` there are no tags any more
plaintext : washed (codes "<b>a<plaintext>b</b></plaintext><i>") ≡ codes "<b>ab&lt;/b&gt;&lt;/plaintext&gt;&lt;i&gt;</b>"
unfolding washed with_images target_of style_of tokens normalize_newlines read step look_again look tokens_at_end reference spell wash wash_from wash_part wash_token after_start after_end settled following_of declared_for counted attribute_text chars declared entries_of last_of_each closed_by looked_up lookups_of closing_rows ended blocks washed_attributes with_declared kept_attributes kept_attribute link_protection is_listed_attribute common_attributes attribute_rows kind_of value_kind_rows written_value is_number is_word trimmed is_message_element message_elements is_dropped_element dropped_elements is_void message_void_elements frame_void_elements
plaintext = refl

-- a tag without an end is no tag
unfinished : washed (codes "a<b title=\"x") ≡ codes "a"
unfolding washed with_images target_of style_of tokens normalize_newlines read step look_again look tokens_at_end reference spell wash wash_from wash_part wash_token after_start after_end settled following_of declared_for counted attribute_text chars declared entries_of last_of_each closed_by looked_up lookups_of closing_rows ended blocks washed_attributes with_declared kept_attributes kept_attribute link_protection is_listed_attribute common_attributes attribute_rows kind_of value_kind_rows written_value is_number is_word trimmed is_message_element message_elements is_dropped_element dropped_elements is_void message_void_elements frame_void_elements
unfinished = refl

-- ---- attributes

-- the first attribute of a name counts, and a handler is dropped
picture : washed (codes "<img src=x onerror=alert(1)><IMG SRC=\"cid:top%40n\" src=\"http://e.example/\">") ≡ codes "<img><img src=\"/part/0/0/2.2?f=\">"
unfolding washed with_images target_of style_of tokens normalize_newlines read step look_again look tokens_at_end reference spell wash wash_from wash_part wash_token after_start after_end settled following_of declared_for counted attribute_text chars declared entries_of last_of_each closed_by looked_up lookups_of closing_rows ended blocks washed_attributes with_declared kept_attributes kept_attribute link_protection is_listed_attribute common_attributes attribute_rows kind_of value_kind_rows written_value is_number is_word trimmed is_message_element message_elements is_dropped_element dropped_elements is_void message_void_elements frame_void_elements
picture = refl

-- the same if remote pictures were requested
picture_with_images : washed_with_images (codes "<img src=x onerror=alert(1)><IMG SRC=\"cid:top%40n\" src=\"http://e.example/\">") ≡ codes "<img><img src=\"/part/0/0/2.2?f=\">"
unfolding washed_with_images with_images target_of style_of tokens normalize_newlines read step look_again look tokens_at_end reference spell wash wash_from wash_part wash_token after_start after_end settled following_of declared_for counted attribute_text chars declared entries_of last_of_each closed_by looked_up lookups_of closing_rows ended blocks washed_attributes with_declared kept_attributes kept_attribute link_protection is_listed_attribute common_attributes attribute_rows kind_of value_kind_rows written_value is_number is_word trimmed is_message_element message_elements is_dropped_element dropped_elements is_void message_void_elements frame_void_elements
picture_with_images = refl

-- a remote picture is not written
remote_picture : washed (codes "<img src=\"http://e.example/\" width=1>") ≡ codes "<img width=\"1\">"
unfolding washed with_images target_of style_of tokens normalize_newlines read step look_again look tokens_at_end reference spell wash wash_from wash_part wash_token after_start after_end settled following_of declared_for counted attribute_text chars declared entries_of last_of_each closed_by looked_up lookups_of closing_rows ended blocks washed_attributes with_declared kept_attributes kept_attribute link_protection is_listed_attribute common_attributes attribute_rows kind_of value_kind_rows written_value is_number is_word trimmed is_message_element message_elements is_dropped_element dropped_elements is_void message_void_elements frame_void_elements
remote_picture = refl

-- and is written if remote pictures were requested
remote_picture_with_images : washed_with_images (codes "<img src=\"http://e.example/\" width=1>") ≡ codes "<img src=\"http://e.example/\" width=\"1\">"
unfolding washed_with_images with_images target_of style_of tokens normalize_newlines read step look_again look tokens_at_end reference spell wash wash_from wash_part wash_token after_start after_end settled following_of declared_for counted attribute_text chars declared entries_of last_of_each closed_by looked_up lookups_of closing_rows ended blocks washed_attributes with_declared kept_attributes kept_attribute link_protection is_listed_attribute common_attributes attribute_rows kind_of value_kind_rows written_value is_number is_word trimmed is_message_element message_elements is_dropped_element dropped_elements is_void message_void_elements frame_void_elements
remote_picture_with_images = refl

-- a link is written if its address refers to something remote, and opens in a new window
links : washed (codes "<a href=\"jav&#9;ascript:1\">t</a><a href=\" HTTPS://E.example/a b\">u</a><a href=\"mailto:a@e.example\" target=_top>v</a>") ≡ codes "<a>t</a><a href=\"https://e.example/a%20b\" rel=\"noopener noreferrer\" target=\"_blank\">u</a><a href=\"mailto:a@e.example\" rel=\"noopener noreferrer\" target=\"_blank\">v</a>"
unfolding washed with_images target_of style_of tokens normalize_newlines read step look_again look tokens_at_end reference spell wash wash_from wash_part wash_token after_start after_end settled following_of declared_for counted attribute_text chars declared entries_of last_of_each closed_by looked_up lookups_of closing_rows ended blocks washed_attributes with_declared kept_attributes kept_attribute link_protection is_listed_attribute common_attributes attribute_rows kind_of value_kind_rows written_value is_number is_word trimmed is_message_element message_elements is_dropped_element dropped_elements is_void message_void_elements frame_void_elements
links = refl

-- a style is written as washed
style : washed (codes "<p style=\"color:red;background:url(x);width:expression(1);font-family:'A B'\">t</p><p style='x'>u</p>") ≡ codes "<p style=\"color: red; font-family: 'A B'\">t</p><p>u</p>"
unfolding washed with_images target_of style_of tokens normalize_newlines read step look_again look tokens_at_end reference spell wash wash_from wash_part wash_token after_start after_end settled following_of declared_for counted attribute_text chars declared entries_of last_of_each closed_by looked_up lookups_of closing_rows ended blocks washed_attributes with_declared kept_attributes kept_attribute link_protection is_listed_attribute common_attributes attribute_rows kind_of value_kind_rows written_value is_number is_word trimmed is_message_element message_elements is_dropped_element dropped_elements is_void message_void_elements frame_void_elements
style = refl

-- numbers up to five digits, and past them
numbers : washed (codes "<table width=\" 600 \" height=99999 border=+1% cellpadding=100000 cellspacing=5px>") ≡ codes "<table width=\"600\" height=\"99999\" border=\"+1%\"></table>"
unfolding washed with_images target_of style_of tokens normalize_newlines read step look_again look tokens_at_end reference spell wash wash_from wash_part wash_token after_start after_end settled following_of declared_for counted attribute_text chars declared entries_of last_of_each closed_by looked_up lookups_of closing_rows ended blocks washed_attributes with_declared kept_attributes kept_attribute link_protection is_listed_attribute common_attributes attribute_rows kind_of value_kind_rows written_value is_number is_word trimmed is_message_element message_elements is_dropped_element dropped_elements is_void message_void_elements frame_void_elements
numbers = refl

-- words up to 32 characters, and past them
words : washed (codes "<td align=abcdefghijklmnopqrstuvwxyz-12345 valign=abcdefghijklmnopqrstuvwxyz-123456 bgcolor=\"#fff\" dir=\"a b\">") ≡ codes "<td align=\"abcdefghijklmnopqrstuvwxyz-12345\" bgcolor=\"#fff\"></td>"
unfolding washed with_images target_of style_of tokens normalize_newlines read step look_again look tokens_at_end reference spell wash wash_from wash_part wash_token after_start after_end settled following_of declared_for counted attribute_text chars declared entries_of last_of_each closed_by looked_up lookups_of closing_rows ended blocks washed_attributes with_declared kept_attributes kept_attribute link_protection is_listed_attribute common_attributes attribute_rows kind_of value_kind_rows written_value is_number is_word trimmed is_message_element message_elements is_dropped_element dropped_elements is_void message_void_elements frame_void_elements
words = refl

-- a flag is written empty, and a text is any text
flags : washed (codes "<td nowrap=no title=\"a<b\">x</td><hr noshade>") ≡ codes "<td nowrap=\"\" title=\"a&lt;b\">x</td><hr noshade=\"\">"
unfolding washed with_images target_of style_of tokens normalize_newlines read step look_again look tokens_at_end reference spell wash wash_from wash_part wash_token after_start after_end settled following_of declared_for counted attribute_text chars declared entries_of last_of_each closed_by looked_up lookups_of closing_rows ended blocks washed_attributes with_declared kept_attributes kept_attribute link_protection is_listed_attribute common_attributes attribute_rows kind_of value_kind_rows written_value is_number is_word trimmed is_message_element message_elements is_dropped_element dropped_elements is_void message_void_elements frame_void_elements
flags = refl

-- ---- start tags that close

-- a block closes a paragraph
paragraphs : washed (codes "<p>a<p>b<div>c<p>d<h1>e<p>f<ul>g") ≡ codes "<p>a</p><p>b</p><div>c<p>d</p><h1>e<p>f</p><ul>g</ul></h1></div>"
unfolding washed with_images target_of style_of tokens normalize_newlines read step look_again look tokens_at_end reference spell wash wash_from wash_part wash_token after_start after_end settled following_of declared_for counted attribute_text chars declared entries_of last_of_each closed_by looked_up lookups_of closing_rows ended blocks washed_attributes with_declared kept_attributes kept_attribute link_protection is_listed_attribute common_attributes attribute_rows kind_of value_kind_rows written_value is_number is_word trimmed is_message_element message_elements is_dropped_element dropped_elements is_void message_void_elements frame_void_elements
paragraphs = refl

-- with all that is open in it
paragraphs_and_what_is_in_them : washed (codes "<p><b><i>a<hr>b") ≡ codes "<p><b><i>a</i></b></p><hr>b"
unfolding washed with_images target_of style_of tokens normalize_newlines read step look_again look tokens_at_end reference spell wash wash_from wash_part wash_token after_start after_end settled following_of declared_for counted attribute_text chars declared entries_of last_of_each closed_by looked_up lookups_of closing_rows ended blocks washed_attributes with_declared kept_attributes kept_attribute link_protection is_listed_attribute common_attributes attribute_rows kind_of value_kind_rows written_value is_number is_word trimmed is_message_element message_elements is_dropped_element dropped_elements is_void message_void_elements frame_void_elements
paragraphs_and_what_is_in_them = refl

-- but not one outside of a cell
paragraphs_outside_of_cells : washed (codes "<p><table><tr><td><div>a<p>b<table>c") ≡ codes "<p></p><table><tr><td><div>a<p>b</p><table>c</table></div></td></tr></table>"
unfolding washed with_images target_of style_of tokens normalize_newlines read step look_again look tokens_at_end reference spell wash wash_from wash_part wash_token after_start after_end settled following_of declared_for counted attribute_text chars declared entries_of last_of_each closed_by looked_up lookups_of closing_rows ended blocks washed_attributes with_declared kept_attributes kept_attribute link_protection is_listed_attribute common_attributes attribute_rows kind_of value_kind_rows written_value is_number is_word trimmed is_message_element message_elements is_dropped_element dropped_elements is_void message_void_elements frame_void_elements
paragraphs_outside_of_cells = refl

-- nor one outside of a caption
paragraph_before_a_caption : washed (codes "<p><caption><div>a") ≡ codes "<p><caption><div>a</div></caption></p>"
unfolding washed with_images target_of style_of tokens normalize_newlines read step look_again look tokens_at_end reference spell wash wash_from wash_part wash_token after_start after_end settled following_of declared_for counted attribute_text chars declared entries_of last_of_each closed_by looked_up lookups_of closing_rows ended blocks washed_attributes with_declared kept_attributes kept_attribute link_protection is_listed_attribute common_attributes attribute_rows kind_of value_kind_rows written_value is_number is_word trimmed is_message_element message_elements is_dropped_element dropped_elements is_void message_void_elements frame_void_elements
paragraph_before_a_caption = refl

-- an item closes the item before it, and then a paragraph
items : washed (codes "<ul><li>a<p>b<li>c<ul><li>d</ul>e<li>f</ul><p>g<li>h") ≡ codes "<ul><li>a<p>b</p></li><li>c<ul><li>d</li></ul>e</li><li>f</li></ul><p>g</p><li>h</li>"
unfolding washed with_images target_of style_of tokens normalize_newlines read step look_again look tokens_at_end reference spell wash wash_from wash_part wash_token after_start after_end settled following_of declared_for counted attribute_text chars declared entries_of last_of_each closed_by looked_up lookups_of closing_rows ended blocks washed_attributes with_declared kept_attributes kept_attribute link_protection is_listed_attribute common_attributes attribute_rows kind_of value_kind_rows written_value is_number is_word trimmed is_message_element message_elements is_dropped_element dropped_elements is_void message_void_elements frame_void_elements
items = refl

-- but not one outside of a quotation
item_in_a_quotation : washed (codes "<li>a<blockquote><li>b") ≡ codes "<li>a<blockquote><li>b</li></blockquote></li>"
unfolding washed with_images target_of style_of tokens normalize_newlines read step look_again look tokens_at_end reference spell wash wash_from wash_part wash_token after_start after_end settled following_of declared_for counted attribute_text chars declared entries_of last_of_each closed_by looked_up lookups_of closing_rows ended blocks washed_attributes with_declared kept_attributes kept_attribute link_protection is_listed_attribute common_attributes attribute_rows kind_of value_kind_rows written_value is_number is_word trimmed is_message_element message_elements is_dropped_element dropped_elements is_void message_void_elements frame_void_elements
item_in_a_quotation = refl

-- so do terms and definitions
definitions : washed (codes "<dl><dt>a<dd>b<p>c<dt>d<dl><dd>e</dl>f<dd>g</dl>") ≡ codes "<dl><dt>a</dt><dd>b<p>c</p></dd><dt>d<dl><dd>e</dd></dl>f</dt><dd>g</dd></dl>"
unfolding washed with_images target_of style_of tokens normalize_newlines read step look_again look tokens_at_end reference spell wash wash_from wash_part wash_token after_start after_end settled following_of declared_for counted attribute_text chars declared entries_of last_of_each closed_by looked_up lookups_of closing_rows ended blocks washed_attributes with_declared kept_attributes kept_attribute link_protection is_listed_attribute common_attributes attribute_rows kind_of value_kind_rows written_value is_number is_word trimmed is_message_element message_elements is_dropped_element dropped_elements is_void message_void_elements frame_void_elements
definitions = refl

-- a link closes a link, but not one outside of a cell
nested_links : washed (codes "<a>a<b>b<a>c<table><tr><td><a>d") ≡ codes "<a>a<b>b</b></a><a>c<table><tr><td><a>d</a></td></tr></table></a>"
unfolding washed with_images target_of style_of tokens normalize_newlines read step look_again look tokens_at_end reference spell wash wash_from wash_part wash_token after_start after_end settled following_of declared_for counted attribute_text chars declared entries_of last_of_each closed_by looked_up lookups_of closing_rows ended blocks washed_attributes with_declared kept_attributes kept_attribute link_protection is_listed_attribute common_attributes attribute_rows kind_of value_kind_rows written_value is_number is_word trimmed is_message_element message_elements is_dropped_element dropped_elements is_void message_void_elements frame_void_elements
nested_links = refl

-- a cell closes cells, captions and column groups of its row
cells : washed (codes "<table><tr><td>a<td>b<th>c<caption>d<colgroup><td>e") ≡ codes "<table><tr><td>a</td><td>b</td><th>c<caption>d<colgroup></colgroup></caption></th><td>e</td></tr></table>"
unfolding washed with_images target_of style_of tokens normalize_newlines read step look_again look tokens_at_end reference spell wash wash_from wash_part wash_token after_start after_end settled following_of declared_for counted attribute_text chars declared entries_of last_of_each closed_by looked_up lookups_of closing_rows ended blocks washed_attributes with_declared kept_attributes kept_attribute link_protection is_listed_attribute common_attributes attribute_rows kind_of value_kind_rows written_value is_number is_word trimmed is_message_element message_elements is_dropped_element dropped_elements is_void message_void_elements frame_void_elements
cells = refl

-- a row closes rows of its table
rows : washed (codes "<table><caption>a<tr><td>b<tr>c<table><tr>d") ≡ codes "<table><caption>a</caption><tr><td>b</td></tr><tr>c<table><tr>d</tr></table></tr></table>"
unfolding washed with_images target_of style_of tokens normalize_newlines read step look_again look tokens_at_end reference spell wash wash_from wash_part wash_token after_start after_end settled following_of declared_for counted attribute_text chars declared entries_of last_of_each closed_by looked_up lookups_of closing_rows ended blocks washed_attributes with_declared kept_attributes kept_attribute link_protection is_listed_attribute common_attributes attribute_rows kind_of value_kind_rows written_value is_number is_word trimmed is_message_element message_elements is_dropped_element dropped_elements is_void message_void_elements frame_void_elements
rows = refl

-- a group of rows closes groups, rows, captions and column groups
row_groups : washed (codes "<table><colgroup><col span=2><thead><tr><td>a<tbody><tr><td>b<tfoot>c") ≡ codes "<table><colgroup><col span=\"2\"></colgroup><thead><tr><td>a</td></tr></thead><tbody><tr><td>b</td></tr></tbody><tfoot>c</tfoot></table>"
unfolding washed with_images target_of style_of tokens normalize_newlines read step look_again look tokens_at_end reference spell wash wash_from wash_part wash_token after_start after_end settled following_of declared_for counted attribute_text chars declared entries_of last_of_each closed_by looked_up lookups_of closing_rows ended blocks washed_attributes with_declared kept_attributes kept_attribute link_protection is_listed_attribute common_attributes attribute_rows kind_of value_kind_rows written_value is_number is_word trimmed is_message_element message_elements is_dropped_element dropped_elements is_void message_void_elements frame_void_elements
row_groups = refl

-- up to the outermost one
outermost : washed (codes "<table><caption><caption>a<tr>b") ≡ codes "<table><caption><caption>a</caption></caption><tr>b</tr></table>"
unfolding washed with_images target_of style_of tokens normalize_newlines read step look_again look tokens_at_end reference spell wash wash_from wash_part wash_token after_start after_end settled following_of declared_for counted attribute_text chars declared entries_of last_of_each closed_by looked_up lookups_of closing_rows ended blocks washed_attributes with_declared kept_attributes kept_attribute link_protection is_listed_attribute common_attributes attribute_rows kind_of value_kind_rows written_value is_number is_word trimmed is_message_element message_elements is_dropped_element dropped_elements is_void message_void_elements frame_void_elements
outermost = refl

-- ---- end tags

-- a table in short form
table : washed (codes "</div></div><p>a<p>b<table><tr><td>1<td>2</table>") ≡ codes "<p>a</p><p>b</p><table><tr><td>1</td><td>2</td></tr></table>"
unfolding washed with_images target_of style_of tokens normalize_newlines read step look_again look tokens_at_end reference spell wash wash_from wash_part wash_token after_start after_end settled following_of declared_for counted attribute_text chars declared entries_of last_of_each closed_by looked_up lookups_of closing_rows ended blocks washed_attributes with_declared kept_attributes kept_attribute link_protection is_listed_attribute common_attributes attribute_rows kind_of value_kind_rows written_value is_number is_word trimmed is_message_element message_elements is_dropped_element dropped_elements is_void message_void_elements frame_void_elements
table = refl

-- an end tag closes all up to its element
crossed : washed (codes "<b>a<i>b</b>c</i>d") ≡ codes "<b>a<i>b</i></b>cd"
unfolding washed with_images target_of style_of tokens normalize_newlines read step look_again look tokens_at_end reference spell wash wash_from wash_part wash_token after_start after_end settled following_of declared_for counted attribute_text chars declared entries_of last_of_each closed_by looked_up lookups_of closing_rows ended blocks washed_attributes with_declared kept_attributes kept_attribute link_protection is_listed_attribute common_attributes attribute_rows kind_of value_kind_rows written_value is_number is_word trimmed is_message_element message_elements is_dropped_element dropped_elements is_void message_void_elements frame_void_elements
crossed = refl

-- an end tag without its element does nothing
vain : washed (codes "<b>a</i></p></br></hr></x>b") ≡ codes "<b>ab</b>"
unfolding washed with_images target_of style_of tokens normalize_newlines read step look_again look tokens_at_end reference spell wash wash_from wash_part wash_token after_start after_end settled following_of declared_for counted attribute_text chars declared entries_of last_of_each closed_by looked_up lookups_of closing_rows ended blocks washed_attributes with_declared kept_attributes kept_attribute link_protection is_listed_attribute common_attributes attribute_rows kind_of value_kind_rows written_value is_number is_word trimmed is_message_element message_elements is_dropped_element dropped_elements is_void message_void_elements frame_void_elements
vain = refl

-- nor does one whose element is outside of a cell
vain_in_a_cell : washed (codes "<div><table><tr><td><b>a</div></tr>b</td></div>c</table></div>d") ≡ codes "<div><table><tr><td><b>a</b></td></tr>bc</table></div>d"
unfolding washed with_images target_of style_of tokens normalize_newlines read step look_again look tokens_at_end reference spell wash wash_from wash_part wash_token after_start after_end settled following_of declared_for counted attribute_text chars declared entries_of last_of_each closed_by looked_up lookups_of closing_rows ended blocks washed_attributes with_declared kept_attributes kept_attribute link_protection is_listed_attribute common_attributes attribute_rows kind_of value_kind_rows written_value is_number is_word trimmed is_message_element message_elements is_dropped_element dropped_elements is_void message_void_elements frame_void_elements
vain_in_a_cell = refl

-- or outside of a table
vain_in_a_table : washed (codes "<td><table></td><b>a</b></table>b") ≡ codes "<td><table><b>a</b></table>b</td>"
unfolding washed with_images target_of style_of tokens normalize_newlines read step look_again look tokens_at_end reference spell wash wash_from wash_part wash_token after_start after_end settled following_of declared_for counted attribute_text chars declared entries_of last_of_each closed_by looked_up lookups_of closing_rows ended blocks washed_attributes with_declared kept_attributes kept_attribute link_protection is_listed_attribute common_attributes attribute_rows kind_of value_kind_rows written_value is_number is_word trimmed is_message_element message_elements is_dropped_element dropped_elements is_void message_void_elements frame_void_elements
vain_in_a_table = refl

-- the end tag of a table closes the inner one
nested_tables : washed (codes "<table><tr><td><table><tr><td>a</table>b</td></table>c</table>d") ≡ codes "<table><tr><td><table><tr><td>a</td></tr></table>b</td></tr></table>cd"
unfolding washed with_images target_of style_of tokens normalize_newlines read step look_again look tokens_at_end reference spell wash wash_from wash_part wash_token after_start after_end settled following_of declared_for counted attribute_text chars declared entries_of last_of_each closed_by looked_up lookups_of closing_rows ended blocks washed_attributes with_declared kept_attributes kept_attribute link_protection is_listed_attribute common_attributes attribute_rows kind_of value_kind_rows written_value is_number is_word trimmed is_message_element message_elements is_dropped_element dropped_elements is_void message_void_elements frame_void_elements
nested_tables = refl

-- the end tag of a cell looks past captions
cell_end : washed (codes "<td><caption>a</div></td>b") ≡ codes "<td><caption>a</caption></td>b"
unfolding washed with_images target_of style_of tokens normalize_newlines read step look_again look tokens_at_end reference spell wash wash_from wash_part wash_token after_start after_end settled following_of declared_for counted attribute_text chars declared entries_of last_of_each closed_by looked_up lookups_of closing_rows ended blocks washed_attributes with_declared kept_attributes kept_attribute link_protection is_listed_attribute common_attributes attribute_rows kind_of value_kind_rows written_value is_number is_word trimmed is_message_element message_elements is_dropped_element dropped_elements is_void message_void_elements frame_void_elements
cell_end = refl

-- a cell closes a caption, so the end tag of the caption looks in vain
caption_before_a_cell : washed (codes "<caption>a<td>b</caption>c") ≡ codes "<caption>a</caption><td>bc</td>"
unfolding washed with_images target_of style_of tokens normalize_newlines read step look_again look tokens_at_end reference spell wash wash_from wash_part wash_token after_start after_end settled following_of declared_for counted attribute_text chars declared entries_of last_of_each closed_by looked_up lookups_of closing_rows ended blocks washed_attributes with_declared kept_attributes kept_attribute link_protection is_listed_attribute common_attributes attribute_rows kind_of value_kind_rows written_value is_number is_word trimmed is_message_element message_elements is_dropped_element dropped_elements is_void message_void_elements frame_void_elements
caption_before_a_cell = refl

repeat : ℕ → List ℕ → List ℕ
repeat zero letters = []
repeat (suc n) letters = letters ++ repeat n letters

-- ---- limits

-- at most 128 elements are open
open_limit : washed (repeat 129 (codes "<b>") ++ codes "x<hr>" ++ repeat 129 (codes "</b>")) ≡ repeat 128 (codes "<b>") ++ codes "x<hr>" ++ repeat 128 (codes "</b>")
unfolding repeat washed with_images target_of style_of tokens normalize_newlines read step look_again look tokens_at_end reference spell wash wash_from wash_part wash_token after_start after_end settled following_of declared_for counted attribute_text chars declared entries_of last_of_each closed_by looked_up lookups_of closing_rows ended blocks washed_attributes with_declared kept_attributes kept_attribute link_protection is_listed_attribute common_attributes attribute_rows kind_of value_kind_rows written_value is_number is_word trimmed is_message_element message_elements is_dropped_element dropped_elements is_void message_void_elements frame_void_elements
open_limit = refl
