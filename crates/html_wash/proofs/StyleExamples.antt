-- Washed texts with style elements, computed: a text, and the spelling of its washed tokens.
use Rattle.std.proofs.Common.{◌≡◌, ℕ, zero, suc, false, List, [], ◌++◌, codes, refl}
use Rattle.std.specs.Str.{chars}
use Rattle.html_syntax.specs.References.{reference}
use Rattle.html_syntax.specs.Tokenizer.{look, look_again, step, tokens_at_end, read, normalize_newlines, tokens}
use Rattle.html_rules.specs.Tables.{message_elements, is_message_element, dropped_elements, is_dropped_element, message_void_elements, frame_void_elements, is_void, common_attributes, attribute_rows, is_listed_attribute, kind_of, value_kind_rows}
use Rattle.html_rules.specs.Values.{is_word}
use Rattle.page_writer.specs.Page.{spell}
use Rattle.style_wash.specs.Characters.{trimmed}
use Rattle.style_wash.specs.Tables.{properties, property_of, units, is_unit}
use Rattle.style_wash.specs.Items.{is_number, is_rgb, is_name, is_plain, item_of}
use Rattle.style_wash.specs.Values.{parts, separator_of, steps_of, value_in, value_of}
use Rattle.style_wash.specs.Declarations.{value_after_colon, declaration_of, written, pieces, declarations, style_of, stylewash}
use Rattle.style_rules.specs.Blocks.{body_len, blocks_within, comment_len, comment_rest, first_block, spaced_after}
use Rattle.style_rules.specs.Selectors.{element_named, is_class, selector_of}
use Rattle.style_rules.specs.Rules.{entries_in, is_at_rule, rules, rules_of_block}
use Rattle.style_rules.specs.Cascade.{declared, entries_of, has_class, last_of_each}
use Rattle.wash_attributes.specs.FirstValues.{attribute_text}
use Rattle.wash_attributes.specs.Given.{Target, Given}
use Rattle.wash_attributes.specs.Values.{written_value}
use Rattle.wash_attributes.specs.Attributes.{kept_attribute, kept_attributes, with_declared, link_protection, washed_attributes}
use Rattle.html_wash.specs.Closings.{closing_rows, lookups_of, looked_up, closed_by, blocks, ended}
use Rattle.html_wash.specs.Styling.{settled, following_of, declared_for, counted}
use Rattle.html_wash.specs.Styling.Following.{Keeps}
use Rattle.html_wash.specs.Wash.{State, after_start, after_end, wash_token, wash_part, wash_from, wash}

-- each address is that of a remote text, and styles are washed
plain : Given
plain = record { refer = Target.Remote; stylewash = stylewash; images = false }

washed : List ℕ → List ℕ
washed text = spell (wash plain (tokens text))

-- ---- rules

-- rules act on the start tags after them: by name, then by class, then by both
by_rank : washed (codes "<style>P.x{color:red} .x{color:blue;margin:0} p{color:green} p b{color:red}</style><p class=\"y x\">t</p>") ≡ codes "<p style=\"margin: 0; color: red\">t</p>"
unfolding washed plain tokens normalize_newlines read step look_again look tokens_at_end reference spell wash wash_from wash_part wash_token after_start after_end settled following_of declared_for counted attribute_text chars closed_by looked_up lookups_of closing_rows ended blocks washed_attributes with_declared kept_attributes kept_attribute link_protection is_listed_attribute common_attributes attribute_rows kind_of value_kind_rows written_value is_word trimmed is_message_element message_elements is_dropped_element dropped_elements is_void message_void_elements frame_void_elements comment_len comment_rest spaced_after body_len first_block blocks_within element_named is_class selector_of is_at_rule entries_in rules_of_block rules has_class entries_of last_of_each declared stylewash declarations pieces declaration_of value_after_colon value_of value_in parts steps_of item_of is_plain is_number is_rgb is_name separator_of property_of properties is_unit units written style_of lib.Utf8.encode
by_rank = refl

-- a tag before the rules has nothing of them, and rules with other bodies or preludes give nothing
later_tags : washed (codes "<p>a</p><style>@media x{p{color:red}}p{color:url(x)}p{width:1px}</style><p>b</p>") ≡ codes "<p>a</p><p style=\"width: 1px\">b</p>"
unfolding washed plain tokens normalize_newlines read step look_again look tokens_at_end reference spell wash wash_from wash_part wash_token after_start after_end settled following_of declared_for counted attribute_text chars closed_by looked_up lookups_of closing_rows ended blocks washed_attributes with_declared kept_attributes kept_attribute link_protection is_listed_attribute common_attributes attribute_rows kind_of value_kind_rows written_value is_word trimmed is_message_element message_elements is_dropped_element dropped_elements is_void message_void_elements frame_void_elements comment_len comment_rest spaced_after body_len first_block blocks_within element_named is_class selector_of is_at_rule entries_in rules_of_block rules has_class entries_of last_of_each declared stylewash declarations pieces declaration_of value_after_colon value_of value_in parts steps_of item_of is_plain is_number is_rgb is_name separator_of property_of properties is_unit units written style_of lib.Utf8.encode
later_tags = refl

-- what rules declare precedes a tag's own style
own_style_last : washed (codes "<style>p{color:red}</style><p style=\"color: #333; margin: 0 0 10px\">Café</p>") ≡ codes "<p style=\"color: red; color: #333; margin: 0 0 10px\">Café</p>"
unfolding washed plain tokens normalize_newlines read step look_again look tokens_at_end reference spell wash wash_from wash_part wash_token after_start after_end settled following_of declared_for counted attribute_text chars closed_by looked_up lookups_of closing_rows ended blocks washed_attributes with_declared kept_attributes kept_attribute link_protection is_listed_attribute common_attributes attribute_rows kind_of value_kind_rows written_value is_word trimmed is_message_element message_elements is_dropped_element dropped_elements is_void message_void_elements frame_void_elements comment_len comment_rest spaced_after body_len first_block blocks_within element_named is_class selector_of is_at_rule entries_in rules_of_block rules has_class entries_of last_of_each declared stylewash declarations pieces declaration_of value_after_colon value_of value_in parts steps_of item_of is_plain is_number is_rgb is_name separator_of property_of properties is_unit units written style_of lib.Utf8.encode
own_style_last = refl

-- in the place of that
place_of_own : washed (codes "<style>p{margin:0}</style><p title=a style=color:red dir=ltr>b") ≡ codes "<p title=\"a\" style=\"margin: 0; color: red\" dir=\"ltr\">b</p>"
unfolding washed plain tokens normalize_newlines read step look_again look tokens_at_end reference spell wash wash_from wash_part wash_token after_start after_end settled following_of declared_for counted attribute_text chars closed_by looked_up lookups_of closing_rows ended blocks washed_attributes with_declared kept_attributes kept_attribute link_protection is_listed_attribute common_attributes attribute_rows kind_of value_kind_rows written_value is_word trimmed is_message_element message_elements is_dropped_element dropped_elements is_void message_void_elements frame_void_elements comment_len comment_rest spaced_after body_len first_block blocks_within element_named is_class selector_of is_at_rule entries_in rules_of_block rules has_class entries_of last_of_each declared stylewash declarations pieces declaration_of value_after_colon value_of value_in parts steps_of item_of is_plain is_number is_rgb is_name separator_of property_of properties is_unit units written style_of lib.Utf8.encode
place_of_own = refl

-- also if no declaration of that is left
place_of_dropped_own : washed (codes "<style>p{margin:0}</style><p title=a style=color:url(x) dir=ltr>b") ≡ codes "<p title=\"a\" style=\"margin: 0\" dir=\"ltr\">b</p>"
unfolding washed plain tokens normalize_newlines read step look_again look tokens_at_end reference spell wash wash_from wash_part wash_token after_start after_end settled following_of declared_for counted attribute_text chars closed_by looked_up lookups_of closing_rows ended blocks washed_attributes with_declared kept_attributes kept_attribute link_protection is_listed_attribute common_attributes attribute_rows kind_of value_kind_rows written_value is_word trimmed is_message_element message_elements is_dropped_element dropped_elements is_void message_void_elements frame_void_elements comment_len comment_rest spaced_after body_len first_block blocks_within element_named is_class selector_of is_at_rule entries_in rules_of_block rules has_class entries_of last_of_each declared stylewash declarations pieces declaration_of value_after_colon value_of value_in parts steps_of item_of is_plain is_number is_rgb is_name separator_of property_of properties is_unit units written style_of lib.Utf8.encode
place_of_dropped_own = refl

-- or else it follows the other attributes, and precedes a link's protection
after_attributes : washed (codes "<style>a{color:red}</style><a class=x href=\"http://e.example/\">b") ≡ codes "<a href=\"http://e.example/\" style=\"color: red\" rel=\"noopener noreferrer\" target=\"_blank\">b</a>"
unfolding washed plain tokens normalize_newlines read step look_again look tokens_at_end reference spell wash wash_from wash_part wash_token after_start after_end settled following_of declared_for counted attribute_text chars closed_by looked_up lookups_of closing_rows ended blocks washed_attributes with_declared kept_attributes kept_attribute link_protection is_listed_attribute common_attributes attribute_rows kind_of value_kind_rows written_value is_word trimmed is_message_element message_elements is_dropped_element dropped_elements is_void message_void_elements frame_void_elements comment_len comment_rest spaced_after body_len first_block blocks_within element_named is_class selector_of is_at_rule entries_in rules_of_block rules has_class entries_of last_of_each declared stylewash declarations pieces declaration_of value_after_colon value_of value_in parts steps_of item_of is_plain is_number is_rgb is_name separator_of property_of properties is_unit units written style_of lib.Utf8.encode
after_attributes = refl

-- void elements have it too
void_elements : washed (codes "<style>hr{color:red}</style><hr>") ≡ codes "<hr style=\"color: red\">"
unfolding washed plain tokens normalize_newlines read step look_again look tokens_at_end reference spell wash wash_from wash_part wash_token after_start after_end settled following_of declared_for counted attribute_text chars closed_by looked_up lookups_of closing_rows ended blocks washed_attributes with_declared kept_attributes kept_attribute link_protection is_listed_attribute common_attributes attribute_rows kind_of value_kind_rows written_value is_word trimmed is_message_element message_elements is_dropped_element dropped_elements is_void message_void_elements frame_void_elements comment_len comment_rest spaced_after body_len first_block blocks_within element_named is_class selector_of is_at_rule entries_in rules_of_block rules has_class entries_of last_of_each declared stylewash declarations pieces declaration_of value_after_colon value_of value_in parts steps_of item_of is_plain is_number is_rgb is_name separator_of property_of properties is_unit units written style_of lib.Utf8.encode
void_elements = refl

-- later style elements add rules
more_rules : washed (codes "<style>p{color:red;margin:0}</style><p>a</p><style>p{color:blue}</style><p>b") ≡ codes "<p style=\"color: red; margin: 0\">a</p><p style=\"margin: 0; color: blue\">b</p>"
unfolding washed plain tokens normalize_newlines read step look_again look tokens_at_end reference spell wash wash_from wash_part wash_token after_start after_end settled following_of declared_for counted attribute_text chars closed_by looked_up lookups_of closing_rows ended blocks washed_attributes with_declared kept_attributes kept_attribute link_protection is_listed_attribute common_attributes attribute_rows kind_of value_kind_rows written_value is_word trimmed is_message_element message_elements is_dropped_element dropped_elements is_void message_void_elements frame_void_elements comment_len comment_rest spaced_after body_len first_block blocks_within element_named is_class selector_of is_at_rule entries_in rules_of_block rules has_class entries_of last_of_each declared stylewash declarations pieces declaration_of value_after_colon value_of value_in parts steps_of item_of is_plain is_number is_rgb is_name separator_of property_of properties is_unit units written style_of lib.Utf8.encode
more_rules = refl

-- the first `class` of a tag counts
first_class : washed (codes "<style>.x{color:red}.y{color:blue}</style><p class=x class=y>a") ≡ codes "<p style=\"color: red\">a</p>"
unfolding washed plain tokens normalize_newlines read step look_again look tokens_at_end reference spell wash wash_from wash_part wash_token after_start after_end settled following_of declared_for counted attribute_text chars closed_by looked_up lookups_of closing_rows ended blocks washed_attributes with_declared kept_attributes kept_attribute link_protection is_listed_attribute common_attributes attribute_rows kind_of value_kind_rows written_value is_word trimmed is_message_element message_elements is_dropped_element dropped_elements is_void message_void_elements frame_void_elements comment_len comment_rest spaced_after body_len first_block blocks_within element_named is_class selector_of is_at_rule entries_in rules_of_block rules has_class entries_of last_of_each declared stylewash declarations pieces declaration_of value_after_colon value_of value_in parts steps_of item_of is_plain is_number is_rgb is_name separator_of property_of properties is_unit units written style_of lib.Utf8.encode
first_class = refl

-- references in it are decoded
class_reference : washed (codes "<style>.x{color:red}</style><p class='a&#9;&#120;'>a") ≡ codes "<p style=\"color: red\">a</p>"
unfolding washed plain tokens normalize_newlines read step look_again look tokens_at_end reference spell wash wash_from wash_part wash_token after_start after_end settled following_of declared_for counted attribute_text chars closed_by looked_up lookups_of closing_rows ended blocks washed_attributes with_declared kept_attributes kept_attribute link_protection is_listed_attribute common_attributes attribute_rows kind_of value_kind_rows written_value is_word trimmed is_message_element message_elements is_dropped_element dropped_elements is_void message_void_elements frame_void_elements comment_len comment_rest spaced_after body_len first_block blocks_within element_named is_class selector_of is_at_rule entries_in rules_of_block rules has_class entries_of last_of_each declared stylewash declarations pieces declaration_of value_after_colon value_of value_in parts steps_of item_of is_plain is_number is_rgb is_name separator_of property_of properties is_unit units written style_of lib.Utf8.encode
class_reference = refl

-- case counts in classes, and not in elements
case_of_classes : washed (codes "<style>.X{color:red}B{color:blue}</style><b class=x>a</b><B class=X>b") ≡ codes "<b style=\"color: blue\">a</b><b style=\"color: red\">b</b>"
unfolding washed plain tokens normalize_newlines read step look_again look tokens_at_end reference spell wash wash_from wash_part wash_token after_start after_end settled following_of declared_for counted attribute_text chars closed_by looked_up lookups_of closing_rows ended blocks washed_attributes with_declared kept_attributes kept_attribute link_protection is_listed_attribute common_attributes attribute_rows kind_of value_kind_rows written_value is_word trimmed is_message_element message_elements is_dropped_element dropped_elements is_void message_void_elements frame_void_elements comment_len comment_rest spaced_after body_len first_block blocks_within element_named is_class selector_of is_at_rule entries_in rules_of_block rules has_class entries_of last_of_each declared stylewash declarations pieces declaration_of value_after_colon value_of value_in parts steps_of item_of is_plain is_number is_rgb is_name separator_of property_of properties is_unit units written style_of lib.Utf8.encode
case_of_classes = refl

-- the rules of a style element count if it is for all media or for screens
screens : washed (codes "<style media=' Screen '>p{color:red}</style><style media=ALL>p{margin:0}</style><style media=''>p{width:1px}</style><p>a") ≡ codes "<p style=\"color: red; margin: 0; width: 1px\">a</p>"
unfolding washed plain tokens normalize_newlines read step look_again look tokens_at_end reference spell wash wash_from wash_part wash_token after_start after_end settled following_of declared_for counted attribute_text chars closed_by looked_up lookups_of closing_rows ended blocks washed_attributes with_declared kept_attributes kept_attribute link_protection is_listed_attribute common_attributes attribute_rows kind_of value_kind_rows written_value is_word trimmed is_message_element message_elements is_dropped_element dropped_elements is_void message_void_elements frame_void_elements comment_len comment_rest spaced_after body_len first_block blocks_within element_named is_class selector_of is_at_rule entries_in rules_of_block rules has_class entries_of last_of_each declared stylewash declarations pieces declaration_of value_after_colon value_of value_in parts steps_of item_of is_plain is_number is_rgb is_name separator_of property_of properties is_unit units written style_of lib.Utf8.encode
screens = refl

-- and not if it is for others
other_media : washed (codes "<style media=print>p{color:red}</style><style media='screen, print'>p{margin:0}</style><style media=x media=all>p{width:1px}</style><p>a") ≡ codes "<p>a</p>"
unfolding washed plain tokens normalize_newlines read step look_again look tokens_at_end reference spell wash wash_from wash_part wash_token after_start after_end settled following_of declared_for counted attribute_text chars closed_by looked_up lookups_of closing_rows ended blocks washed_attributes with_declared kept_attributes kept_attribute link_protection is_listed_attribute common_attributes attribute_rows kind_of value_kind_rows written_value is_word trimmed is_message_element message_elements is_dropped_element dropped_elements is_void message_void_elements frame_void_elements comment_len comment_rest spaced_after body_len first_block blocks_within element_named is_class selector_of is_at_rule entries_in rules_of_block rules has_class entries_of last_of_each declared stylewash declarations pieces declaration_of value_after_colon value_of value_in parts steps_of item_of is_plain is_number is_rgb is_name separator_of property_of properties is_unit units written style_of lib.Utf8.encode
other_media = refl

-- comments of a style element, also those that hide its text, are spaces
marks : washed (codes "<style><!-- p/*x*/{color:red} --></style><p>a") ≡ codes "<p style=\"color: red\">a</p>"
unfolding washed plain tokens normalize_newlines read step look_again look tokens_at_end reference spell wash wash_from wash_part wash_token after_start after_end settled following_of declared_for counted attribute_text chars closed_by looked_up lookups_of closing_rows ended blocks washed_attributes with_declared kept_attributes kept_attribute link_protection is_listed_attribute common_attributes attribute_rows kind_of value_kind_rows written_value is_word trimmed is_message_element message_elements is_dropped_element dropped_elements is_void message_void_elements frame_void_elements comment_len comment_rest spaced_after body_len first_block blocks_within element_named is_class selector_of is_at_rule entries_in rules_of_block rules has_class entries_of last_of_each declared stylewash declarations pieces declaration_of value_after_colon value_of value_in parts steps_of item_of is_plain is_number is_rgb is_name separator_of property_of properties is_unit units written style_of lib.Utf8.encode
marks = refl

-- the text of a style element has no tags and no references
raw_text : washed (codes "<style>p{color:red}<b>&lt;</style><p>a") ≡ codes "<p style=\"color: red\">a</p>"
unfolding washed plain tokens normalize_newlines read step look_again look tokens_at_end reference spell wash wash_from wash_part wash_token after_start after_end settled following_of declared_for counted attribute_text chars closed_by looked_up lookups_of closing_rows ended blocks washed_attributes with_declared kept_attributes kept_attribute link_protection is_listed_attribute common_attributes attribute_rows kind_of value_kind_rows written_value is_word trimmed is_message_element message_elements is_dropped_element dropped_elements is_void message_void_elements frame_void_elements comment_len comment_rest spaced_after body_len first_block blocks_within element_named is_class selector_of is_at_rule entries_in rules_of_block rules has_class entries_of last_of_each declared stylewash declarations pieces declaration_of value_after_colon value_of value_in parts steps_of item_of is_plain is_number is_rgb is_name separator_of property_of properties is_unit units written style_of lib.Utf8.encode
raw_text = refl

-- a block that isn't closed gives nothing
open_block : washed (codes "<style>p{color:red</style><p>a") ≡ codes "<p>a</p>"
unfolding washed plain tokens normalize_newlines read step look_again look tokens_at_end reference spell wash wash_from wash_part wash_token after_start after_end settled following_of declared_for counted attribute_text chars closed_by looked_up lookups_of closing_rows ended blocks washed_attributes with_declared kept_attributes kept_attribute link_protection is_listed_attribute common_attributes attribute_rows kind_of value_kind_rows written_value is_word trimmed is_message_element message_elements is_dropped_element dropped_elements is_void message_void_elements frame_void_elements comment_len comment_rest spaced_after body_len first_block blocks_within element_named is_class selector_of is_at_rule entries_in rules_of_block rules has_class entries_of last_of_each declared stylewash declarations pieces declaration_of value_after_colon value_of value_in parts steps_of item_of is_plain is_number is_rgb is_name separator_of property_of properties is_unit units written style_of lib.Utf8.encode
open_block = refl

-- nor does a style element without an end, which has no tag after it
no_end : washed (codes "a<style>p{color:red}<p>b") ≡ codes "a"
unfolding washed plain tokens normalize_newlines read step look_again look tokens_at_end reference spell wash wash_from wash_part wash_token after_start after_end settled following_of declared_for counted attribute_text chars closed_by looked_up lookups_of closing_rows ended blocks washed_attributes with_declared kept_attributes kept_attribute link_protection is_listed_attribute common_attributes attribute_rows kind_of value_kind_rows written_value is_word trimmed is_message_element message_elements is_dropped_element dropped_elements is_void message_void_elements frame_void_elements comment_len comment_rest spaced_after body_len first_block blocks_within element_named is_class selector_of is_at_rule entries_in rules_of_block rules has_class entries_of last_of_each declared stylewash declarations pieces declaration_of value_after_colon value_of value_in parts steps_of item_of is_plain is_number is_rgb is_name separator_of property_of properties is_unit units written style_of lib.Utf8.encode
no_end = refl

-- the text of other dropped elements is no style sheet
other_dropped : washed (codes "<title>p{color:red}</title><script>p{color:red}</script><p>a") ≡ codes "<p>a</p>"
unfolding washed plain tokens normalize_newlines read step look_again look tokens_at_end reference spell wash wash_from wash_part wash_token after_start after_end settled following_of declared_for counted attribute_text chars closed_by looked_up lookups_of closing_rows ended blocks washed_attributes with_declared kept_attributes kept_attribute link_protection is_listed_attribute common_attributes attribute_rows kind_of value_kind_rows written_value is_word trimmed is_message_element message_elements is_dropped_element dropped_elements is_void message_void_elements frame_void_elements comment_len comment_rest spaced_after body_len first_block blocks_within element_named is_class selector_of is_at_rule entries_in rules_of_block rules has_class entries_of last_of_each declared stylewash declarations pieces declaration_of value_after_colon value_of value_in parts steps_of item_of is_plain is_number is_rgb is_name separator_of property_of properties is_unit units written style_of lib.Utf8.encode
other_dropped = refl

-- rules may come anywhere, and close nothing
nowhere_else : washed (codes "<div>a<style>p{color:red}</style>b<p>c") ≡ codes "<div>ab<p style=\"color: red\">c</p></div>"
unfolding washed plain tokens normalize_newlines read step look_again look tokens_at_end reference spell wash wash_from wash_part wash_token after_start after_end settled following_of declared_for counted attribute_text chars closed_by looked_up lookups_of closing_rows ended blocks washed_attributes with_declared kept_attributes kept_attribute link_protection is_listed_attribute common_attributes attribute_rows kind_of value_kind_rows written_value is_word trimmed is_message_element message_elements is_dropped_element dropped_elements is_void message_void_elements frame_void_elements comment_len comment_rest spaced_after body_len first_block blocks_within element_named is_class selector_of is_at_rule entries_in rules_of_block rules has_class entries_of last_of_each declared stylewash declarations pieces declaration_of value_after_colon value_of value_in parts steps_of item_of is_plain is_number is_rgb is_name separator_of property_of properties is_unit units written style_of lib.Utf8.encode
nowhere_else = refl

-- elements that aren't listed have no rules, and selectors of other kinds give none
unlisted_selectors : washed (codes "<style>body,*,p:x,.a.b,#c,p>b{color:red}svg{color:red}</style><body><svg><p id=c class='a b'><b>a") ≡ codes "<p><b>a</b></p>"
unfolding washed plain tokens normalize_newlines read step look_again look tokens_at_end reference spell wash wash_from wash_part wash_token after_start after_end settled following_of declared_for counted attribute_text chars closed_by looked_up lookups_of closing_rows ended blocks washed_attributes with_declared kept_attributes kept_attribute link_protection is_listed_attribute common_attributes attribute_rows kind_of value_kind_rows written_value is_word trimmed is_message_element message_elements is_dropped_element dropped_elements is_void message_void_elements frame_void_elements comment_len comment_rest spaced_after body_len first_block blocks_within element_named is_class selector_of is_at_rule entries_in rules_of_block rules has_class entries_of last_of_each declared stylewash declarations pieces declaration_of value_after_colon value_of value_in parts steps_of item_of is_plain is_number is_rgb is_name separator_of property_of properties is_unit units written style_of lib.Utf8.encode
unlisted_selectors = refl

-- ---- limits

-- a washer with a rule for `b`, for which as many tags took it
with_count : ℕ → State
with_count n = record { opened = []; styling = record { rules = rules (codes "b{color:red}"); count = n; following = Keeps } }

washed_from : ℕ → List ℕ → List ℕ
washed_from n text = spell (wash_from plain (with_count n) (tokens text))

-- rules declare something for 20,000 start tags; tags for which they declare nothing don't count
taken_limit : washed_from 19999 (codes "<i>a</i><b>b</b><b>c") ≡ codes "<i>a</i><b style=\"color: red\">b</b><b>c</b>"
unfolding plain tokens normalize_newlines read step look_again look tokens_at_end reference spell wash wash_from wash_part wash_token after_start after_end settled following_of declared_for counted attribute_text chars closed_by looked_up lookups_of closing_rows ended blocks washed_attributes with_declared kept_attributes kept_attribute link_protection is_listed_attribute common_attributes attribute_rows kind_of value_kind_rows written_value is_word trimmed is_message_element message_elements is_dropped_element dropped_elements is_void message_void_elements frame_void_elements comment_len comment_rest spaced_after body_len first_block blocks_within element_named is_class selector_of is_at_rule entries_in rules_of_block rules has_class entries_of last_of_each declared stylewash declarations pieces declaration_of value_after_colon value_of value_in parts steps_of item_of is_plain is_number is_rgb is_name separator_of property_of properties is_unit units written style_of lib.Utf8.encode washed_from with_count
taken_limit = refl

repeat : ℕ → List ℕ → List ℕ
repeat zero letters = []
repeat (suc n) letters = letters ++ repeat n letters

-- a tag that isn't written since too many are open counts too
taken_below_limit : washed_from 19872 (repeat 129 (codes "<b>") ++ repeat 128 (codes "</b>") ++ codes "<b>a") ≡ repeat 128 (codes "<b style=\"color: red\">") ++ repeat 128 (codes "</b>") ++ codes "<b>a</b>"
unfolding plain tokens normalize_newlines read step look_again look tokens_at_end reference spell wash wash_from wash_part wash_token after_start after_end settled following_of declared_for counted attribute_text chars closed_by looked_up lookups_of closing_rows ended blocks washed_attributes with_declared kept_attributes kept_attribute link_protection is_listed_attribute common_attributes attribute_rows kind_of value_kind_rows written_value is_word trimmed is_message_element message_elements is_dropped_element dropped_elements is_void message_void_elements frame_void_elements comment_len comment_rest spaced_after body_len first_block blocks_within element_named is_class selector_of is_at_rule entries_in rules_of_block rules has_class entries_of last_of_each declared stylewash declarations pieces declaration_of value_after_colon value_of value_in parts steps_of item_of is_plain is_number is_rgb is_name separator_of property_of properties is_unit units written style_of lib.Utf8.encode repeat washed_from with_count
taken_below_limit = refl
