-- Words for functions that write a page by many calls.
use Rattle.std.specs.Str.{chars}
use Rattle.html_rules.specs.Tables.{message_elements, frame_elements, message_void_elements, frame_void_elements, text_only_elements, is_element, is_void, is_text_only, common_attributes, attribute_rows, link_attributes, frame_attributes, is_attribute_name}

-- A function that writes elements and attributes by literal names has the line
--     #[tactic(auto, unfolding(page_writer::specs::Writing::literals))]
-- and its goals then compute these names. The functions that it calls take `MayStart` for names that they are passed. Up to
-- about a dozen calls it needs no proof file. For more, one answer rewrites by the calls' equations, from the last to the first:
--     unfolding literals
--     returns c = c.finish.ensures.reads ∙ rw (c.in_ok-end-2.ensures.ok, .., c.in_ok-doctype.ensures.ok, c.new-out.ensures.written) (simp append_assoc)
unfoldable pub literals : Unit {0}
unfolding chars message_elements frame_elements message_void_elements frame_void_elements text_only_elements is_element is_void is_text_only common_attributes attribute_rows link_attributes frame_attributes is_attribute_name
literals = tt
