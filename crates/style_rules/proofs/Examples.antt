-- Worked examples of the definitions.
use Rattle.std.proofs.Common.{◌≡◌, ℕ, List, [], ◌∷◌, map, replicate, None, Some, refl}
use Rattle.std.specs.Prelude.{codes}
use Rattle.html_rules.specs.Tables.{Name, message_elements}
use Rattle.style_wash.specs.Characters.{trimmed}
use Rattle.style_wash.specs.Tables.{properties, property_of, units, is_unit}
use Rattle.style_wash.specs.Items.{is_number, is_rgb, is_name, is_plain, item_of}
use Rattle.style_wash.specs.Values.{parts, separator_of, steps_of, value_in, value_of}
use Rattle.style_wash.specs.Declarations.{value_after_colon, declaration_of, written, pieces, declarations, style_of, stylewash}
use Rattle.style_rules.specs.Blocks.{body_len, blocks_within, comment_len, comment_rest, first_block, spaced, spaced_after}
use Rattle.style_rules.specs.Selectors.{element_named, is_class, selector_of}
use Rattle.style_rules.specs.Selectors.Selector.{ByName, ByClass, ByBoth}
use Rattle.style_rules.specs.Rules.{entries_in, is_at_rule, rules, rules_of_block}
use Rattle.style_rules.specs.Cascade.{declared, entries_of, has_class, last_of_each}

-- ---- comments

comment : spaced (codes "a/*b*/c") ≡ codes "a c"
unfolding spaced_after comment_len comment_rest
comment = refl

open_comment : spaced (codes "a/*b") ≡ codes "a "
unfolding spaced_after comment_len comment_rest
open_comment = refl

marks : spaced (codes "<!--a-->/**/-- >") ≡ codes " a  -- >"
unfolding spaced_after comment_len comment_rest
marks = refl

-- ---- selectors

selectors : map selector_of (codes "P" ∷ codes " .x-1_ " ∷ codes "h1.X" ∷ []) ≡ Some (ByName (codes "p")) ∷ Some (ByClass (codes "x-1_")) ∷ Some (ByBoth (codes "h1") (codes "X")) ∷ []
unfolding selector_of element_named message_elements is_class trimmed
selectors = refl

no_selectors : map selector_of (codes "" ∷ codes "." ∷ codes "p." ∷ codes "p .x" ∷ codes "*" ∷ codes ".x.y" ∷ codes "p:x" ∷ codes "body" ∷ codes ".a!" ∷ []) ≡ replicate 9 None
unfolding selector_of element_named message_elements is_class trimmed
no_selectors = refl

class_of_64 : selector_of (46 ∷ replicate 64 97) ≡ Some (ByClass (replicate 64 97))
unfolding selector_of element_named message_elements is_class trimmed
class_of_64 = refl

class_of_65 : selector_of (46 ∷ replicate 65 97) ≡ None
unfolding selector_of element_named message_elements is_class trimmed
class_of_65 = refl

-- ---- what rules declare: a style sheet, an element and its classes

declares : List ℕ → Name → List ℕ → List ℕ
declares sheet name classes = declared (rules sheet) name classes

-- by name, then by class, then by both: of each property the last declaration stays, at its own place
by_rank : declares (codes "P.x{color:red} .x{color:blue;margin:0} p{color:green} p b{color:red}") (codes "p") (codes "y x") ≡ codes "margin: 0; color: red"
unfolding declares comment_len comment_rest spaced_after body_len first_block blocks_within element_named message_elements is_class selector_of is_at_rule entries_in rules_of_block rules has_class entries_of last_of_each declared stylewash declarations pieces declaration_of value_after_colon value_of value_in parts steps_of item_of is_plain is_number is_rgb is_name separator_of trimmed property_of properties is_unit units written style_of
by_rank = refl

-- rules of one rank come in their order
own_order : declares (codes "p{color:red;margin:0}p{color:blue}") (codes "p") (codes "") ≡ codes "margin: 0; color: blue"
unfolding declares comment_len comment_rest spaced_after body_len first_block blocks_within element_named message_elements is_class selector_of is_at_rule entries_in rules_of_block rules has_class entries_of last_of_each declared stylewash declarations pieces declaration_of value_after_colon value_of value_in parts steps_of item_of is_plain is_number is_rgb is_name separator_of trimmed property_of properties is_unit units written style_of
own_order = refl

-- an at-rule with a block inside, a value that loads, and a rule after them
at_rules : declares (codes "@media x{p{color:red}}p{color:url(x)}p{width:1px}") (codes "p") (codes "") ≡ codes "width: 1px"
unfolding declares comment_len comment_rest spaced_after body_len first_block blocks_within element_named message_elements is_class selector_of is_at_rule entries_in rules_of_block rules has_class entries_of last_of_each declared stylewash declarations pieces declaration_of value_after_colon value_of value_in parts steps_of item_of is_plain is_number is_rgb is_name separator_of trimmed property_of properties is_unit units written style_of
at_rules = refl

-- a block of an at-rule gives nothing, even without braces inside
at_block : declares (codes "@page{color:red} @font-face {color:red}") (codes "p") (codes "") ≡ []
unfolding declares comment_len comment_rest spaced_after body_len first_block blocks_within element_named message_elements is_class selector_of is_at_rule entries_in rules_of_block rules has_class entries_of last_of_each declared stylewash declarations pieces declaration_of value_after_colon value_of value_in parts steps_of item_of is_plain is_number is_rgb is_name separator_of trimmed property_of properties is_unit units written style_of
at_block = refl

-- of a prelude only what follows the last `;` counts
after_import : declares (codes "@import 'x';p{color:red}") (codes "p") (codes "") ≡ codes "color: red"
unfolding declares comment_len comment_rest spaced_after body_len first_block blocks_within element_named message_elements is_class selector_of is_at_rule entries_in rules_of_block rules has_class entries_of last_of_each declared stylewash declarations pieces declaration_of value_after_colon value_of value_in parts steps_of item_of is_plain is_number is_rgb is_name separator_of trimmed property_of properties is_unit units written style_of
after_import = refl

-- a block whose selectors begin with `@` after the last `;`
before_at : declares (codes "p;@x p{color:red}") (codes "p") (codes "") ≡ []
unfolding declares comment_len comment_rest spaced_after body_len first_block blocks_within element_named message_elements is_class selector_of is_at_rule entries_in rules_of_block rules has_class entries_of last_of_each declared stylewash declarations pieces declaration_of value_after_colon value_of value_in parts steps_of item_of is_plain is_number is_rgb is_name separator_of trimmed property_of properties is_unit units written style_of
before_at = refl

-- comments are spaces: they split words, and hide braces
comments : declares (codes "p/*}*/{col/**/or:red;width:1px/*") (codes "p") (codes "") ≡ []
unfolding declares comment_len comment_rest spaced_after body_len first_block blocks_within element_named message_elements is_class selector_of is_at_rule entries_in rules_of_block rules has_class entries_of last_of_each declared stylewash declarations pieces declaration_of value_after_colon value_of value_in parts steps_of item_of is_plain is_number is_rgb is_name separator_of trimmed property_of properties is_unit units written style_of
comments = refl

-- a comment inside a body
comment_in_body : declares (codes "p{color:/* } */red;/* margin:0; */width:1px}") (codes "p") (codes "") ≡ codes "color: red; width: 1px"
unfolding declares comment_len comment_rest spaced_after body_len first_block blocks_within element_named message_elements is_class selector_of is_at_rule entries_in rules_of_block rules has_class entries_of last_of_each declared stylewash declarations pieces declaration_of value_after_colon value_of value_in parts steps_of item_of is_plain is_number is_rgb is_name separator_of trimmed property_of properties is_unit units written style_of
comment_in_body = refl

-- the marks of an HTML comment are spaces
html_comments : declares (codes "<!-- p{color:red} -->") (codes "p") (codes "") ≡ codes "color: red"
unfolding declares comment_len comment_rest spaced_after body_len first_block blocks_within element_named message_elements is_class selector_of is_at_rule entries_in rules_of_block rules has_class entries_of last_of_each declared stylewash declarations pieces declaration_of value_after_colon value_of value_in parts steps_of item_of is_plain is_number is_rgb is_name separator_of trimmed property_of properties is_unit units written style_of
html_comments = refl

-- `/*/` begins a comment that it doesn't end
slash_star_slash : declares (codes "/*/p{color:red}/*/p{color:blue}") (codes "p") (codes "") ≡ codes "color: blue"
unfolding declares comment_len comment_rest spaced_after body_len first_block blocks_within element_named message_elements is_class selector_of is_at_rule entries_in rules_of_block rules has_class entries_of last_of_each declared stylewash declarations pieces declaration_of value_after_colon value_of value_in parts steps_of item_of is_plain is_number is_rgb is_name separator_of trimmed property_of properties is_unit units written style_of
slash_star_slash = refl

-- quotes aren't looked at: a brace inside them counts
quotes : declares (codes "p{font:'}';color:red}b{color:red}") (codes "b") (codes "") ≡ []
unfolding declares comment_len comment_rest spaced_after body_len first_block blocks_within element_named message_elements is_class selector_of is_at_rule entries_in rules_of_block rules has_class entries_of last_of_each declared stylewash declarations pieces declaration_of value_after_colon value_of value_in parts steps_of item_of is_plain is_number is_rgb is_name separator_of trimmed property_of properties is_unit units written style_of
quotes = refl

-- what follows the last whole block gives nothing
unclosed : declares (codes "p{color:red}p{color:blue") (codes "p") (codes "") ≡ codes "color: red"
unfolding declares comment_len comment_rest spaced_after body_len first_block blocks_within element_named message_elements is_class selector_of is_at_rule entries_in rules_of_block rules has_class entries_of last_of_each declared stylewash declarations pieces declaration_of value_after_colon value_of value_in parts steps_of item_of is_plain is_number is_rgb is_name separator_of trimmed property_of properties is_unit units written style_of
unclosed = refl

-- a brace that closes nothing is a part of the next prelude
stray_brace : declares (codes "}p{color:red}p{width:1px}") (codes "p") (codes "") ≡ codes "width: 1px"
unfolding declares comment_len comment_rest spaced_after body_len first_block blocks_within element_named message_elements is_class selector_of is_at_rule entries_in rules_of_block rules has_class entries_of last_of_each declared stylewash declarations pieces declaration_of value_after_colon value_of value_in parts steps_of item_of is_plain is_number is_rgb is_name separator_of trimmed property_of properties is_unit units written style_of
stray_brace = refl

-- selectors between commas; white space around them goes
several_selectors : declares (codes "b , P,.x,, i{color:red}") (codes "p") (codes "") ≡ codes "color: red"
unfolding declares comment_len comment_rest spaced_after body_len first_block blocks_within element_named message_elements is_class selector_of is_at_rule entries_in rules_of_block rules has_class entries_of last_of_each declared stylewash declarations pieces declaration_of value_after_colon value_of value_in parts steps_of item_of is_plain is_number is_rgb is_name separator_of trimmed property_of properties is_unit units written style_of
several_selectors = refl

-- an empty selector and other selectors give nothing
empty_selectors : declares (codes ",*{color:red}p>b{color:red}p:hover{color:red}#a{color:red}p.x.y{color:red}[a]{color:red}.x .p{color:red}") (codes "p") (codes "x y") ≡ []
unfolding declares comment_len comment_rest spaced_after body_len first_block blocks_within element_named message_elements is_class selector_of is_at_rule entries_in rules_of_block rules has_class entries_of last_of_each declared stylewash declarations pieces declaration_of value_after_colon value_of value_in parts steps_of item_of is_plain is_number is_rgb is_name separator_of trimmed property_of properties is_unit units written style_of
empty_selectors = refl

-- a class is the same in its letters' case only
class_case : declares (codes ".X{color:red}.x{width:1px}") (codes "b") (codes "x") ≡ codes "width: 1px"
unfolding declares comment_len comment_rest spaced_after body_len first_block blocks_within element_named message_elements is_class selector_of is_at_rule entries_in rules_of_block rules has_class entries_of last_of_each declared stylewash declarations pieces declaration_of value_after_colon value_of value_in parts steps_of item_of is_plain is_number is_rgb is_name separator_of trimmed property_of properties is_unit units written style_of
class_case = refl

-- the words of a `class`
classes : declares (codes ".a{color:red}.c{width:1px}.d{height:1px}") (codes "b") (codes " c\t\nab  a ") ≡ codes "color: red; width: 1px"
unfolding declares comment_len comment_rest spaced_after body_len first_block blocks_within element_named message_elements is_class selector_of is_at_rule entries_in rules_of_block rules has_class entries_of last_of_each declared stylewash declarations pieces declaration_of value_after_colon value_of value_in parts steps_of item_of is_plain is_number is_rgb is_name separator_of trimmed property_of properties is_unit units written style_of
classes = refl

-- an element that a message can't have
unknown_element : declares (codes "script{color:red}body{color:red}q{color:red}") (codes "q") (codes "") ≡ codes "color: red"
unfolding declares comment_len comment_rest spaced_after body_len first_block blocks_within element_named message_elements is_class selector_of is_at_rule entries_in rules_of_block rules has_class entries_of last_of_each declared stylewash declarations pieces declaration_of value_after_colon value_of value_in parts steps_of item_of is_plain is_number is_rgb is_name separator_of trimmed property_of properties is_unit units written style_of
unknown_element = refl

-- a rule for another element, and one by both for another element
other_element : declares (codes "b{color:red}b.x{color:red}.x{width:1px}") (codes "p") (codes "x") ≡ codes "width: 1px"
unfolding declares comment_len comment_rest spaced_after body_len first_block blocks_within element_named message_elements is_class selector_of is_at_rule entries_in rules_of_block rules has_class entries_of last_of_each declared stylewash declarations pieces declaration_of value_after_colon value_of value_in parts steps_of item_of is_plain is_number is_rgb is_name separator_of trimmed property_of properties is_unit units written style_of
other_element = refl

-- `!important` doesn't change the order
important : declares (codes "p{color:red !important}p{color:blue}") (codes "p") (codes "") ≡ codes "color: blue"
unfolding declares comment_len comment_rest spaced_after body_len first_block blocks_within element_named message_elements is_class selector_of is_at_rule entries_in rules_of_block rules has_class entries_of last_of_each declared stylewash declarations pieces declaration_of value_after_colon value_of value_in parts steps_of item_of is_plain is_number is_rgb is_name separator_of trimmed property_of properties is_unit units written style_of
important = refl

-- properties are lowered before they are compared
upper_property : declares (codes "p{COLOR:red}p{color:blue}") (codes "p") (codes "") ≡ codes "color: blue"
unfolding declares comment_len comment_rest spaced_after body_len first_block blocks_within element_named message_elements is_class selector_of is_at_rule entries_in rules_of_block rules has_class entries_of last_of_each declared stylewash declarations pieces declaration_of value_after_colon value_of value_in parts steps_of item_of is_plain is_number is_rgb is_name separator_of trimmed property_of properties is_unit units written style_of
upper_property = refl

-- a block without a declaration gives no rule
nothing_left : declares (codes "p{position:fixed}p{}") (codes "p") (codes "") ≡ []
unfolding declares comment_len comment_rest spaced_after body_len first_block blocks_within element_named message_elements is_class selector_of is_at_rule entries_in rules_of_block rules has_class entries_of last_of_each declared stylewash declarations pieces declaration_of value_after_colon value_of value_in parts steps_of item_of is_plain is_number is_rgb is_name separator_of trimmed property_of properties is_unit units written style_of
nothing_left = refl
