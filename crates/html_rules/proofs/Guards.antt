-- What the tables and tests must refuse, computed: a weaker table or test fails here.
use Rattle.std.proofs.Common.{◌≡◌, ℕ, Bool, true, false, List, [], ◌∷◌, ◌++◌, length, map, codes, refl, None}
use Rattle.std.specs.List.{list_any, flat_map}
use Rattle.html_syntax.specs.References.{begins_with}
use Rattle.html_syntax.specs.Token.{Attribute, Token}
use Rattle.html_syntax.specs.Token.Token.{Start, End, Char, Comment, Doctype}
use Rattle.html_syntax.specs.Tokenizer.{is_among}
use Rattle.style_wash.specs.Characters.{trimmed}
use Rattle.style_wash.specs.Tables.{properties, property_of, units, is_unit}
use Rattle.style_wash.specs.Items.{is_number, is_rgb, is_name, is_plain, item_of}
use Rattle.style_wash.specs.Values.{parts, separator_of, steps_of, value_in, value_of}
use Rattle.style_wash.specs.Declarations.{value_after_colon, declaration_of, written, pieces, declarations, style_of, stylewash, is_style}
use Rattle.html_rules.specs.declared.ValueKind.TheVariants.{Style}
use Rattle.html_rules.specs.Tables.{Name, words, message_elements, frame_elements, message_void_elements, frame_void_elements, text_only_elements, dropped_elements, common_attributes, attribute_rows, link_attributes, frame_attributes, is_message_element, is_element, is_void, is_listed_attribute, is_frame_attribute_name, value_kind_rows, kind_of}
use Rattle.html_rules.specs.Values.{is_remote, is_link, is_source, is_value_of, is_value_of_attribute}
use Rattle.html_rules.specs.Tokens.{start_tag, start_tag_with}
use Rattle.html_rules.specs.MessageTokens.{is_message_token}
use Rattle.html_rules.specs.FrameTokens.{is_frame_token, opens_mail, is_local_address}
use Rattle.html_rules.specs.Nesting.{open_elements_after}
use Rattle.html_rules.specs.Allowed.{loads}

-- ---- names

-- every attribute that is listed anywhere
all_attributes : List Name
all_attributes = common_attributes ++ flat_map (λ r. r.attributes) attribute_rows ++ link_attributes ++ frame_attributes

-- no attribute is an event handler
no_handlers : list_any (begins_with (codes "on")) all_attributes ≡ false
unfolding all_attributes common_attributes attribute_rows link_attributes frame_attributes
no_handlers = refl

-- nor one that loads, submits, runs or refreshes beside those that are listed for it
no_active_attributes : list_any (is_among all_attributes) (words (codes "srcset srcdoc formaction background ping poster data codebase archive manifest longdesc usemap http-equiv content id for form autofocus contenteditable xlink:href")) ≡ false
unfolding all_attributes common_attributes attribute_rows link_attributes frame_attributes
no_active_attributes = refl

-- no element of a message runs, loads, embeds, submits or switches to another language
no_active_elements : list_any is_message_element (words (codes "script style svg math iframe object embed form input base meta link applet audio video source track frame frameset noscript template button textarea select option html head body title portal picture area map canvas dialog")) ≡ false
unfolding is_message_element message_elements
no_active_elements = refl

-- nor does a frame's, beside its own form and its link to the style sheet
no_active_frame_elements : list_any is_element (words (codes "base object iframe script style svg math embed applet audio video source frame frameset noscript template plaintext xmp")) ≡ false
unfolding is_element message_elements frame_elements
no_active_frame_elements = refl

-- ---- how many

element_counts : map length (message_elements ∷ frame_elements ∷ message_void_elements ∷ frame_void_elements ∷ text_only_elements ∷ dropped_elements ∷ []) ≡ 58 ∷ 10 ∷ 5 ∷ 3 ∷ 2 ∷ 6 ∷ []
unfolding message_elements frame_elements message_void_elements frame_void_elements text_only_elements dropped_elements
element_counts = refl

attribute_counts : map length (common_attributes ∷ link_attributes ∷ frame_attributes ∷ all_attributes ∷ []) ≡ 4 ∷ 2 ∷ 12 ∷ 66 ∷ []
unfolding all_attributes common_attributes attribute_rows link_attributes frame_attributes
attribute_counts = refl

if_listed : Bool → List Name → List Name
if_listed true attributes = attributes
if_listed false attributes = []

-- the number of attributes that the rows list for an element
count_listed : Name → ℕ
count_listed element = length (flat_map (λ r. if_listed (is_among r.elements element) r.attributes) attribute_rows)

-- how many attributes each element of a message has beside the common ones, in the order of the table
attributes_of_each : map count_listed message_elements ≡ 1 ∷ 0 ∷ 0 ∷ 0 ∷ 0 ∷ 0 ∷ 0 ∷ 1 ∷ 1 ∷ 0 ∷ 0 ∷ 0 ∷ 4 ∷ 4 ∷ 0 ∷ 0 ∷ 0 ∷ 1 ∷ 0 ∷ 0 ∷ 0 ∷ 3 ∷ 1 ∷ 1 ∷ 1 ∷ 1 ∷ 1 ∷ 1 ∷ 5 ∷ 0 ∷ 8 ∷ 0 ∷ 0 ∷ 2 ∷ 2 ∷ 1 ∷ 0 ∷ 0 ∷ 0 ∷ 0 ∷ 0 ∷ 0 ∷ 0 ∷ 0 ∷ 0 ∷ 0 ∷ 7 ∷ 2 ∷ 8 ∷ 2 ∷ 8 ∷ 2 ∷ 3 ∷ 0 ∷ 0 ∷ 1 ∷ 0 ∷ 0 ∷ []
unfolding count_listed if_listed message_elements attribute_rows
attributes_of_each = refl

-- how many attributes have values of each kind: numbers, words, flags, texts, links, sources, styles
attributes_of_kinds : map (λ r. length r.attributes) value_kind_rows ≡ 13 ∷ 8 ∷ 2 ∷ 3 ∷ 1 ∷ 1 ∷ 1 ∷ []
unfolding value_kind_rows
attributes_of_kinds = refl

-- ---- addresses

-- text after a prefix
https : List ℕ → List ℕ
https rest = codes "https://e.example/" ++ rest

-- no link has a control or a space in it: TAB, LF, CR, U+0000, U+001F, a space, U+007F, U+0080, U+009F
no_controls : list_any is_link (map https ((9 ∷ []) ∷ (10 ∷ []) ∷ (13 ∷ []) ∷ (0 ∷ []) ∷ (31 ∷ []) ∷ (32 ∷ []) ∷ (127 ∷ []) ∷ (128 ∷ []) ∷ (159 ∷ []) ∷ [])) ≡ false
unfolding is_link is_remote https
no_controls = refl

no_controls_in_mail_addresses : list_any is_link (map (λ (c : ℕ). codes "mailto:a@e.example" ++ c ∷ []) (9 ∷ 10 ∷ 13 ∷ 0 ∷ 31 ∷ 32 ∷ 127 ∷ 128 ∷ 159 ∷ [])) ≡ false
unfolding is_link is_remote
no_controls_in_mail_addresses = refl

no_data : is_link (codes "data:text/html,<script>alert(1)</script>") ≡ false
unfolding is_link is_remote
no_data = refl

no_javascript : is_link (codes "javascript:alert(1)") ≡ false
unfolding is_link is_remote
no_javascript = refl

no_upper_javascript : is_link (codes "JavaScript:alert(1)") ≡ false
unfolding is_link is_remote
no_upper_javascript = refl

no_vbscript : is_link (codes "vbscript:msgbox(1)") ≡ false
unfolding is_link is_remote
no_vbscript = refl

no_file : is_link (codes "file:///etc/passwd") ≡ false
unfolding is_link is_remote
no_file = refl

no_host_alone : is_link (codes "//e.example/") ≡ false
unfolding is_link is_remote
no_host_alone = refl

no_path_alone : is_link (codes "/logout") ≡ false
unfolding is_link is_remote
no_path_alone = refl

-- a link of mail is no picture, and a picture of the web is loaded only if pictures were asked for
no_mail_pictures : is_source true (λ _. false) (codes "mailto:a@e.example") ≡ false
unfolding is_source is_remote
no_mail_pictures = refl

no_unasked_pictures : is_source false (λ _. false) (codes "https://e.example/o") ≡ false
unfolding is_source is_remote
no_unasked_pictures = refl

-- ---- addresses on the site

no_other_host : is_local_address (codes "//e.example/") ≡ false
no_other_host = refl

no_other_host_by_backslash : is_local_address (codes "/\\e.example/") ≡ false
no_other_host_by_backslash = refl

-- a browser drops TAB, LF and CR, so what follows them may be the second `/`
no_dropped_characters : map (λ (c : ℕ). is_local_address (47 ∷ c ∷ codes "/e.example/")) (9 ∷ 10 ∷ 13 ∷ []) ≡ false ∷ false ∷ false ∷ []
no_dropped_characters = refl

no_scheme : is_local_address (codes "javascript:alert(1)") ≡ false
no_scheme = refl

no_relative_address : is_local_address (codes "part/0/0/1") ≡ false
no_relative_address = refl

-- ---- styles

-- A style is declarations in their written form. It is not empty, loads nothing, calls nothing, has no escape, no comment and no at-rule, and
-- is written in one way.
no_other_styles : list_any (is_value_of true (λ _. true) Style) (codes "" ∷ codes "background: url(x)" ∷ codes "width: expression(1)" ∷ codes "position: fixed" ∷ codes "color: \\72 ed" ∷ codes "color: red /**/" ∷ codes "@import x" ∷ codes "color:red" ∷ codes "COLOR: red" ∷ codes "color: red;" ∷ codes "color: red; " ∷ codes "color: red !important" ∷ codes "color: red; behavior: x" ∷ codes "-moz-binding: x" ∷ codes "x" ∷ []) ≡ false
unfolding is_value_of is_style stylewash declarations pieces declaration_of value_after_colon value_of value_in parts steps_of item_of is_plain is_number is_rgb is_name separator_of trimmed property_of properties is_unit units written style_of
no_other_styles = refl

styles : map (is_value_of false (λ _. false) Style) (codes "color: red" ∷ codes "color: red; font-family: 'A B'" ∷ []) ≡ true ∷ true ∷ []
unfolding is_value_of is_style stylewash declarations pieces declaration_of value_after_colon value_of value_in parts steps_of item_of is_plain is_number is_rgb is_name separator_of trimmed property_of properties is_unit units written style_of
styles = refl

-- ---- the one place of a message

-- every spelling of the class counts
mail_classes : map (λ value. opens_mail (start_tag_with (codes "div") (codes "class") value)) (codes "mail" ∷ codes "mail x" ∷ codes "x mail" ∷ codes "x mail y" ∷ codes "mails" ∷ codes "x" ∷ []) ≡ true ∷ true ∷ true ∷ true ∷ false ∷ false ∷ []
unfolding opens_mail
mail_classes = refl

-- ---- tokens

-- of a message: a comment, a document type, U+0000, an element of the frame, the end tag of a void element, an unlisted attribute
no_message_tokens : list_any (is_message_token true (λ _. true)) (Comment [] ∷ Doctype ∷ Char 0 ∷ start_tag (codes "form") ∷ End (codes "img") ∷ start_tag_with (codes "p") (codes "class") (codes "mail") ∷ start_tag_with (codes "p") (codes "id") (codes "x") ∷ []) ≡ false
unfolding is_message_token is_message_element message_elements is_void message_void_elements frame_void_elements is_listed_attribute common_attributes attribute_rows kind_of value_kind_rows is_value_of_attribute is_value_of
no_message_tokens = refl

-- a link without one of its protections, or with another window
link_with : List Attribute → Token
link_with more = Start (codes "a") (record { name = codes "href"; value = codes "https://e.example/" } ∷ more)

rel : List ℕ → Attribute
rel value = record { name = codes "rel"; value = value }

target : List ℕ → Attribute
target value = record { name = codes "target"; value = value }

no_unprotected_links : list_any (is_message_token true (λ _. true)) (link_with [] ∷ link_with (rel (codes "noopener noreferrer") ∷ []) ∷ link_with (target (codes "_blank") ∷ []) ∷ link_with (rel (codes "opener") ∷ target (codes "_blank") ∷ []) ∷ link_with (rel (codes "noopener noreferrer") ∷ target (codes "_top") ∷ []) ∷ []) ≡ false
unfolding link_with rel target is_message_token is_message_element message_elements is_listed_attribute common_attributes attribute_rows kind_of value_kind_rows is_value_of_attribute is_value_of is_link is_remote
no_unprotected_links = refl

-- of a frame: a comment, a picture, another style sheet, a form that sends elsewhere
no_frame_tokens : list_any is_frame_token (Comment [] ∷ start_tag_with (codes "img") (codes "src") (codes "/x") ∷ start_tag_with (codes "link") (codes "href") (codes "https://e.example/site.css") ∷ start_tag_with (codes "form") (codes "action") (codes "https://e.example/") ∷ start_tag_with (codes "p") (codes "style") (codes "color: red") ∷ []) ≡ false
unfolding is_frame_token is_element message_elements frame_elements is_frame_attribute_name frame_attributes
no_frame_tokens = refl

-- ---- what is loaded

loads_each : loads (start_tag_with (codes "img") (codes "src") (codes "/a") ∷ start_tag_with (codes "link") (codes "href") (codes "/b") ∷ start_tag_with (codes "a") (codes "href") (codes "/c") ∷ start_tag_with (codes "input") (codes "src") (codes "/d") ∷ []) ≡ codes "/a" ∷ codes "/b" ∷ codes "/d" ∷ []
unfolding loads
loads_each = refl

-- ---- nesting

-- an end tag of nothing, an end tag of a void element, and one of an outer element
not_nested : map (open_elements_after []) ((End (codes "p") ∷ []) ∷ (start_tag (codes "br") ∷ End (codes "br") ∷ []) ∷ (start_tag (codes "p") ∷ start_tag (codes "b") ∷ End (codes "p") ∷ []) ∷ []) ≡ None ∷ None ∷ None ∷ []
unfolding open_elements_after is_void message_void_elements frame_void_elements
not_nested = refl
