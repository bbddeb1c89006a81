-- Worked examples of the definitions.
use Rattle.std.proofs.Common.{◌≡◌, true, false, None, [], ◌∷◌, ◌++◌, length, map, refl}
use Rattle.std.specs.List.{list_all, list_any}
use Rattle.std.specs.Prelude.{codes, replicate}
use Rattle.style_wash.specs.Characters.{is_delimiter, is_style_char, trimmed}
use Rattle.style_wash.specs.Tables.{properties, property_of, units, is_unit}
use Rattle.style_wash.specs.Items.{is_number, is_rgb, is_name, is_plain, item_of}
use Rattle.style_wash.specs.Values.{parts, separator_of, steps_of, value_in, value_of}
use Rattle.style_wash.specs.Declarations.{calls_only_rgb, without_important, value_after_colon, declaration_of, written, pieces, declarations, style_of, stylewash}

-- no `url(` and no `expression(`
worked : stylewash (codes "color:red;background:url(x);width:expression(1);font-family:'A B'") ≡ codes "color: red; font-family: 'A B'"
unfolding stylewash declarations pieces declaration_of value_after_colon value_of value_in parts steps_of item_of is_plain is_number is_rgb is_name separator_of trimmed property_of properties is_unit units written style_of
worked = refl

-- an empty text
nothing : stylewash (codes "") ≡ []
unfolding stylewash declarations pieces declaration_of value_after_colon value_of value_in parts steps_of item_of is_plain is_number is_rgb is_name separator_of trimmed property_of properties is_unit units written style_of
nothing = refl

-- a last `!important` goes
important : stylewash (codes "color : red !important ;margin:0!important") ≡ codes "color: red; margin: 0"
unfolding stylewash declarations pieces declaration_of value_after_colon value_of value_in parts steps_of item_of is_plain is_number is_rgb is_name separator_of trimmed property_of properties is_unit units written style_of
important = refl

important_twice : stylewash (codes "color:red !important !important") ≡ []
unfolding stylewash declarations pieces declaration_of value_after_colon value_of value_in parts steps_of item_of is_plain is_number is_rgb is_name separator_of trimmed property_of properties is_unit units written style_of
important_twice = refl

important_within : stylewash (codes "margin:1px !important 2px;color:red") ≡ codes "color: red"
unfolding stylewash declarations pieces declaration_of value_after_colon value_of value_in parts steps_of item_of is_plain is_number is_rgb is_name separator_of trimmed property_of properties is_unit units written style_of
important_within = refl

important_alone : stylewash (codes "color:!important") ≡ []
unfolding stylewash declarations pieces declaration_of value_after_colon value_of value_in parts steps_of item_of is_plain is_number is_rgb is_name separator_of trimmed property_of properties is_unit units written style_of
important_alone = refl

important_upper : stylewash (codes "color:red !IMPORTANT") ≡ []
unfolding stylewash declarations pieces declaration_of value_after_colon value_of value_in parts steps_of item_of is_plain is_number is_rgb is_name separator_of trimmed property_of properties is_unit units written style_of
important_upper = refl

-- a property is lowered, and an item stays
upper_property : stylewash (codes "COLOR:Red;Font-Size:12px") ≡ codes "color: Red; font-size: 12px"
unfolding stylewash declarations pieces declaration_of value_after_colon value_of value_in parts steps_of item_of is_plain is_number is_rgb is_name separator_of trimmed property_of properties is_unit units written style_of
upper_property = refl

unknown_property : stylewash (codes "position:fixed;-moz-binding:x;color:red;z-index:9") ≡ codes "color: red"
unfolding stylewash declarations pieces declaration_of value_after_colon value_of value_in parts steps_of item_of is_plain is_number is_rgb is_name separator_of trimmed property_of properties is_unit units written style_of
unknown_property = refl

-- 16 items and 17
sixteen : stylewash (codes "margin:0 0 0 0 0 0 0 0 0 0 0 0 0 0 0 0") ≡ codes "margin: 0 0 0 0 0 0 0 0 0 0 0 0 0 0 0 0"
unfolding stylewash declarations pieces declaration_of value_after_colon value_of value_in parts steps_of item_of is_plain is_number is_rgb is_name separator_of trimmed property_of properties is_unit units written style_of
sixteen = refl

seventeen : stylewash (codes "margin:0 0 0 0 0 0 0 0 0 0 0 0 0 0 0 0 0") ≡ []
unfolding stylewash declarations pieces declaration_of value_after_colon value_of value_in parts steps_of item_of is_plain is_number is_rgb is_name separator_of trimmed property_of properties is_unit units written style_of
seventeen = refl

-- colours
rgb : stylewash (codes "color:rgb(0,128,255);border:1px solid rgb(10,20,30)") ≡ codes "color: rgb(0,128,255); border: 1px solid rgb(10,20,30)"
unfolding stylewash declarations pieces declaration_of value_after_colon value_of value_in parts steps_of item_of is_plain is_number is_rgb is_name separator_of trimmed property_of properties is_unit units written style_of
rgb = refl

rgb_space : stylewash (codes "color:rgb(0, 128,255)") ≡ []
unfolding stylewash declarations pieces declaration_of value_after_colon value_of value_in parts steps_of item_of is_plain is_number is_rgb is_name separator_of trimmed property_of properties is_unit units written style_of
rgb_space = refl

rgb_256 : stylewash (codes "color:rgb(0,256,0)") ≡ []
unfolding stylewash declarations pieces declaration_of value_after_colon value_of value_in parts steps_of item_of is_plain is_number is_rgb is_name separator_of trimmed property_of properties is_unit units written style_of
rgb_256 = refl

rgb_two : stylewash (codes "color:rgb(0,2)") ≡ []
unfolding stylewash declarations pieces declaration_of value_after_colon value_of value_in parts steps_of item_of is_plain is_number is_rgb is_name separator_of trimmed property_of properties is_unit units written style_of
rgb_two = refl

rgb_open : stylewash (codes "color:rgb(0,2,3") ≡ []
unfolding stylewash declarations pieces declaration_of value_after_colon value_of value_in parts steps_of item_of is_plain is_number is_rgb is_name separator_of trimmed property_of properties is_unit units written style_of
rgb_open = refl

hexadecimal : stylewash (codes "color:#1aF;background:#12aBcD") ≡ codes "color: #1aF; background: #12aBcD"
unfolding stylewash declarations pieces declaration_of value_after_colon value_of value_in parts steps_of item_of is_plain is_number is_rgb is_name separator_of trimmed property_of properties is_unit units written style_of
hexadecimal = refl

hexadecimal_two : stylewash (codes "color:#12;background:#1234;width:#12g") ≡ []
unfolding stylewash declarations pieces declaration_of value_after_colon value_of value_in parts steps_of item_of is_plain is_number is_rgb is_name separator_of trimmed property_of properties is_unit units written style_of
hexadecimal_two = refl

-- numbers and units
numbers : stylewash (codes "width:12345678;height:10.5em;margin:0 1.25% 3pc") ≡ codes "width: 12345678; height: 10.5em; margin: 0 1.25% 3pc"
unfolding stylewash declarations pieces declaration_of value_after_colon value_of value_in parts steps_of item_of is_plain is_number is_rgb is_name separator_of trimmed property_of properties is_unit units written style_of
numbers = refl

-- nine characters, and other forms that are no number
nine : stylewash (codes "width:123456789px;height:1234567.8;margin:1.2.3 .5em;padding:5.;color:-1px") ≡ []
unfolding stylewash declarations pieces declaration_of value_after_colon value_of value_in parts steps_of item_of is_plain is_number is_rgb is_name separator_of trimmed property_of properties is_unit units written style_of
nine = refl

other_unit : stylewash (codes "width:1vw;height:1PX;margin:1 px") ≡ codes "margin: 1 px"
unfolding stylewash declarations pieces declaration_of value_after_colon value_of value_in parts steps_of item_of is_plain is_number is_rgb is_name separator_of trimmed property_of properties is_unit units written style_of
other_unit = refl

-- quoted names, each written between two `'`
names : stylewash (codes "font-family:\"Open Sans\", 'Arial 2' ,serif") ≡ codes "font-family: 'Open Sans', 'Arial 2', serif"
unfolding stylewash declarations pieces declaration_of value_after_colon value_of value_in parts steps_of item_of is_plain is_number is_rgb is_name separator_of trimmed property_of properties is_unit units written style_of
names = refl

-- a backslash is no escape, so the text after the second `'` is quoted up to the end
bad_names : stylewash (codes "font-family:'a\\'b';color:red") ≡ []
unfolding stylewash declarations pieces declaration_of value_after_colon value_of value_in parts steps_of item_of is_plain is_number is_rgb is_name separator_of trimmed property_of properties is_unit units written style_of
bad_names = refl

other_quote : stylewash (codes "font-family:'a\"b';color:red;font:\"\";float:left") ≡ codes "color: red; float: left"
unfolding stylewash declarations pieces declaration_of value_after_colon value_of value_in parts steps_of item_of is_plain is_number is_rgb is_name separator_of trimmed property_of properties is_unit units written style_of
other_quote = refl

-- a `;` inside quotes cuts nothing
quoted_semicolon : stylewash (codes "font-family:'a;color:red;b';width:1px") ≡ codes "width: 1px"
unfolding stylewash declarations pieces declaration_of value_after_colon value_of value_in parts steps_of item_of is_plain is_number is_rgb is_name separator_of trimmed property_of properties is_unit units written style_of
quoted_semicolon = refl

-- an unclosed quote takes the rest with it
unclosed : stylewash (codes "color:red;font-family:'a;color:blue") ≡ codes "color: red"
unfolding stylewash declarations pieces declaration_of value_after_colon value_of value_in parts steps_of item_of is_plain is_number is_rgb is_name separator_of trimmed property_of properties is_unit units written style_of
unclosed = refl

-- separators
separators : stylewash (codes "font:12px / 1.5 a,b , c;margin:1px,,2px;border:1px/ /2px;padding:,1px;width:1px,") ≡ codes "font: 12px/1.5 a, b, c"
unfolding stylewash declarations pieces declaration_of value_after_colon value_of value_in parts steps_of item_of is_plain is_number is_rgb is_name separator_of trimmed property_of properties is_unit units written style_of
separators = refl

-- items that nothing separates
glued : stylewash (codes "margin:1px#fff;font:'a''b';border:rgb(1,2,3)red") ≡ []
unfolding stylewash declarations pieces declaration_of value_after_colon value_of value_in parts steps_of item_of is_plain is_number is_rgb is_name separator_of trimmed property_of properties is_unit units written style_of
glued = refl

at_rule : stylewash (codes "@import 'x';color:red") ≡ codes "color: red"
unfolding stylewash declarations pieces declaration_of value_after_colon value_of value_in parts steps_of item_of is_plain is_number is_rgb is_name separator_of trimmed property_of properties is_unit units written style_of
at_rule = refl

comment : stylewash (codes "color:/**/red;width:1px") ≡ codes "width: 1px"
unfolding stylewash declarations pieces declaration_of value_after_colon value_of value_in parts steps_of item_of is_plain is_number is_rgb is_name separator_of trimmed property_of properties is_unit units written style_of
comment = refl

escape : stylewash (codes "c\\6flor:red;color:\\72 ed;width:1px") ≡ codes "width: 1px"
unfolding stylewash declarations pieces declaration_of value_after_colon value_of value_in parts steps_of item_of is_plain is_number is_rgb is_name separator_of trimmed property_of properties is_unit units written style_of
escape = refl

no_colon : stylewash (codes "color red;color;:red;color:;width:1px") ≡ codes "width: 1px"
unfolding stylewash declarations pieces declaration_of value_after_colon value_of value_in parts steps_of item_of is_plain is_number is_rgb is_name separator_of trimmed property_of properties is_unit units written style_of
no_colon = refl

two_colons : stylewash (codes "color:red:blue;width:1px") ≡ codes "width: 1px"
unfolding stylewash declarations pieces declaration_of value_after_colon value_of value_in parts steps_of item_of is_plain is_number is_rgb is_name separator_of trimmed property_of properties is_unit units written style_of
two_colons = refl

-- TAB, LF, CR and FF are white space
white : stylewash (codes "color" ++ 9 ∷ codes ":" ++ 10 ∷ 13 ∷ codes "a" ++ 12 ∷ codes "b") ≡ codes "color: a b"
unfolding stylewash declarations pieces declaration_of value_after_colon value_of value_in parts steps_of item_of is_plain is_number is_rgb is_name separator_of trimmed property_of properties is_unit units written style_of
white = refl

-- bytes beyond ASCII and U+0000 are in no declaration
other_bytes : stylewash (codes "color:r" ++ 0xC3 ∷ 0xA9 ∷ codes "d;width:1px;color:re" ++ 0 ∷ codes "d") ≡ codes "width: 1px"
unfolding stylewash declarations pieces declaration_of value_after_colon value_of value_in parts steps_of item_of is_plain is_number is_rgb is_name separator_of trimmed property_of properties is_unit units written style_of
other_bytes = refl

-- names of 64 characters and 65
name_of_64 : stylewash (codes "font:'" ++ replicate 64 97 ++ codes "'") ≡ codes "font: '" ++ replicate 64 97 ++ codes "'"
unfolding stylewash declarations pieces declaration_of value_after_colon value_of value_in parts steps_of item_of is_plain is_number is_rgb is_name separator_of trimmed property_of properties is_unit units written style_of
name_of_64 = refl

name_of_65 : stylewash (codes "font:'" ++ replicate 65 97 ++ codes "'") ≡ []
unfolding stylewash declarations pieces declaration_of value_after_colon value_of value_in parts steps_of item_of is_plain is_number is_rgb is_name separator_of trimmed property_of properties is_unit units written style_of
name_of_65 = refl

-- `!important` goes once, at the end, with the white space after it
one_mark : without_important (codes "red !important \t") ≡ codes "red "
one_mark = refl

two_marks : without_important (codes "red !important !important") ≡ codes "red !important "
two_marks = refl

spaced_mark : without_important (codes "red ! important") ≡ codes "red ! important"
spaced_mark = refl

-- only the whole name `rgb` may be called
whole_name : calls_only_rgb [] (codes "color: rgb(1,2,3); border: 1px/rgb(4,5,6)") ≡ true
unfolding calls_only_rgb
whole_name = refl

longer_names : map (calls_only_rgb []) (codes "argb(" ∷ codes "rgba(" ∷ codes "-rgb(" ∷ codes "_rgb(" ∷ codes "\\rgb(" ∷ codes "rgb (" ∷ codes "RGB(" ∷ codes "rgb((" ∷ []) ≡ replicate 8 false
unfolding calls_only_rgb
longer_names = refl

other_functions : map (calls_only_rgb []) (codes "url(x)" ∷ codes "a: expression(1)" ∷ codes "calc(1px)" ∷ codes "var(--x)" ∷ codes "(x)" ∷ []) ≡ replicate 5 false
unfolding calls_only_rgb
other_functions = refl

-- the characters of a style, and some that it cannot have
style_chars : list_all is_style_char (codes "azAZ09 #%'(),-./:;") ≡ true
style_chars = refl

other_chars : list_any is_style_char (codes "\"\\@<>&{}*!=+?[]^_`|~$" ++ 0 ∷ 9 ∷ 10 ∷ 12 ∷ 13 ∷ 127 ∷ 128 ∷ 255 ∷ []) ≡ false
other_chars = refl

delimiters : list_all is_delimiter (codes " \t\n\r,/'\":;()") ≡ true
delimiters = refl

-- the sizes of the tables
forty_properties : length properties ≡ 40
unfolding properties
forty_properties = refl

ten_units : length units ≡ 10
unfolding units
ten_units = refl

other_properties : map property_of (codes "behavior" ∷ codes "content" ∷ codes "position" ∷ codes "list-style" ∷ codes "list-style-image" ∷ codes "background-image" ∷ codes "cursor" ∷ codes "filter" ∷ codes "" ∷ []) ≡ replicate 9 None
unfolding property_of properties trimmed
other_properties = refl
