-- The items of a value, each a grammar over a whole text.
use Rattle.std.specs.Prelude.{ℕ, ◌+◌, ◌-◌, ◌*◌, ◌==◌, nat_eq, nat_le, nat_lt, Bool, false, not, ◌&&◌, ◌||◌, if◌then◌else◌, List, [], ◌∷◌, ◌++◌, length, drop, slice_index, slice_range, count_by, codes, Option, Some, None}
use Rattle.std.specs.Char.{is_ascii_hexdigit}
use Rattle.std.specs.List.{list_all, starts_with, position_or_len, before_first, slice_split}
use Rattle.style_wash.specs.Characters.{number_sign, apostrophe, right_parenthesis, digit_zero, is_digit, is_letter, is_word_char, is_name_char, is_quote, is_comma, is_point}
use Rattle.style_wash.specs.Tables.{is_unit}

-- a letter, and then letters, digits and `-`
abbrev pub is_word : List ℕ → Bool
is_word [] = false
is_word (c ∷ more) = is_letter c && list_all is_word_char more

-- one or more digits
abbrev pub is_digits : List ℕ → Bool
is_digits text = nat_lt 0 (length text) && list_all is_digit text

-- digits, or digits `.` digits, in at most 8 characters
abbrev pub is_decimal : List ℕ → Bool
is_decimal text = nat_le (length text) 8 && nat_le (count_by is_point text) 1 && list_all is_digits (slice_split is_point text)

-- the unit of a number begins at the first character that is no digit and no `.`
abbrev pub begins_unit : ℕ → Bool
begins_unit c = not (is_digit c || is_point c)

-- a number, and a unit or none
unfoldable pub is_number : List ℕ → Bool
is_number text = is_decimal (before_first begins_unit text) && is_unit (drop (position_or_len begins_unit text) text)

-- `#` and 3 or 6 hexadecimal digits
abbrev pub is_hex_colour : List ℕ → Bool
is_hex_colour [] = false
is_hex_colour (c ∷ digits) = (c == number_sign) && (length digits == 3 || length digits == 6) && list_all is_ascii_hexdigit digits

-- the number of three digits
abbrev pub three_digits : ℕ → ℕ → ℕ → ℕ
three_digits a b c = (a - digit_zero) * 100 + (b - digit_zero) * 10 + (c - digit_zero)

-- 1 to 3 digits, at most 255
abbrev pub is_level : List ℕ → Bool
is_level [] = false
is_level (a ∷ []) = is_digit a
is_level (a ∷ b ∷ []) = is_digit a && is_digit b
is_level (a ∷ b ∷ c ∷ []) = is_digit a && is_digit b && is_digit c && nat_le (three_digits a b c) 255
is_level (a ∷ b ∷ c ∷ d ∷ more) = false

-- three numbers from 0 to 255, with a comma between each two
abbrev pub are_levels : List ℕ → Bool
are_levels text = (count_by is_comma text == 2) && list_all is_level (slice_split is_comma text)

-- the last character, or 0
abbrev pub last : List ℕ → ℕ
last text = slice_index text (length text - 1)

-- `rgb(n,n,n)`
unfoldable pub is_rgb : List ℕ → Bool
is_rgb text = starts_with nat_eq text (codes "rgb(") && nat_le 5 (length text) && (last text == right_parenthesis) && are_levels (slice_range text 4 (length text - 1))

-- a text without its first and last character
abbrev pub inner : List ℕ → List ℕ
inner text = slice_range text 1 (length text - 1)

-- 1 to 64 letters, digits, spaces and `-` between two `'` or two `"`
unfoldable pub is_name : List ℕ → Bool
is_name text = is_quote (slice_index text 0) && nat_le 3 (length text) && nat_le (length text) 66
    && (last text == slice_index text 0) && list_all is_name_char (inner text)

-- a word, a number or a colour
unfoldable pub is_plain : List ℕ → Bool
is_plain text = is_word text || is_number text || is_hex_colour text || is_rgb text

-- an item: a word, a number or a colour as written, or a quoted name without its quotes
pub data Item : Type 0 where
  Plain : List ℕ → Item
  Name : List ℕ → Item

-- the item that a text is
unfoldable pub item_of : List ℕ → Option Item
item_of text = if is_plain text then Some (Plain text)
    else if is_name text then Some (Name (inner text))
    else None

-- the written form of an item
abbrev pub written_item : Item → List ℕ
written_item (Plain text) = text
written_item (Name name) = apostrophe ∷ name ++ apostrophe ∷ []
