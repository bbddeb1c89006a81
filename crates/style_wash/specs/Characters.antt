-- The characters of declarations, by their numbers in US-ASCII.
use Rattle.std.specs.Prelude.{ℕ, ◌==◌, Bool, ◌||◌, List, ◌-◌, length, take, drop}
use Rattle.std.specs.Char.{is_ascii_alphabetic, is_ascii_alphanumeric, is_ascii_digit, is_ascii_whitespace}
use Rattle.std.specs.List.{prefix_len, suffix_len}

-- ---- names

abbrev pub space : ℕ
space = 32

abbrev pub exclamation_mark : ℕ
exclamation_mark = 33

abbrev pub quotation_mark : ℕ
quotation_mark = 34

abbrev pub number_sign : ℕ
number_sign = 35

abbrev pub percent_sign : ℕ
percent_sign = 37

abbrev pub apostrophe : ℕ
apostrophe = 39

abbrev pub left_parenthesis : ℕ
left_parenthesis = 40

abbrev pub right_parenthesis : ℕ
right_parenthesis = 41

abbrev pub comma : ℕ
comma = 44

abbrev pub hyphen : ℕ
hyphen = 45

abbrev pub full_stop : ℕ
full_stop = 46

abbrev pub solidus : ℕ
solidus = 47

abbrev pub digit_zero : ℕ
digit_zero = 48

abbrev pub colon : ℕ
colon = 58

abbrev pub semicolon : ℕ
semicolon = 59

-- ---- classes

-- a space, TAB, LF, FF or CR
abbrev pub is_white : ℕ → Bool
is_white c = is_ascii_whitespace c

abbrev pub is_digit : ℕ → Bool
is_digit c = is_ascii_digit c

abbrev pub is_letter : ℕ → Bool
is_letter c = is_ascii_alphabetic c

abbrev pub is_word_char : ℕ → Bool
is_word_char c =
    is_ascii_alphanumeric c
    || c == hyphen

abbrev pub is_name_char : ℕ → Bool
is_name_char c =
    is_word_char c
    || c == space

abbrev pub is_quote : ℕ → Bool
is_quote c =
    c == apostrophe
    || c == quotation_mark

abbrev pub is_comma : ℕ → Bool
is_comma c = c == comma

abbrev pub is_point : ℕ → Bool
is_point c = c == full_stop

abbrev pub is_colon : ℕ → Bool
is_colon c = c == colon

abbrev pub is_mark : ℕ → Bool
is_mark c = c == exclamation_mark

-- the characters between items
abbrev pub is_separator : ℕ → Bool
is_separator c =
    is_white c
    || c == comma
    || c == solidus

-- the characters that the name of a function cannot have
abbrev pub is_delimiter : ℕ → Bool
is_delimiter c =
    is_separator c
    || is_quote c
    || c == colon
    || c == semicolon
    || c == left_parenthesis
    || c == right_parenthesis

-- the characters that a washed style may have
abbrev pub is_style_char : ℕ → Bool
is_style_char c =
    is_name_char c
    || c == number_sign
    || c == percent_sign
    || c == apostrophe
    || c == left_parenthesis
    || c == right_parenthesis
    || c == comma
    || c == full_stop
    || c == solidus
    || c == colon
    || c == semicolon

-- ---- white space around

abbrev pub without_front : List ℕ → List ℕ
without_front text = drop (prefix_len is_white text) text

abbrev pub without_back : List ℕ → List ℕ
without_back text = take (length text - suffix_len is_white text) text

-- a text without the white space around it
unfoldable pub trimmed : List ℕ → List ℕ
trimmed text = without_back (without_front text)
