-- Characters by their numbers, with the names that the HTML Standard's rows give them, and its classes of characters.
use Rattle.std.specs.Prelude.{ℕ, Bool, ◌&&◌, ◌||◌, ◌==◌, nat_le}
use Rattle.std.specs.Char.{to_ascii_lowercase}

abbrev pub null : ℕ
null = 0x00

abbrev pub tabulation : ℕ
tabulation = 0x09

abbrev pub line_feed : ℕ
line_feed = 0x0A

abbrev pub form_feed : ℕ
form_feed = 0x0C

abbrev pub carriage_return : ℕ
carriage_return = 0x0D

abbrev pub space : ℕ
space = 0x20

-- !
abbrev pub exclamation_mark : ℕ
exclamation_mark = 0x21

-- "
abbrev pub quotation_mark : ℕ
quotation_mark = 0x22

-- #
abbrev pub number_sign : ℕ
number_sign = 0x23

-- &
abbrev pub ampersand : ℕ
ampersand = 0x26

-- '
abbrev pub apostrophe : ℕ
apostrophe = 0x27

-- -
abbrev pub hyphen : ℕ
hyphen = 0x2D

-- /
abbrev pub solidus : ℕ
solidus = 0x2F

-- ;
abbrev pub semicolon : ℕ
semicolon = 0x3B

-- <
abbrev pub less_than : ℕ
less_than = 0x3C

-- =
abbrev pub equals_sign : ℕ
equals_sign = 0x3D

-- >
abbrev pub greater_than : ℕ
greater_than = 0x3E

-- ?
abbrev pub question_mark : ℕ
question_mark = 0x3F

-- X and x
abbrev pub capital_x : ℕ
capital_x = 0x58

abbrev pub small_x : ℕ
small_x = 0x78

-- U+FFFD REPLACEMENT CHARACTER
abbrev pub replacement : ℕ
replacement = 0xFFFD

-- ---- classes

abbrev pub is_between : ℕ → ℕ → ℕ → Bool
is_between low high c = nat_le low c && nat_le c high

-- ASCII digit
abbrev pub is_digit : ℕ → Bool
is_digit c = is_between 0x30 0x39 c

-- ASCII alpha
abbrev pub is_letter : ℕ → Bool
is_letter c = is_between 0x41 0x5A c || is_between 0x61 0x7A c

-- ASCII hex digit
abbrev pub is_hex : ℕ → Bool
is_hex c = is_digit c || is_between 0x41 0x46 c || is_between 0x61 0x66 c

-- The white space of the rows. A carriage return is not in it: `normalize_newlines` leaves none in the input, and a row never
-- reads the character of a reference.
abbrev pub is_space : ℕ → Bool
is_space c = c == tabulation || c == line_feed || c == form_feed || c == space

-- an ASCII upper alpha in lower case; any other character itself
abbrev pub lower : ℕ → ℕ
lower c = to_ascii_lowercase c
