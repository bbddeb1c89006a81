-- Bytes by their names in US-ASCII, and lists of byte strings.
use Rattle.std.specs.Prelude.{ℕ, Bool, ◌&&◌, nat_le, List, map}
use Rattle.std.specs.Global.{Vec}

abbrev pub line_feed : ℕ
line_feed = 10

abbrev pub carriage_return : ℕ
carriage_return = 13

abbrev pub space : ℕ
space = 32

abbrev pub quotation_mark : ℕ
quotation_mark = 34

abbrev pub percent_sign : ℕ
percent_sign = 37

abbrev pub left_parenthesis : ℕ
left_parenthesis = 40

abbrev pub right_parenthesis : ℕ
right_parenthesis = 41

abbrev pub asterisk : ℕ
asterisk = 42

abbrev pub plus_sign : ℕ
plus_sign = 43

abbrev pub comma : ℕ
comma = 44

abbrev pub hyphen : ℕ
hyphen = 45

abbrev pub digit_zero : ℕ
digit_zero = 48

abbrev pub digit_nine : ℕ
digit_nine = 57

abbrev pub colon : ℕ
colon = 58

abbrev pub greater_than_sign : ℕ
greater_than_sign = 62

abbrev pub left_bracket : ℕ
left_bracket = 91

abbrev pub backslash : ℕ
backslash = 92

abbrev pub right_bracket : ℕ
right_bracket = 93

abbrev pub left_brace : ℕ
left_brace = 123

abbrev pub right_brace : ℕ
right_brace = 125

abbrev pub tilde : ℕ
tilde = 126

-- a decimal digit
abbrev pub is_digit : ℕ → Bool
is_digit c = nat_le digit_zero c && nat_le c digit_nine

-- the bytes of each vector
abbrev pub bytes_of_vecs : List (Vec ℕ) → List (List ℕ)
bytes_of_vecs vecs = map (λ v. v.items) vecs
