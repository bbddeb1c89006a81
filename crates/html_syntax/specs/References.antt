-- Character references: what is read after an `&` (HTML Standard 13.2.5.72 to 13.2.5.80).
--
-- The Standard reads a reference by nine states, one character at a time. Here one function looks at the text after the `&`,
-- and returns how many of its characters belong to the reference. If there is no reference, the `&` is text, and the row that met
-- it reads the characters after it; the Standard's flushing of them gives the same.
use Rattle.std.specs.Prelude.{ℕ, ◌+◌, ◌-◌, ◌*◌, Bool, true, false, not, ◌&&◌, ◌||◌, ◌==◌, nat_lt, if◌then◌else◌, List, [], ◌∷◌, length, drop, take_while, fold, slice_index, Option, Some, None}
use Rattle.std.specs.Char.{digit_value}
use Rattle.html_syntax.specs.Names.{Name, names}
use Rattle.html_syntax.specs.Characters.{ampersand, number_sign, semicolon, equals_sign, capital_x, small_x, replacement}
pub use Rattle.html_syntax.specs.Characters.{is_between, is_letter, is_digit, is_hex}

-- the number of characters after the & that belong to the reference, and the characters that it is replaced by
pub record Reference : Type 0 where
  pub len : ℕ
  pub chars : List ℕ

-- the & is text
abbrev pub no_reference : Reference
no_reference = record { len = 0; chars = ampersand ∷ [] }

-- ---- numbers (13.2.5.75 to 13.2.5.80)

-- the characters of 0x80 to 0x9F; 81, 8D, 8F, 90 and 9D are themselves (13.2.5.80, the table)
abbrev pub windows_1252 : List ℕ
windows_1252 = 0x20AC ∷ 0x81 ∷ 0x201A ∷ 0x0192 ∷ 0x201E ∷ 0x2026 ∷ 0x2020 ∷ 0x2021
    ∷ 0x02C6 ∷ 0x2030 ∷ 0x0160 ∷ 0x2039 ∷ 0x0152 ∷ 0x8D ∷ 0x017D ∷ 0x8F
    ∷ 0x90 ∷ 0x2018 ∷ 0x2019 ∷ 0x201C ∷ 0x201D ∷ 0x2022 ∷ 0x2013 ∷ 0x2014
    ∷ 0x02DC ∷ 0x2122 ∷ 0x0161 ∷ 0x203A ∷ 0x0153 ∷ 0x9D ∷ 0x017E ∷ 0x0178 ∷ []

abbrev pub is_surrogate : ℕ → Bool
is_surrogate n = is_between 0xD800 0xDFFF n

-- the character of a number (13.2.5.80)
abbrev pub char_of : ℕ → ℕ
char_of n =
    if n == 0 || is_surrogate n || nat_lt 0x10FFFF n then replacement
    else (if is_between 0x80 0x9F n then slice_index windows_1252 (n - 0x80)
    else n)

-- a semicolon at the beginning of the text belongs to the number
abbrev pub semicolon_len : List ℕ → ℕ
semicolon_len [] = 0
semicolon_len (c ∷ cs) = if c == semicolon then 1 else 0

-- The reference of digits of a base. `text` begins with the digits, and `before` characters are between the & and them. Without a
-- digit there is no reference (13.2.5.76, 13.2.5.77).
abbrev pub digits_reference : ℕ → ℕ → List ℕ → List ℕ → Reference
digits_reference base before [] text = no_reference
digits_reference base before (d ∷ ds) text = record {
  len = before + length (d ∷ ds) + semicolon_len (drop (length (d ∷ ds)) text);
  chars = char_of (fold (λ n c. n * base + digit_value c) 0 (d ∷ ds)) ∷ [];
}

-- the reference of the text after `&#`
abbrev pub number_reference : List ℕ → Reference
number_reference [] = no_reference
number_reference (c ∷ cs) =
    if c == small_x || c == capital_x then digits_reference 16 2 (take_while is_hex cs) cs
    else digits_reference 10 1 (take_while is_digit (c ∷ cs)) (c ∷ cs)

-- ---- names (13.2.5.73)

-- the text begins with the word
abbrev pub begins_with : List ℕ → List ℕ → Bool
begins_with [] text = true
begins_with (w ∷ ws) [] = false
begins_with (w ∷ ws) (c ∷ cs) = w == c && begins_with ws cs

abbrev pub longer : Name → Option Name → Option Name
longer n None = Some n
longer n (Some m) = if nat_lt (length n.spelling) (length m.spelling) then Some m else Some n

-- the longest of the names that the text begins with
abbrev pub longest : List Name → List ℕ → Option Name
longest [] text = None
longest (n ∷ ns) text = let best = longest ns text in if begins_with n.spelling text then longer n best else best

-- the text begins with = or an ASCII letter or digit
abbrev pub continues_name : List ℕ → Bool
continues_name [] = false
continues_name (c ∷ cs) = c == equals_sign || is_letter c || is_digit c

-- the spelling ends with a semicolon
abbrev pub is_closed : List ℕ → Bool
is_closed [] = false
is_closed (c ∷ []) = c == semicolon
is_closed (c ∷ d ∷ cs) = is_closed (d ∷ cs)

-- In an attribute, a name without its semicolon is text if = or an ASCII letter or digit follows.
abbrev pub name_reference : Bool → Option Name → List ℕ → Reference
name_reference in_attribute None text = no_reference
name_reference in_attribute (Some n) text =
    if in_attribute && not (is_closed n.spelling) && continues_name (drop (length n.spelling) text) then no_reference
    else record { len = length n.spelling; chars = n.char ∷ [] }

-- the reference whose & is right before the text (13.2.5.72)
unfoldable pub reference : Bool → List ℕ → Reference
reference in_attribute [] = no_reference
reference in_attribute (c ∷ cs) =
    if c == number_sign then number_reference cs
    else name_reference in_attribute (longest names (c ∷ cs)) (c ∷ cs)
