-- The moment of an INTERNALDATE (RFC 9051 §9, date-time).
use Rattle.std.specs.Prelude.{ℕ, ℤ, pos, Bool, true, false, ◌&&◌, ◌||◌, ◌==◌, nat_le, if◌then◌else◌, List, ◌∷◌, length, set, codes, Result, Ok, Err, int_div}
use Rattle.imap_commands.specs.Bytes.{space, plus_sign, hyphen, is_digit}
use Rattle.jiff_core.specs.declared.error.Error.{Error}
use Rattle.jiff_fmt.specs.Rfc2822.{timestamp}

abbrev pub letter_a : ℕ
letter_a = 97

abbrev pub letter_d : ℕ
letter_d = 100

abbrev pub letter_s : ℕ
letter_s = 115

abbrev pub capital_d : ℕ
capital_d = 68

abbrev pub is_letter : ℕ → Bool
is_letter c = (nat_le 65 c && nat_le c 90) || (nat_le 97 c && nat_le c 122)

-- a byte matches a mark: d is a digit, D a digit or a space, a a letter, s a + or -, and any other mark itself
abbrev pub matches_mark : ℕ → ℕ → Bool
matches_mark mark c =
    if mark == letter_d then is_digit c
    else (if mark == capital_d then (c == space || is_digit c)
    else (if mark == letter_a then is_letter c
    else (if mark == letter_s then (c == plus_sign || c == hyphen)
    else c == mark)))

abbrev pub match_marks : List ℕ → List ℕ → Bool
match_marks (mark ∷ marks) (c ∷ text) = matches_mark mark c && match_marks marks text
match_marks marks text = true

-- the shape dd-Mmm-yyyy hh:mm:ss +hhmm
abbrev pub is_date_time : List ℕ → Bool
is_date_time text = length text == 26 && match_marks (codes "Dd-aaa-dddd dd:dd:dd sdddd") text

-- the date of a mail header: with spaces in place of the two -
abbrev pub mail_date : List ℕ → List ℕ
mail_date text = set (set text 2 space) 6 space

abbrev pub seconds_of : Result ℤ Error → ℤ
seconds_of (Ok nanoseconds) = int_div nanoseconds (pos 1_000_000_000)
seconds_of (Err e) = pos 0

-- the seconds since 1970-01-01 00:00 UTC, and 0 if the text names no moment
unfoldable pub moment_of : List ℕ → ℤ
moment_of text = if is_date_time text then seconds_of (timestamp false (mail_date text)) else pos 0
