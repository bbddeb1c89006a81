-- How the values of fields are read.
use Rattle.std.specs.Prelude.{ℕ, Bool, true, false, ◌&&◌, ◌==◌, nat_lt, nat_le, List, length, map, codes, decimal, Option, Some, None, if◌then◌else◌}
use Rattle.std.specs.List.{list_all, list_any, slice_split}
use Rattle.std.specs.Char.{is_ascii_hexdigit}
use Rattle.std.specs.Str.{bytes_eq}
use Rattle.std.specs.Str.Parse.{digits_value}
use Rattle.mail_values.specs.Section.{spelling}
use Rattle.site_asks.specs.declared.asks.Flag.{Flag}
use Rattle.site_asks.specs.declared.asks.Flag.TheVariants as flag
use Rattle.site_asks.specs.declared.asks.How.{How}
use Rattle.site_asks.specs.declared.asks.How.TheVariants as how

abbrev pub below : ℕ → Option ℕ → Option ℕ
below bound None = None
below bound (Some n) = if nat_lt n bound then Some n else None

abbrev pub positive : Option ℕ → Option ℕ
positive None = None
positive (Some n) = if nat_lt 0 n then Some n else None

-- the number that is spelled so in decimal, without sign or leading zeros
unfoldable pub number_of : List ℕ → Option ℕ
number_of text = if bytes_eq (decimal (digits_value 10 text)) text then Some (digits_value 10 text) else None

-- a number of 32 bits
abbrev pub small_number : List ℕ → Option ℕ
small_number text = below 4294967296 (number_of text)

-- a page is counted from 1
abbrev pub page_number : List ℕ → Option ℕ
page_number text = positive (small_number text)

abbrev pub identity_number : List ℕ → Option ℕ
identity_number text = below 256 (small_number text)

-- the identities that are kept have the numbers 1 to 16
abbrev pub kept_number : List ℕ → Option ℕ
kept_number text = positive (below 17 (small_number text))

-- 16 hexadecimal digits
abbrev pub is_form_text : List ℕ → Bool
is_form_text text = length text == 16 && list_all is_ascii_hexdigit text

-- the number of a form
unfoldable pub form_number : List ℕ → Option ℕ
form_number text = if is_form_text text then Some (digits_value 16 text) else None

abbrev pub is_part_number : ℕ → Bool
is_part_number n = nat_lt 0 n && nat_lt n 65536

-- the numbers between the dots of a text
abbrev pub dotted_numbers : List ℕ → List ℕ
dotted_numbers text = map (digits_value 10) (slice_split (λ b. b == 46) text)

-- the section of 1 to 40 numbers that is spelled so
unfoldable pub section_of : List ℕ → Option (List ℕ)
section_of text =
    if nat_le (length (dotted_numbers text)) 40 && list_all is_part_number (dotted_numbers text) && bytes_eq (spelling (dotted_numbers text)) text then Some (dotted_numbers text) else None

-- one of two words
abbrev pub yes_or_no : List ℕ → Option Bool
yes_or_no text = if bytes_eq text (codes "1") then Some true else (if bytes_eq text (codes "0") then Some false else None)

abbrev pub yes : List ℕ → Option Bool
yes text = if bytes_eq text (codes "1") then Some true else None

abbrev pub flag_of : List ℕ → Option Flag
flag_of text =
    if bytes_eq text (codes "Seen") then Some flag.Seen else (
    if bytes_eq text (codes "Flagged") then Some flag.Flagged else (
    if bytes_eq text (codes "Answered") then Some flag.Answered else None))

abbrev pub how_of : List ℕ → Option How
how_of text =
    if bytes_eq text (codes "reply") then Some how.Reply else (
    if bytes_eq text (codes "forward") then Some how.Forward else (
    if bytes_eq text (codes "edit") then Some how.Edit else None))

-- a text without U+0000
abbrev pub without_nul : List ℕ → Option (List ℕ)
without_nul text = if list_any (λ b. b == 0) text then None else Some text

-- the name of a user: 1 to 120 bytes without U+0000
abbrev pub user_name : List ℕ → Option (List ℕ)
user_name text = if nat_lt 0 (length text) && nat_le (length text) 120 then without_nul text else None
