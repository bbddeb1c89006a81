-- Strings (RFC 9051 §4.3): quoted strings, literals and literal8s.
use Rattle.std.specs.Prelude.{◌≡◌, ◌≤◌, ℕ, ◌+◌, Bool, false, ◌&&◌, ◌||◌, ◌==◌, nat_lt, nat_le, if◌then◌else◌, List, [], ◌∷◌, ◌++◌, length, take, drop, codes, Option, Some, None}
use Rattle.imap_commands.specs.Bytes.{line_feed, carriage_return, quotation_mark, backslash, left_brace, right_brace, tilde}
use Rattle.imap_values.specs.declared.words.Class.TheVariants as classes
use Rattle.imap_values.specs.Words.{◌>>=◌, eq_ignore_case, all_in_class, number_at}

-- ---- quoted strings, after the opening quote

abbrev pub prepend : ℕ → Option (List ℕ × List ℕ) → Option (List ℕ × List ℕ)
prepend c None = None
prepend c (Some x) = Some (c ∷ x.0, x.1)

-- the bytes before the closing quote, and those after it; a quote after a `\` closes nothing
abbrev pub before_quote : List ℕ → Option (List ℕ × List ℕ)
before_quote [] = None
before_quote (c ∷ []) = if c == quotation_mark then Some ([], []) else None
before_quote (c ∷ d ∷ bytes) = if c == quotation_mark then Some ([], d ∷ bytes) else (if c == backslash then prepend c (prepend d (before_quote bytes)) else prepend c (before_quote (d ∷ bytes)))

-- a text without its escapes: each `\` before another byte is removed
abbrev pub unescape : List ℕ → List ℕ
unescape [] = []
unescape (c ∷ []) = if c == backslash then [] else c ∷ []
unescape (c ∷ d ∷ text) = if c == backslash then d ∷ unescape text else c ∷ unescape (d ∷ text)

-- the text with its escapes, which has no CR and no LF
unfoldable pub quoted_raw_at : List ℕ → Option (List ℕ × List ℕ)
quoted_raw_at bytes = before_quote bytes >>= λ x. if all_in_class classes.Line x.0 then Some x else None

unfoldable pub quoted_at : List ℕ → Option (List ℕ × List ℕ)
quoted_at bytes = quoted_raw_at bytes >>= λ x. Some (unescape x.0, x.1)

-- ---- literals, after the {

abbrev pub octets_at : ℕ → List ℕ → Option (List ℕ × List ℕ)
octets_at n (a ∷ b ∷ c ∷ after) = if a == right_brace && b == carriage_return && c == line_feed then (if nat_lt (length after) n then None else Some (take n after, drop n after)) else None
octets_at n bytes = None

-- the octets of the longest literal that is read
abbrev pub longest_literal : ℕ
longest_literal = 33554432

-- a literal
unfoldable pub literal_at : List ℕ → Option (List ℕ × List ℕ)
literal_at bytes = number_at longest_literal bytes >>= λ n. octets_at n.0 n.1

-- a literal8, after its ~: a literal that may hold NULs (RFC 9051 §4.3)
abbrev pub literal8_at : List ℕ → Option (List ℕ × List ℕ)
literal8_at [] = None
literal8_at (c ∷ bytes) = if c == left_brace then literal_at bytes else None

-- ---- strings of each kind

unfoldable pub string_at : List ℕ → Option (List ℕ × List ℕ)
string_at [] = None
string_at (c ∷ bytes) =
    if c == quotation_mark then quoted_at bytes
    else (if c == left_brace then literal_at bytes
    else (if c == tilde then literal8_at bytes
    else None))

abbrev pub begins_string : List ℕ → Bool
begins_string [] = false
begins_string (c ∷ []) = c == quotation_mark || c == left_brace
begins_string (c ∷ d ∷ bytes) = c == quotation_mark || c == left_brace || (c == tilde && d == left_brace)

abbrev pub is_nil : List ℕ → Bool
is_nil bytes = nat_le 3 (length bytes) && eq_ignore_case (codes "nil") (take 3 bytes)

unfoldable pub nstring_at : List ℕ → Option (Option (List ℕ) × List ℕ)
nstring_at bytes = if is_nil bytes then Some (None, drop 3 bytes) else (string_at bytes >>= λ x. Some (Some x.0, x.1))

-- ---- the search for the closing quote

abbrev pub IsClosingQuote : List ℕ → Option ℕ → Type 0
IsClosingQuote bytes None = before_quote bytes ≡ None
IsClosingQuote bytes (Some len) = (len + 1 ≤ length bytes) × (before_quote bytes ≡ Some (take len bytes, drop (len + 1) bytes))

-- bytes before those that are read
abbrev pub prepend_all : List ℕ → Option (List ℕ × List ℕ) → Option (List ℕ × List ℕ)
prepend_all front None = None
prepend_all front (Some x) = Some (front ++ x.0, x.1)

-- no closing quote is before an offset
abbrev pub NoQuoteBefore : List ℕ → ℕ → Type 0
NoQuoteBefore bytes at = before_quote bytes ≡ prepend_all (take at bytes) (before_quote (drop at bytes))
