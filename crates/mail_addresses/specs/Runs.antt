-- Runs of bytes at the front of a text. Texts are in UTF-8.
use Rattle.std.specs.Prelude.{◌≡◌, ℕ, ◌-◌, Bool, false, not, ◌&&◌, ◌||◌, ◌==◌, nat_lt, nat_le, if◌then◌else◌, List, [], ◌∷◌, length, take, drop, codes, Option, Some, None, Result, Ok, Err}
use Rattle.std.specs.Borrow.{Bor}
use Rattle.std.specs.List.{prefix_len, suffix_len, list_any}
use Rattle.mail_values.specs.Ascii.{space, quotation_mark, comma, hyphen, backslash, greater_than_sign}
use Rattle.mail_addresses.specs.declared.runs.Class.{Class}
use Rattle.mail_addresses.specs.declared.runs.Class.TheVariants as classes
use Rattle.mail_addresses.specs.declared.reading.Stop.{Stop}
use Rattle.mail_addresses.specs.declared.reading.Stop.TheVariants as stops

-- ---- what a form reads at the front of a text: a value and the text after it. If it reads nothing: how many bytes are left from
-- the first one after which it can't go on

infixl 10 ◌>>=◌
abbrev pub ◌>>=◌ : {A B : Type 0} → Result A ℕ → (A → Result B ℕ) → Result B ℕ
(Ok x) >>= f = f x
(Err left) >>= f = Err left

abbrev pub StopsAs : {Y : Type 0} → Stop → Result Y ℕ → Type 0
StopsAs (stops.Before left) read = read ≡ Err left
StopsAs stops.Memory read = Unit {0}

-- a function's result, seen by `view`, is what the definition reads, unless memory ran out
abbrev pub ReadsAs : {X Y : Type 0} → (X → Y) → Result X Stop → Result Y ℕ → Type 0
ReadsAs view (Ok x) read = read ≡ Ok (view x)
ReadsAs view (Err stop) read = StopsAs stop read

-- ---- classes of bytes

abbrev pub at_sign : ℕ
at_sign = 64

abbrev pub less_than_sign : ℕ
less_than_sign = 60

abbrev pub full_stop : ℕ
full_stop = 46

abbrev pub is_alphanumeric : ℕ → Bool
is_alphanumeric c = (nat_le 97 c && nat_le c 122) || (nat_le 65 c && nat_le c 90) || (nat_le 48 c && nat_le c 57)

-- a byte of a local part (RFC 5321 §4.1.2, Dot-string)
unfoldable pub is_local : ℕ → Bool
is_local c = is_alphanumeric c || list_any (λ mark. mark == c) (codes ".!#$%&'*+-/=?^_`{|}~")

abbrev pub is_domain : ℕ → Bool
is_domain c = is_alphanumeric c || c == hyphen || c == full_stop

-- a byte of a name that is not a quoted string
abbrev pub is_name : ℕ → Bool
is_name c = not (c == comma || c == less_than_sign || c == greater_than_sign || c == quotation_mark || c == at_sign)

-- a byte of a quoted string that is itself
abbrev pub is_quoted : ℕ → Bool
is_quoted c = not (c == quotation_mark || c == backslash)

abbrev pub is_space : ℕ → Bool
is_space c = c == space

abbrev pub in_class : Class → ℕ → Bool
in_class classes.Space c = is_space c
in_class classes.Local c = is_local c
in_class classes.Domain c = is_domain c
in_class classes.Name c = is_name c
in_class classes.Quoted c = is_quoted c

-- ---- runs

-- the longest prefix of bytes in a class, and the rest
abbrev pub take_while_at : Class → List ℕ → List ℕ × List ℕ
take_while_at class text = let n = prefix_len (in_class class) text in (take n text, drop n text)

-- a prefix of 1 to `most` bytes
abbrev pub run_at : Class → ℕ → List ℕ → Result (List ℕ × List ℕ) ℕ
run_at class most text =
    if prefix_len (in_class class) text == 0 then Err (length text)
    else (if nat_lt most (prefix_len (in_class class) text) then Err (length text - most) else Ok (take_while_at class text))

-- whether a text is such a run
abbrev pub is_run : Class → ℕ → List ℕ → Bool
is_run class most text = let n = prefix_len (in_class class) text in nat_lt 0 n && nat_le n most && n == length text

-- the text after its first byte, if that is b
abbrev pub strip_at : ℕ → List ℕ → Option (List ℕ)
strip_at b [] = None
strip_at b (c ∷ rest) = if c == b then Some rest else None

abbrev pub or_stop : ℕ → Option (List ℕ) → Result (List ℕ) ℕ
or_stop left None = Err left
or_stop left (Some rest) = Ok rest

abbrev pub byte_at : ℕ → List ℕ → Result (List ℕ) ℕ
byte_at b text = or_stop (length text) (strip_at b text)

abbrev pub rest_of : Option (Bor (List ℕ)) → Option (List ℕ)
rest_of None = None
rest_of (Some rest) = Some rest.now

abbrev pub begins_with : ℕ → List ℕ → Bool
begins_with b [] = false
begins_with b (c ∷ rest) = c == b

abbrev pub skip_spaces : List ℕ → List ℕ
skip_spaces text = (take_while_at classes.Space text).1

abbrev pub trim_end : List ℕ → List ℕ
trim_end text = take (length text - suffix_len is_space text) text
