-- The cookie of a request (RFC 6265 §4.2.1).
use Rattle.std.specs.Prelude.{ℕ, Bool, ◌&&◌, ◌==◌, nat_lt, length, suc, List, [], ◌∷◌, codes, Option, Some, None, option_map, if◌then◌else◌}
use Rattle.std.specs.List.{after_first, before_first, flat_map, position_or_len, slice_split}
use Rattle.std.specs.Str.{bytes_eq}
use Rattle.std.specs.Str.Lossy.{utf8_lossy}
use Rattle.header_words.specs.Value.{trimmed}

-- the pieces of a field's value
abbrev pub pieces_of : List ℕ → List (List ℕ)
pieces_of value = slice_split (λ b. b == 59) value

-- the pieces of what comes after a piece
abbrev pub pieces_after : Option (List ℕ) → List (List ℕ)
pieces_after None = []
pieces_after (Some rest) = pieces_of rest

abbrev pub is_cookie_name : List ℕ → Bool
is_cookie_name name = bytes_eq (trimmed name) (codes "wm")

abbrev pub is_equals_sign : ℕ → Bool
is_equals_sign b = b == 61

-- the value of a piece that is a name, `=` and a value, if the name is the cookie's
abbrev pub cookie_value : List ℕ → Option (List ℕ)
cookie_value piece =
    if nat_lt (position_or_len is_equals_sign piece) (length piece) && is_cookie_name (before_first is_equals_sign piece) then Some (trimmed (after_first is_equals_sign piece)) else None

abbrev pub or_else : Option (List ℕ) → Option (List ℕ) → Option (List ℕ)
or_else None other = other
or_else (Some value) other = Some value

-- the value of the first piece that is the cookie
abbrev pub first_cookie : List (List ℕ) → Option (List ℕ)
first_cookie [] = None
first_cookie (piece ∷ pieces) = or_else (cookie_value piece) (first_cookie pieces)

-- the cookie that the values of the Cookie fields have, as a text
abbrev pub cookie_of : List (List ℕ) → Option (List ℕ)
cookie_of values = option_map utf8_lossy (first_cookie (flat_map pieces_of values))

-- how much is left to read
abbrev pub rest_len : Option (List ℕ) → ℕ
rest_len None = 0
rest_len (Some rest) = suc (length rest)
