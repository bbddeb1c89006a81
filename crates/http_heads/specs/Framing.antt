-- The length of a request's body (RFC 9112 §6).
use Rattle.std.specs.Prelude.{ℕ, Bool, true, false, ◌&&◌, nat_lt, nat_le, List, [], ◌∷◌, length, map, filter, codes, Result, Ok, Err, if◌then◌else◌}
use Rattle.std.specs.Char.{is_ascii_digit}
use Rattle.std.specs.List.{list_all}
use Rattle.std.specs.Str.{str_eq_ignore_ascii_case}
use Rattle.std.specs.Str.Parse.{digits_value}
use Rattle.http_heads.specs.declared.framing.Found as found
use Rattle.http_heads.specs.declared.framing.Found.TheVariants as variant
use Rattle.http_heads.specs.declared.framing.HeadFault.{HeadFault}
use Rattle.http_heads.specs.declared.framing.HeadFault.TheVariants.{TooLarge, Coding, Length, Body}

-- the values of a name, in order; names ignore the case of ASCII letters
abbrev pub values_of : List ℕ → List (List ℕ × List ℕ) → List (List ℕ)
values_of name fields = map (λ (field : List ℕ × List ℕ). field.1) (filter (λ (field : List ℕ × List ℕ). str_eq_ignore_ascii_case field.0 name) fields)

-- how often a field occurs, and its value if it occurs once
pub data Occurs : Type 0 where
  never : Occurs
  once : List ℕ → Occurs
  twice : Occurs

abbrev pub occurs : List (List ℕ) → Occurs
occurs [] = never
occurs (value ∷ []) = once value
occurs (value ∷ another ∷ more) = twice

abbrev pub occurs_in : List ℕ → List (List ℕ × List ℕ) → Occurs
occurs_in name fields = occurs (values_of name fields)

abbrev pub occurs_again : List ℕ → Occurs → Occurs
occurs_again value never = once value
occurs_again value (once other) = twice
occurs_again value twice = twice

-- how often a name occurs, if it has occurred before and a field follows
abbrev pub occurs_with : Occurs → List ℕ → List ℕ × List ℕ → Occurs
occurs_with before name field = if str_eq_ignore_ascii_case field.0 name then occurs_again field.1 before else before

abbrev pub is_found : Occurs → Bool
is_found never = false
is_found (once value) = true
is_found twice = true

abbrev pub found_seen : found.Found → Occurs
found_seen variant.Never = never
found_seen (variant.Once value) = once value.now
found_seen variant.Twice = twice

-- 1 to 18 decimal digits
abbrev pub is_length : List ℕ → Bool
is_length text = nat_lt 0 (length text) && nat_le (length text) 18 && list_all is_ascii_digit text

unfoldable pub length_of : List ℕ → Result ℕ HeadFault
length_of text = if is_length text then Ok (digits_value 10 text) else Err Length

-- the length that Content-Length tells, 0 if it is missing
abbrev pub content_length : Occurs → Result ℕ HeadFault
content_length never = Ok 0
content_length (once value) = length_of value
content_length twice = Err Length

-- the most bytes of a body
abbrev pub body_limit : ℕ
body_limit = 1048576

abbrev pub within_limit : Result ℕ HeadFault → Result ℕ HeadFault
within_limit (Ok n) = if nat_lt body_limit n then Err (Body n) else Ok n
within_limit (Err fault) = Err fault

-- the most fields of a head
abbrev pub field_limit : ℕ
field_limit = 64

-- the length of the body, or the first fault of the head
unfoldable pub body_len : List (List ℕ × List ℕ) → Result ℕ HeadFault
body_len fields =
    if nat_lt field_limit (length fields) then Err TooLarge else (
    if is_found (occurs_in (codes "Transfer-Encoding") fields) then Err Coding else
    within_limit (content_length (occurs_in (codes "Content-Length") fields)))
