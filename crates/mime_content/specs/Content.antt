-- The Content-* fields of a header (RFC 2045 §5 and §6, RFC 2183, RFC 3676 §4, RFC 2557 §4.2).
use Rattle.std.specs.Prelude.{ℕ, ◌+◌, ◌-◌, Bool, false, not, ◌&&◌, List, [], ◌∷◌, length, take, drop, ◌==◌, if◌then◌else◌, nat_lt, nat_eq, Option, Some, None, codes}
use Rattle.std.specs.List.{position_or_len, list_all, list_any, starts_with}
use Rattle.std.specs.Option.{option_map_or, option_or}
use Rattle.std.specs.Str.{str_to_ascii_lowercase, str_eq_ignore_ascii_case}
use Rattle.std.specs.Str.Lossy.{utf8_lossy}
use Rattle.header_words.specs.Fields.{FieldValue, first_of}
use Rattle.header_words.specs.Value.{trimmed, unfolded, decoded_text}
use Rattle.transfer_codings.specs.declared.coding.Coding.{Coding}
use Rattle.transfer_codings.specs.declared.coding.Coding.TheVariants.{Plain, Base64, Quoted}
use Rattle.mime_content.specs.declared.content.Content.{Content}
use Rattle.mime_content.specs.Pieces.{first_piece, parameter}

-- the value of the first field of a name, unfolded; nothing if there is none
abbrev pub value_of_field : Option FieldValue → List ℕ
value_of_field None = []
value_of_field (Some field) = unfolded field.lines

abbrev pub field_value : List ℕ → List FieldValue → List ℕ
field_value name fields = value_of_field (first_of name fields)

abbrev pub is_token_byte : ℕ → Bool
is_token_byte b = nat_lt 32 b && (nat_lt b 127 && not (list_any (λ s. s == b) (codes "()<>@,;:\\\"/[]?=")))

abbrev pub is_token : List ℕ → Bool
is_token xs = not (length xs == 0) && list_all is_token_byte xs

abbrev pub is_slash : ℕ → Bool
is_slash b = b == 47

-- two tokens with `/` between
abbrev pub is_type : List ℕ → Bool
is_type xs = let at = position_or_len is_slash xs in nat_lt at (length xs) && (is_token (take at xs) && is_token (drop (at + 1) xs))

-- a Content-Type without a type that reads counts as missing
abbrev pub readable : List ℕ → List ℕ
readable value = if is_type (first_piece value) then value else []

abbrev pub mime_of : List ℕ → List ℕ → List ℕ
mime_of default kind = if length kind == 0 then default else str_to_ascii_lowercase (first_piece kind)

-- an empty boundary counts as missing
abbrev pub filled : Option (List ℕ) → Option (List ℕ)
filled None = None
filled (Some xs) = if length xs == 0 then None else Some xs

-- the text of a parameter, or a default if it is missing
abbrev pub text_of : Option (List ℕ) → List ℕ → List ℕ
text_of found default = option_map_or utf8_lossy found default

-- the name of a file, with its encoded words decoded, or nothing
abbrev pub name_of : Option (List ℕ) → List ℕ
name_of found = option_map_or decoded_text found []

-- a coding and its name
pub record CodingName : Type 0 where
  pub name : List ℕ
  pub coding : Coding

-- the codings of RFC 2045 §6.1; a missing one is 7bit
abbrev pub coding_names : List CodingName
coding_names =
    record { name = []; coding = Plain }
    ∷ record { name = codes "7bit"; coding = Plain }
    ∷ record { name = codes "8bit"; coding = Plain }
    ∷ record { name = codes "binary"; coding = Plain }
    ∷ record { name = codes "base64"; coding = Base64 }
    ∷ record { name = codes "quoted-printable"; coding = Quoted }
    ∷ []

-- the first row of a name, in either case
abbrev pub coding_in : List CodingName → List ℕ → Option Coding
coding_in [] name = None
coding_in (row ∷ rows) name = if str_eq_ignore_ascii_case name row.name then Some row.coding else coding_in rows name

-- the coding of a Content-Transfer-Encoding, if it is known
abbrev pub coding_named : List ℕ → Option Coding
coding_named name = coding_in coding_names name

abbrev pub is_attachment : List ℕ → Bool
is_attachment disposition = str_eq_ignore_ascii_case (first_piece disposition) (codes "attachment")

-- the bytes between the `<` and `>` of a Content-ID
abbrev pub id_in : List ℕ → Option (List ℕ)
id_in value =
    if nat_lt 1 (length value) && (starts_with nat_eq value (codes "<") && starts_with nat_eq (drop (length value - 1) value) (codes ">"))
    then Some (take (length value - 2) (drop 1 value))
    else None

-- a Content-Location that isn't empty
abbrev pub location_in : List ℕ → Option (List ℕ)
location_in value = if length value == 0 then None else Some (utf8_lossy value)

abbrev pub is_word : List ℕ → Option (List ℕ) → Bool
is_word word found = option_map_or (λ v. str_eq_ignore_ascii_case v word) found false

-- whether DelSp is yes, if the format is flowed
abbrev pub format_of : List ℕ → Option Bool
format_of kind = if is_word (codes "flowed") (parameter (codes "format") kind) then Some (is_word (codes "yes") (parameter (codes "delsp") kind)) else None

-- the fields' values, read; `default` is the type of a part that has none
abbrev pub content_said : List ℕ → List ℕ → List ℕ → List ℕ → List ℕ → List ℕ → Content
content_said default kind disposition coding id location =
    record {
      mime = mime_of default kind;
      boundary = filled (parameter (codes "boundary") kind);
      charset = text_of (parameter (codes "charset") kind) (codes "utf-8");
      coding = coding_named (trimmed coding);
      attached = is_attachment disposition;
      name = name_of (option_or (parameter (codes "filename") disposition) (parameter (codes "name") kind));
      id = id_in (trimmed id);
      location = location_in (trimmed location);
      format = format_of kind;
    }

unfoldable pub content_of : List ℕ → List FieldValue → Content
content_of default fields =
    content_said default (readable (field_value (codes "Content-Type") fields)) (field_value (codes "Content-Disposition") fields)
    (field_value (codes "Content-Transfer-Encoding") fields) (field_value (codes "Content-ID") fields) (field_value (codes "Content-Location") fields)
