-- The values that the attributes of a message may have.
use Rattle.std.specs.Prelude.{ℕ, zero, suc, Bool, true, false, not, ◌&&◌, ◌||◌, ◌==◌, nat_le, if◌then◌else◌, Option, Some, None, List, [], ◌∷◌, length, codes}
use Rattle.std.specs.List.{list_all}
use Rattle.html_syntax.specs.Characters.{null, space, hyphen, number_sign, is_between, is_digit, is_letter}
use Rattle.html_syntax.specs.References.{begins_with}
use Rattle.style_wash.specs.Declarations.{is_style}
use Rattle.html_rules.specs.Tables.{Name, kind_of}
use Rattle.html_rules.specs.declared.ValueKind.{ValueKind}
use Rattle.html_rules.specs.declared.ValueKind.TheVariants.{Number, Word, Flag, Text, Link, Source, Style}

-- ---- numbers and words

abbrev pub percent_sign : ℕ
percent_sign = 0x25

abbrev pub plus_sign : ℕ
plus_sign = 0x2B

abbrev pub is_empty : List ℕ → Bool
is_empty [] = true
is_empty (c ∷ cs) = false

-- at most `n` digits, and an optional `%`
abbrev pub has_at_most_digits : ℕ → List ℕ → Bool
has_at_most_digits n [] = true
has_at_most_digits zero (c ∷ cs) = c == percent_sign && is_empty cs
has_at_most_digits (suc n) (c ∷ cs) = (is_digit c && has_at_most_digits n cs) || (c == percent_sign && is_empty cs)

-- 1 to 5 digits, and an optional `%`
abbrev pub is_digits_percent : List ℕ → Bool
is_digits_percent [] = false
is_digits_percent (c ∷ cs) = is_digit c && has_at_most_digits 4 cs

-- an optional `+` or `-`, 1 to 5 digits, an optional `%`
unfoldable pub is_number : List ℕ → Bool
is_number [] = false
is_number (c ∷ cs) = if c == plus_sign || c == hyphen then is_digits_percent cs else is_digits_percent (c ∷ cs)

abbrev pub is_word_char : ℕ → Bool
is_word_char c = is_letter c || is_digit c || c == hyphen || c == number_sign

-- 1 to 32 ASCII letters, digits, `-` and `#`
unfoldable pub is_word : List ℕ → Bool
is_word cs = nat_le 1 (length cs) && nat_le (length cs) 32 && list_all is_word_char cs

-- ---- addresses

-- neither a space nor a control (U+0000 to U+001F and U+007F to U+009F)
abbrev pub is_address_char : ℕ → Bool
is_address_char c = not (is_between null space c || is_between 0x7F 0x9F c)

-- an address of the web
unfoldable pub is_remote : List ℕ → Bool
is_remote value = (begins_with (codes "http://") value || begins_with (codes "https://") value) && list_all is_address_char value

-- an address to which a click may lead
unfoldable pub is_link : List ℕ → Bool
is_link value = is_remote value || (begins_with (codes "mailto:") value && list_all is_address_char value)

-- an address from which a picture may be loaded: one of the site's own or, if requested, a remote one
unfoldable pub is_source : Bool → (List ℕ → Bool) → List ℕ → Bool
is_source images own value = own value || (images && is_remote value)

-- ---- kinds

-- a value of the kind; that of a style is one or more declarations in their written form
unfoldable pub is_value_of : Bool → (List ℕ → Bool) → ValueKind → List ℕ → Bool
is_value_of images own Number value = is_number value
is_value_of images own Word value = is_word value
is_value_of images own Flag value = is_empty value
is_value_of images own Text value = true
is_value_of images own Link value = is_link value
is_value_of images own Source value = is_source images own value
is_value_of images own Style value = is_style value && not (is_empty value)

abbrev pub is_value_of_kind : Bool → (List ℕ → Bool) → Option ValueKind → List ℕ → Bool
is_value_of_kind images own None value = false
is_value_of_kind images own (Some kind) value = is_value_of images own kind value

-- a value of the attribute's kind
unfoldable pub is_value_of_attribute : Bool → (List ℕ → Bool) → Name → List ℕ → Bool
is_value_of_attribute images own name value = is_value_of_kind images own (kind_of name) value
