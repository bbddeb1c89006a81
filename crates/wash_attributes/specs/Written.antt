-- Texts that are written, if any, and how numbers go on.
use Rattle.std.specs.Prelude.{ℕ, Bool, true, false, ◌&&◌, ◌==◌, List, [], ◌∷◌, Option, option_map, chars, string_bytes, String}
use Rattle.html_syntax.specs.Characters.{is_digit}
use Rattle.html_rules.specs.Values.{percent_sign, is_empty}

-- the characters of a text, if there is one
abbrev pub text_in : {Z : Type 0} → Option (String Z) → Option (List ℕ)
text_in written = option_map (λ text. chars (string_bytes text)) written

abbrev pub begins_with_digit : List ℕ → Bool
begins_with_digit [] = false
begins_with_digit (c ∷ cs) = is_digit c

-- nothing, or a `%` alone
abbrev pub ends_number : List ℕ → Bool
ends_number [] = true
ends_number (c ∷ cs) = c == percent_sign && is_empty cs
