-- The value of a field as a text.
use Rattle.std.specs.Prelude.{ℕ, ◌-◌, List, [], ◌∷◌, ◌++◌, if◌then◌else◌, length, take, drop}
use Rattle.std.specs.List.{prefix_len, suffix_len, flat_map}
use Rattle.std.specs.Str.Lossy.{utf8_lossy}
use Rattle.header_words.specs.EncodedWords.{with_words_decoded}
use Rattle.header_words.specs.Fields.{is_blank, is_continuation}

-- bytes without the blanks at their front, at their back, at both ends
abbrev pub without_front : List ℕ → List ℕ
without_front xs = drop (prefix_len is_blank xs) xs

abbrev pub without_back : List ℕ → List ℕ
without_back xs = take (length xs - suffix_len is_blank xs) xs

abbrev pub trimmed : List ℕ → List ℕ
trimmed xs = without_back (without_front xs)

-- a line that continues a value: the fold, with the blanks after it, is one space
abbrev pub unfolded_line : List ℕ → List ℕ
unfolded_line line = 32 ∷ without_front line

-- the lines of a value as one
abbrev pub unfolded : List (List ℕ) → List ℕ
unfolded [] = []
unfolded (first ∷ more) = first ++ flat_map unfolded_line more

-- a text with its words decoded, other bytes read as UTF-8
abbrev pub decoded_text : List ℕ → List ℕ
decoded_text text = utf8_lossy (with_words_decoded text)

-- the text of a value: its words decoded, other bytes read as UTF-8, without white space at both ends
unfoldable pub decoded_of : List (List ℕ) → List ℕ
decoded_of lines = utf8_lossy (trimmed (with_words_decoded (unfolded lines)))

-- a value with one more line of its field
abbrev pub unfolded_with : List ℕ → List ℕ → List ℕ
unfolded_with value line = if is_continuation line then value ++ unfolded_line line else value
