-- Base64 (RFC 4648 §4) as mail reads it (RFC 2045 §6.8).
use Rattle.std.specs.Prelude.{◌≡◌, ℕ, ◌+◌, ◌*◌, ◌/◌, ◌%◌, ◌<◌, ◌≤◌, ◌==◌, Bool, List, [], ◌∷◌, ◌++◌, length, take, drop, codes, Option}
use Rattle.std.specs.List.{position, filter_map, flat_map, before_first, range_with_len}
use Rattle.base64.specs.Engines.{standard}
use Rattle.base64.specs.GeneralPurpose.{encode_of}

-- the characters, in the order of their values
abbrev pub alphabet : List ℕ
alphabet = codes "ABCDEFGHIJKLMNOPQRSTUVWXYZabcdefghijklmnopqrstuvwxyz0123456789+/"

-- the six bits of a character: its place in the alphabet
unfoldable pub sextet_of : ℕ → Option ℕ
sextet_of character = position (λ letter. letter == character) alphabet

-- the sextets of a text; other characters are skipped
abbrev pub sextets : List ℕ → List ℕ
sextets text = filter_map sextet_of text

-- the bytes of a list of sextets: four give three bytes, and at the end three give two and two give one. Bits that are left over,
-- and a single sextet that is left over, give none
unfoldable pub bytes_of : List ℕ → List ℕ
bytes_of [] = []
bytes_of (a ∷ []) = []
bytes_of (a ∷ b ∷ []) = (a * 4 + b / 16) ∷ []
bytes_of (a ∷ b ∷ c ∷ []) = (a * 4 + b / 16) ∷ (b % 16 * 16 + c / 4) ∷ []
bytes_of (a ∷ b ∷ c ∷ d ∷ more) =
    (a * 4 + b / 16) ∷ (b % 16 * 16 + c / 4) ∷ (c % 4 * 64 + d) ∷ bytes_of more

-- the character `=`
abbrev pub is_equals : ℕ → Bool
is_equals character = character == 61

-- the bytes of a base64 text: those of the sextets before the first `=`
abbrev pub base64_bytes : List ℕ → List ℕ
base64_bytes text = bytes_of (sextets (before_first is_equals text))

-- a line of the base64 text of bytes: their encoding (RFC 4648 §4), and CR LF
unfoldable pub base64_line : List ℕ → List ℕ
base64_line bytes = encode_of standard bytes ++ 13 ∷ 10 ∷ []

-- the bytes of a line, by its number: 57 of them, or fewer in the last line
abbrev pub line_piece : List ℕ → ℕ → List ℕ
line_piece bytes number = take 57 (drop (57 * number) bytes)

-- `count` lines of the base64 text of bytes, from line `first` on
unfoldable pub base64_lines : List ℕ → ℕ → ℕ → List ℕ
base64_lines bytes first count = flat_map (λ number. base64_line (line_piece bytes number)) (range_with_len first count)

-- the base64 text of bytes, in lines
abbrev pub base64_text : List ℕ → List ℕ
base64_text bytes = base64_lines bytes 0 ((length bytes + 56) / 57)

-- a text has these four sextets first, and then those of the rest, which is at least four characters shorter
pub record HasFour (text : List ℕ) (four : ℕ × ℕ × ℕ × ℕ) (rest : List ℕ) : Type 0 where
  pub sextets_are : sextets text ≡ four.0 ∷ four.1 ∷ four.2 ∷ four.3 ∷ sextets rest
  pub first : four.0 < 64
  pub second : four.1 < 64
  pub third : four.2 < 64
  pub fourth : four.3 < 64
  pub shorter : length rest + 4 ≤ length text
