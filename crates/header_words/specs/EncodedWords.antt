-- Encoded words in the value of a field (RFC 2047 §2 to §6), found where readers of mail find them.
use Rattle.std.specs.Prelude.{ℕ, zero, suc, Bool, true, false, not, ◌&&◌, ◌||◌, ◌-◌, ◌==◌, nat_eq, nat_lt, nat_le, if◌then◌else◌, List, [], ◌∷◌, ◌++◌, length, take, drop, codes, Option, Some, None, is_some}
use Rattle.std.specs.List.{flat_map, before_first, after_first, prefix_len, starts_with}
use Rattle.transfer_codings.specs.declared.coding.Coding.{Coding}
use Rattle.transfer_codings.specs.declared.coding.Coding.TheVariants.{Plain, Base64, Quoted}
use Rattle.transfer_codings.specs.declared.charset.Charset.{Charset}
use Rattle.transfer_codings.specs.Codings.{decoded}
use Rattle.transfer_codings.specs.Charsets.{charset_named, text_in}
use Rattle.header_words.specs.Fields.{is_blank}

-- ---- a word: `=?charset?coding?text?=`

-- the charset and the coding of a word, its text, and the bytes that follow the word
pub record EncodedWord : Type 0 where
  pub charset : Charset
  pub coding : Coding
  pub text : List ℕ
  pub after : List ℕ

-- the coding of a letter: B or Q, in either case (§4)
abbrev pub coding_of_letter : ℕ → Option Coding
coding_of_letter letter =
    if letter == 66 || letter == 98 then Some Base64
    else if letter == 81 || letter == 113 then Some Quoted
    else None

-- a charset's name without the language that may follow it after a `*` (RFC 2231 §5)
abbrev pub is_star : ℕ → Bool
is_star b = b == 42

abbrev pub without_language : List ℕ → List ℕ
without_language name = before_first is_star name

abbrev pub is_question : ℕ → Bool
is_question b = b == 63

-- printable ASCII other than the space and `?` (§2)
abbrev pub is_printable : ℕ → Bool
is_printable b = nat_le 33 b && (nat_le b 126 && not (is_question b))

-- the characters of a text: printable ones, and in the Q coding spaces and TABs too, which many writers leave as they are
abbrev pub is_text_byte : Coding → ℕ → Bool
is_text_byte Plain b = is_printable b
is_text_byte Base64 b = is_printable b
is_text_byte Quoted b = is_printable b || is_blank b

abbrev pub text_len : Coding → List ℕ → ℕ
text_len coding bytes = prefix_len (is_text_byte coding) bytes

-- a text of at least one character, and `?=` directly after it
abbrev pub ends_word : ℕ → List ℕ → Bool
ends_word len bytes = nat_lt 0 len && starts_with nat_eq (drop len bytes) (codes "?=")

-- the word of a read charset and a read coding whose text comes next
abbrev pub word_with : Option Charset → Option Coding → List ℕ → Option EncodedWord
word_with (Some charset) (Some coding) bytes =
    if ends_word (text_len coding bytes) bytes
    then Some (record { charset = charset; coding = coding; text = take (text_len coding bytes) bytes; after = drop 2 (drop (text_len coding bytes) bytes) })
    else None
word_with (Some charset) None bytes = None
word_with None coding bytes = None

-- the word of a charset's name whose letter, `?` and text come next
abbrev pub word_named : List ℕ → List ℕ → Option EncodedWord
word_named name [] = None
word_named name (letter ∷ []) = None
word_named name (letter ∷ mark ∷ bytes) =
    if is_question mark then word_with (charset_named (without_language name)) (coding_of_letter letter) bytes else None

-- the word that bytes begin with
unfoldable pub word_at : List ℕ → Option EncodedWord
word_at bytes =
    if starts_with nat_eq bytes (codes "=?")
    then word_named (before_first is_question (drop 2 bytes)) (after_first is_question (drop 2 bytes))
    else None

-- in the Q coding `_` is a space (§4.2), blanks are themselves, and all else is quoted-printable
abbrev pub blank_written : ℕ → List ℕ
blank_written b =
    if b == 95 || b == 32 then codes "=20"
    else if b == 9 then codes "=09"
    else b ∷ []

abbrev pub blanks_written : List ℕ → List ℕ
blanks_written text = flat_map blank_written text

abbrev pub word_bytes : Coding → List ℕ → List ℕ
word_bytes Plain text = text
word_bytes Base64 text = decoded Base64 text
word_bytes Quoted text = decoded Quoted (blanks_written text)

-- the text of a word, in UTF-8
unfoldable pub word_text : EncodedWord → List ℕ
word_text word = text_in word.charset (word_bytes word.coding word.text)

-- ---- a value: words and other bytes

pub data Item : Type 0 where
  Word : EncodedWord → Item
  Byte : ℕ → Item

abbrev pub item_at : Option EncodedWord → ℕ → Item
item_at (Some word) b = Word word
item_at None b = Byte b

-- how many bytes of a word come after its first
abbrev pub rest_of_word : Option EncodedWord → List ℕ → ℕ
rest_of_word (Some word) bytes = length bytes - length word.after
rest_of_word None bytes = 0

-- the items of a value, from left to right; `skip` bytes at its front are of a word before
unfoldable pub items_from : ℕ → List ℕ → List Item
items_from skip [] = []
items_from zero (b ∷ bytes) = item_at (word_at (b ∷ bytes)) b ∷ items_from (rest_of_word (word_at (b ∷ bytes)) bytes) bytes
items_from (suc skip) (b ∷ bytes) = items_from skip bytes

abbrev pub items_of : List ℕ → List Item
items_of value = items_from zero value

-- only white space comes before the next word
abbrev pub leads_to_word : List Item → Bool
leads_to_word [] = false
leads_to_word (Word word ∷ more) = true
leads_to_word (Byte b ∷ more) = is_blank b && leads_to_word more

-- the text of an item: white space between two words is dropped (§6.2), other bytes are themselves.
-- `after_word` says that only white space comes between the last word and the item
abbrev pub item_text : Bool → Item → List Item → List ℕ
item_text after_word (Word word) more = word_text word
item_text after_word (Byte b) more = if after_word && (is_blank b && leads_to_word more) then [] else b ∷ []

abbrev pub is_after_word : Bool → Item → Bool
is_after_word after_word (Word word) = true
is_after_word after_word (Byte b) = after_word && is_blank b

unfoldable pub joined : Bool → List Item → List ℕ
joined after_word [] = []
joined after_word (item ∷ more) = item_text after_word item more ++ joined (is_after_word after_word item) more

-- a value with its words decoded
unfoldable pub with_words_decoded : List ℕ → List ℕ
with_words_decoded value = joined false (items_of value)

-- what follows a word, without the white space before another
abbrev pub without_gap : List ℕ → List ℕ
without_gap bytes =
    if is_some (word_at (drop (prefix_len is_blank bytes) bytes)) then drop (prefix_len is_blank bytes) bytes else bytes
