-- Words and numbers at the front of some bytes: what is read, and the rest.
use Rattle.std.specs.Prelude.{◌≡◌, ℕ, ◌+◌, ◌-◌, ◌*◌, Bool, not, ◌&&◌, ◌||◌, ◌==◌, nat_lt, nat_le, if◌then◌else◌, List, [], ◌∷◌, ◌++◌, length, map, take, drop, bytes_eq, Option, Some, None, Result, Ok, Err}
use Rattle.std.specs.List.{fold, prefix_len}
use Rattle.std.specs.Char.{to_ascii_lowercase}
use Rattle.imap_commands.specs.Bytes.{line_feed, carriage_return, space, quotation_mark, percent_sign, left_parenthesis, right_parenthesis, asterisk, plus_sign, backslash, right_bracket, left_brace, is_digit}
use Rattle.imap_values.specs.declared.error.ParseError.{ParseError}
use Rattle.imap_values.specs.declared.error.ParseError.TheVariants as errors
use Rattle.imap_values.specs.declared.words.Class.{Class}
use Rattle.imap_values.specs.declared.words.Class.TheVariants as classes

infixl 10 ◌>>=◌
abbrev pub ◌>>=◌ : {A B : Type 0} → Option A → (A → Option B) → Option B
(Some x) >>= f = f x
None >>= f = None

-- a function's result, seen by `view`, is what the definition reads, unless memory ran out
abbrev pub FailsAs : {Y : Type 0} → ParseError → Option Y → Type 0
FailsAs errors.Memory read = Unit {0}
FailsAs errors.NotInGrammar read = read ≡ None

abbrev pub ParsesAs : {X Y : Type 0} → (X → Y) → Result X ParseError → Option Y → Type 0
ParsesAs view (Ok x) read = read ≡ Some (view x)
ParsesAs view (Err e) read = FailsAs e read

-- equality that ignores the case of ASCII letters
abbrev pub eq_ignore_case : List ℕ → List ℕ → Bool
eq_ignore_case text word = bytes_eq (map to_ascii_lowercase text) (map to_ascii_lowercase word)

abbrev pub starts_with_ignore_case : List ℕ → List ℕ → Bool
starts_with_ignore_case text word = nat_le (length text) (length word) && eq_ignore_case text (take (length text) word)

-- ---- classes of bytes

abbrev pub is_line_end : ℕ → Bool
is_line_end c = c == carriage_return || c == line_feed

-- printable ASCII except ( ) { % * " \ and + (RFC 9051 §9, tag)
abbrev pub is_tag_byte : ℕ → Bool
is_tag_byte c = nat_lt 32 c && nat_lt c 127 && not (c == left_parenthesis || c == right_parenthesis || c == left_brace || c == percent_sign || c == asterisk || c == quotation_mark || c == backslash || c == plus_sign)

-- any byte except the space, ( ) " { and those of a line end
abbrev pub is_atom_byte : ℕ → Bool
is_atom_byte c = not (c == space || c == left_parenthesis || c == right_parenthesis || c == quotation_mark || c == left_brace || is_line_end c)

abbrev pub in_class : Class → ℕ → Bool
in_class classes.Word c = not (c == space || is_line_end c)
in_class classes.Line c = not (is_line_end c)
in_class classes.ListText c = not (c == right_parenthesis || is_line_end c)
in_class classes.Digit c = is_digit c
in_class classes.Tag c = is_tag_byte c
in_class classes.CodeWord c = not (c == space || c == right_bracket)
in_class classes.CodeText c = not (c == right_bracket)
in_class classes.Unescaped c = not (c == backslash)
in_class classes.Atom c = is_atom_byte c

-- the longest prefix of bytes in a class, and the rest
abbrev pub take_while_at : Class → List ℕ → List ℕ × List ℕ
take_while_at class bytes = let n = prefix_len (in_class class) bytes in (take n bytes, drop n bytes)

-- all bytes are in the class
abbrev pub all_in_class : Class → List ℕ → Bool
all_in_class class bytes = length (take_while_at class bytes).1 == 0

-- a prefix of at least one byte
abbrev pub take_while1_at : Class → List ℕ → Option (List ℕ × List ℕ)
take_while1_at class bytes = if prefix_len (in_class class) bytes == 0 then None else Some (take_while_at class bytes)

abbrev pub byte_at : ℕ → List ℕ → Option (List ℕ)
byte_at b [] = None
byte_at b (c ∷ rest) = if c == b then Some rest else None

abbrev pub end_at : List ℕ → Option (Unit {0})
end_at [] = Some tt
end_at (c ∷ rest) = None

-- ---- numbers

-- the number that decimal digits spell
abbrev pub value_of : List ℕ → ℕ
value_of digits = fold (λ n c. n * 10 + (c - 48)) 0 digits

-- a number of at most `most`
unfoldable pub number_at : ℕ → List ℕ → Option (ℕ × List ℕ)
number_at most bytes = do
  run ← take_while1_at classes.Digit bytes
  let n = value_of run.0
  if nat_lt most n then None else Some (n, run.1)

-- a number from 1 to `most`
unfoldable pub positive_at : ℕ → List ℕ → Option (ℕ × List ℕ)
positive_at most bytes = number_at most bytes >>= λ n. if n.0 == 0 then None else Some n

-- ---- words with spaces between them

abbrev pub nonempty_word : List ℕ → List (List ℕ)
nonempty_word [] = []
nonempty_word (c ∷ word) = (c ∷ word) ∷ []

abbrev pub words_from : List ℕ → List ℕ → List (List ℕ)
words_from word [] = nonempty_word word
words_from word (c ∷ text) = if c == space then nonempty_word word ++ words_from [] text else words_from (word ++ c ∷ []) text

-- the non-empty runs of bytes other than the space
abbrev pub words_of : List ℕ → List (List ℕ)
words_of text = words_from [] text

-- the words of a parenthesized list, after its (
unfoldable pub word_list_at : List ℕ → Option (List (List ℕ) × List ℕ)
word_list_at bytes = do
  let text = take_while_at classes.ListText bytes
  rest ← byte_at right_parenthesis text.1
  Some (words_of text.0, rest)

-- ---- the text after a word: none, or a space and the text
abbrev pub text_after_word_at : List ℕ → Option (List ℕ)
text_after_word_at [] = Some []
text_after_word_at (c ∷ text) = if c == space then Some text else None
