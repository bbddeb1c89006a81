-- The response in one whole unit of a server's stream (RFC 9051 §7, RFC 7162, RFC 4731).
use Rattle.std.specs.Prelude.{◌≡◌, ℕ, ◌-◌, Bool, true, false, ◌&&◌, ◌==◌, if◌then◌else◌, List, [], ◌∷◌, length, take, drop, codes, Option, Some, None, Result, Ok, Err}
use Rattle.imap_commands.specs.Bytes.{space, quotation_mark, left_parenthesis, asterisk, plus_sign}
use Rattle.imap_grammar.specs.declared.response.Word.{Word}
use Rattle.imap_grammar.specs.declared.response.Word.TheVariants as words
use Rattle.imap_grammar.specs.declared.response.Code.{Code}
use Rattle.imap_grammar.specs.declared.response.Response.{Response}
use Rattle.imap_grammar.specs.declared.response.Response.TheVariants as responses
use Rattle.imap_grammar.specs.declared.untagged.UntaggedKind.{UntaggedKind}
use Rattle.imap_grammar.specs.declared.untagged.UntaggedKind.TheVariants as kinds
use Rattle.imap_grammar.specs.declared.untagged.CountKind.{CountKind}
use Rattle.imap_grammar.specs.declared.untagged.CountKind.TheVariants as counts
use Rattle.imap_values.specs.declared.words.Class.TheVariants as classes
use Rattle.imap_values.specs.Words.{◌>>=◌, eq_ignore_case, starts_with_ignore_case, take_while_at, all_in_class, take_while1_at, byte_at, end_at, number_at, words_of, word_list_at, text_after_word_at}
use Rattle.imap_values.specs.Strings.{quoted_raw_at, string_at, begins_string, is_nil}
use Rattle.imap_grammar.specs.ItemData.{ItemData}
use Rattle.imap_values.specs.Lents.{bytes_of}
use Rattle.imap_grammar.specs.Codes.{skip_space, code_and_text}
use Rattle.imap_grammar.specs.Items.{item_list_at}
use Rattle.imap_values.specs.Sets.{membership, membership_or_none, uid_set_at}
use Rattle.imap_grammar.specs.Searches.{search_of}

-- the data of a response, wherever its bytes are in memory
pub data ResponseData : Type 0 where
  Continue : List ℕ → ResponseData
  Tagged : List ℕ → Word → Option Code → List ℕ → ResponseData
  State : Word → Option Code → List ℕ → ResponseData
  Capability : List (List ℕ) → ResponseData
  Enabled : List (List ℕ) → ResponseData
  Mailbox : List (List ℕ) → List ℕ → ResponseData
  Exists : ℕ → ResponseData
  Expunge : ℕ → ResponseData
  Fetch : ℕ → List ItemData → ResponseData
  -- a set is its membership test
  Vanished : Bool → (ℕ → Bool) → ResponseData
  Esearch : List ℕ → Option (ℕ → Bool) → ResponseData
  Other : ResponseData

abbrev pub data_of : Response → ResponseData
data_of (responses.Continue text) = Continue text.now
data_of (responses.Tagged tag word code text) = Tagged tag.now word code text.now
data_of (responses.State word code text) = State word code text.now
data_of (responses.Capability words) = Capability words
data_of (responses.Enabled words) = Enabled words
data_of (responses.List attributes name) = Mailbox attributes (bytes_of name)
data_of (responses.Exists n) = Exists n
data_of (responses.Expunge n) = Expunge n
data_of (responses.Fetch n items) = Fetch n items
data_of (responses.Vanished earlier set) = Vanished earlier (membership set)
data_of (responses.Esearch tag set) = Esearch (bytes_of tag) (membership_or_none set)
data_of responses.Other = Other

-- the result of `read_response` is what the definition reads
abbrev pub ReadsResponse : {E : Type 0} → Result (Option Response) E → Option ResponseData → Type 0
ReadsResponse (Ok (Some response)) read = read ≡ Some (data_of response)
ReadsResponse (Ok None) read = read ≡ None
ReadsResponse (Err e) read = Unit {0}

-- ---- status responses, tagged or not

unfoldable pub state_word_of : List ℕ → Option Word
state_word_of word =
    if eq_ignore_case (codes "ok") word then Some words.Ok
    else (if eq_ignore_case (codes "no") word then Some words.No
    else (if eq_ignore_case (codes "bad") word then Some words.Bad
    else (if eq_ignore_case (codes "bye") word then Some words.Bye
    else (if eq_ignore_case (codes "preauth") word then Some words.Preauth
    else None))))

abbrev pub ends_command : Word → Bool
ends_command words.Ok = true
ends_command words.No = true
ends_command words.Bad = true
ends_command word = false

unfoldable pub tagged_response_of : List ℕ → Option ResponseData
tagged_response_of bytes = do
  tag ← take_while1_at classes.Tag bytes
  rest ← byte_at space tag.1
  let word = take_while_at classes.Word rest
  state ← state_word_of word.0
  text ← text_after_word_at word.1
  if ends_command state then (let c = code_and_text text in Some (Tagged tag.0 state c.0 c.1)) else None

-- ---- untagged

unfoldable pub state_response_of : Word → List ℕ → Option ResponseData
state_response_of word rest = text_after_word_at rest >>= λ text. let c = code_and_text text in Some (State word c.0 c.1)

unfoldable pub count_kind_of : List ℕ → CountKind
count_kind_of word =
    if eq_ignore_case (codes "exists") word then counts.Exists
    else (if eq_ignore_case (codes "expunge") word then counts.Expunge
    else (if eq_ignore_case (codes "fetch") word then counts.Fetch
    else counts.Other))

abbrev pub fetch_of : ℕ → List ℕ → Option ResponseData
fetch_of n rest = do
  list ← byte_at space rest
  inner ← byte_at left_parenthesis list
  items ← item_list_at inner
  u ← end_at items.1
  Some (Fetch n items.0)

abbrev pub count_response_of : CountKind → ℕ → List ℕ → Option ResponseData
count_response_of counts.Exists n rest = end_at rest >>= λ u. Some (Exists n)
count_response_of counts.Expunge n rest = end_at rest >>= λ u. Some (Expunge n)
count_response_of counts.Fetch n rest = fetch_of n rest
count_response_of counts.Other n rest = Some Other

-- a number, a space and a word
unfoldable pub number_response_of : List ℕ → List ℕ → Option ResponseData
number_response_of digits bytes = do
  n ← number_at 4294967295 digits
  rest ← byte_at space bytes
  word ← take_while1_at classes.Word rest
  count_response_of (count_kind_of word.0) n.0 word.1

unfoldable pub untagged_kind_of : List ℕ → UntaggedKind
untagged_kind_of word =
    if eq_ignore_case (codes "capability") word then kinds.Capability
    else (if eq_ignore_case (codes "enabled") word then kinds.Enabled
    else (if eq_ignore_case (codes "list") word then kinds.List
    else (if eq_ignore_case (codes "vanished") word then kinds.Vanished
    else (if eq_ignore_case (codes "esearch") word then kinds.Esearch
    else kinds.Other))))

unfoldable pub line_words_of : List ℕ → Option (List (List ℕ))
line_words_of rest = text_after_word_at rest >>= λ text. if all_in_class classes.Line text then Some (words_of text) else None

-- the hierarchy separator, NIL or a quoted string: the rest after it
unfoldable pub separator_at : List ℕ → Option (List ℕ)
separator_at bytes = if is_nil bytes then Some (drop 3 bytes) else (byte_at quotation_mark bytes >>= λ text. quoted_raw_at text >>= λ x. Some x.1)

-- the name of a mailbox: a string, or the bytes up to a space
unfoldable pub mailbox_at : List ℕ → Option (List ℕ × List ℕ)
mailbox_at bytes = if begins_string bytes then string_at bytes else take_while1_at classes.Word bytes

-- the attributes of a mailbox, in parentheses
unfoldable pub attributes_at : List ℕ → Option (List (List ℕ) × List ℕ)
attributes_at rest = do
  list ← byte_at space rest
  inner ← byte_at left_parenthesis list
  word_list_at inner

-- a mailbox; extended data may follow it after a space (RFC 9051 §7.3.1)
unfoldable pub list_of : List ℕ → Option ResponseData
list_of rest = do
  attributes ← attributes_at rest
  separator ← byte_at space attributes.1
  after ← separator_at separator
  text ← byte_at space after
  name ← mailbox_at text
  more ← text_after_word_at name.1
  Some (Mailbox attributes.0 name.0)

-- whether VANISHED has (EARLIER), and the rest
unfoldable pub earlier_at : List ℕ → Bool × List ℕ
earlier_at bytes = if starts_with_ignore_case (codes "(earlier) ") bytes then (true, drop 10 bytes) else (false, bytes)

-- expunged UIDs (RFC 7162 §3.2.10)
unfoldable pub vanished_of : List ℕ → Option ResponseData
vanished_of rest = do
  uids ← byte_at space rest
  let e = earlier_at uids
  set ← uid_set_at e.1
  u ← end_at set.1
  Some (Vanished e.0 set.0)

abbrev pub esearch_of : List ℕ → Option ResponseData
esearch_of rest = search_of rest >>= λ s. Some (Esearch s.0 s.1)

abbrev pub word_response_of : UntaggedKind → List ℕ → Option ResponseData
word_response_of kinds.Capability rest = line_words_of rest >>= λ words. Some (Capability words)
word_response_of kinds.Enabled rest = line_words_of rest >>= λ words. Some (Enabled words)
word_response_of kinds.List rest = list_of rest
word_response_of kinds.Vanished rest = vanished_of rest
word_response_of kinds.Esearch rest = esearch_of rest
word_response_of kinds.Other rest = Some Other

abbrev pub state_or_word_response : Option Word → List ℕ → List ℕ → Option ResponseData
state_or_word_response (Some state) word rest = state_response_of state rest
state_or_word_response None word rest = word_response_of (untagged_kind_of word) rest

unfoldable pub untagged_response_of : List ℕ → Option ResponseData
untagged_response_of bytes = take_while1_at classes.Word bytes >>= λ w. if all_in_class classes.Digit w.0 then number_response_of w.0 w.1 else state_or_word_response (state_word_of w.0) w.0 w.1

-- ---- whole units

unfoldable pub line_of : List ℕ → Option ResponseData
line_of [] = None
line_of (c ∷ []) = if c == plus_sign then Some (Continue []) else tagged_response_of (c ∷ [])
line_of (c ∷ d ∷ rest) = if c == plus_sign then Some (Continue (skip_space (d ∷ rest))) else (if c == asterisk && d == space then untagged_response_of rest else tagged_response_of (c ∷ d ∷ rest))

-- a unit is read without its last CR LF
unfoldable pub response_of : List ℕ → Option ResponseData
response_of unit = line_of (take (length unit - 2) unit)
