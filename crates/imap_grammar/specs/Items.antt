-- The items of a FETCH (RFC 9051 §7.5.2, RFC 7162 §3.1.4.2).
use Rattle.std.specs.Prelude.{ℕ, zero, suc, ◌+◌, Bool, true, false, not, ◌||◌, ◌==◌, if◌then◌else◌, List, [], ◌∷◌, length, take, drop, codes, Option, Some, None}
use Rattle.imap_commands.specs.Bytes.{space, left_parenthesis, right_parenthesis, left_bracket, right_bracket}
use Rattle.imap_grammar.specs.declared.fetch.ItemName.{ItemName}
use Rattle.imap_grammar.specs.declared.fetch.ItemName.TheVariants as names
use Rattle.imap_grammar.specs.ItemData.{ItemData, Uid, Flags, Modseq, Internal, Size, Header, Body, OtherItem}
use Rattle.imap_values.specs.Words.{◌>>=◌, eq_ignore_case, starts_with_ignore_case, byte_at, number_at, positive_at, word_list_at, is_line_end}
use Rattle.imap_values.specs.Strings.{string_at, nstring_at}
use Rattle.imap_values.specs.Values.{value_end_at}
use Rattle.imap_values.specs.Dates.{moment_of}

-- ---- names: the bytes before the next space that is not between [ and ]

abbrev pub name_len : Bool → List ℕ → ℕ
name_len bracketed [] = 0
name_len true (c ∷ bytes) = 1 + name_len (not (c == right_bracket)) bytes
name_len false (c ∷ bytes) = if c == space || is_line_end c then 0 else 1 + name_len (c == left_bracket) bytes

-- a name has at least one byte
abbrev pub name_at : List ℕ → Option (List ℕ × List ℕ)
name_at bytes = let n = name_len false bytes in if n == 0 then None else Some (take n bytes, drop n bytes)

unfoldable pub item_name_of : List ℕ → ItemName
item_name_of name =
    if eq_ignore_case (codes "uid") name then names.Uid
    else (if eq_ignore_case (codes "flags") name then names.Flags
    else (if eq_ignore_case (codes "modseq") name then names.Modseq
    else (if eq_ignore_case (codes "internaldate") name then names.Internaldate
    else (if eq_ignore_case (codes "rfc822.size") name then names.Size
    else (if starts_with_ignore_case (codes "body[header") name then names.Header
    else (if starts_with_ignore_case (codes "body[") name then names.Body
    else names.Other))))))

-- ---- values

abbrev pub uid_at : List ℕ → Option (ItemData × List ℕ)
uid_at bytes = positive_at 4294967295 bytes >>= λ n. Some (Uid n.0, n.1)

abbrev pub flags_at : List ℕ → Option (ItemData × List ℕ)
flags_at bytes = do
  rest ← byte_at left_parenthesis bytes
  words ← word_list_at rest
  Some (Flags words.0, words.1)

abbrev pub header_at : List ℕ → Option (ItemData × List ℕ)
header_at bytes = nstring_at bytes >>= λ text. Some (Header text.0, text.1)

abbrev pub body_at : List ℕ → Option (ItemData × List ℕ)
body_at bytes = nstring_at bytes >>= λ text. Some (Body text.0, text.1)

abbrev pub other_at : List ℕ → Option (ItemData × List ℕ)
other_at bytes = value_end_at bytes >>= λ rest. Some (OtherItem, rest)

-- a MODSEQ, in parentheses
abbrev pub modseq_at : List ℕ → Option (ItemData × List ℕ)
modseq_at bytes = do
  inner ← byte_at left_parenthesis bytes
  n ← positive_at 9223372036854775807 inner
  rest ← byte_at right_parenthesis n.1
  Some (Modseq n.0, rest)

abbrev pub internal_at : List ℕ → Option (ItemData × List ℕ)
internal_at bytes = string_at bytes >>= λ text. Some (Internal (moment_of text.0), text.1)

abbrev pub size_at : List ℕ → Option (ItemData × List ℕ)
size_at bytes = number_at 9223372036854775807 bytes >>= λ n. Some (Size n.0, n.1)

abbrev pub item_value_at : ItemName → List ℕ → Option (ItemData × List ℕ)
item_value_at names.Uid bytes = uid_at bytes
item_value_at names.Flags bytes = flags_at bytes
item_value_at names.Modseq bytes = modseq_at bytes
item_value_at names.Internaldate bytes = internal_at bytes
item_value_at names.Size bytes = size_at bytes
item_value_at names.Header bytes = header_at bytes
item_value_at names.Body bytes = body_at bytes
item_value_at names.Other bytes = other_at bytes

-- ---- items

-- an item: a name, a space and a value
unfoldable pub item_at : List ℕ → Option (ItemData × List ℕ)
item_at bytes = do
  name ← name_at bytes
  value ← byte_at space name.1
  item_value_at (item_name_of name.0) value

-- after an item: the ) that ends the list, or the space before the next item
abbrev pub item_end_at : List ℕ → Option (Bool × List ℕ)
item_end_at [] = None
item_end_at (c ∷ rest) = if c == right_parenthesis then Some (true, rest) else (if c == space then Some (false, rest) else None)

abbrev pub prepend_item : ItemData → Option (List ItemData × List ℕ) → Option (List ItemData × List ℕ)
prepend_item t None = None
prepend_item t (Some x) = Some (t ∷ x.0, x.1)

abbrev pub continue_items : ItemData → Bool → List ℕ → Option (List ItemData × List ℕ) → Option (List ItemData × List ℕ)
continue_items t true rest more = Some (t ∷ [], rest)
continue_items t false rest more = prepend_item t more

-- at most n items with a space between each two, and the ) after the last
unfoldable pub items_at : ℕ → List ℕ → Option (List ItemData × List ℕ)
items_at zero bytes = None
items_at (suc n) bytes = item_at bytes >>= λ i. item_end_at i.1 >>= λ a. continue_items i.0 a.0 a.1 (items_at n a.1)

-- a parenthesized list of items, after its (; it may be empty
unfoldable pub item_list_at : List ℕ → Option (List ItemData × List ℕ)
item_list_at [] = None
item_list_at (c ∷ bytes) = if c == right_parenthesis then Some ([], bytes) else items_at (length (c ∷ bytes)) (c ∷ bytes)
