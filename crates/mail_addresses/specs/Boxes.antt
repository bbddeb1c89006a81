-- Lists of boxes (RFC 5322 §3.4, mailbox-list, as people write it: any name without the marks of a list may go unquoted).
use Rattle.std.specs.Prelude.{◌≡◌, ℕ, zero, suc, ◌-◌, Bool, false, ◌&&◌, ◌||◌, ◌==◌, if◌then◌else◌, List, [], ◌∷◌, ◌++◌, length, Option, Some, None, Result, Ok, Err}
use Rattle.std.specs.Global.{Vec}
use Rattle.mail_values.specs.Ascii.{quotation_mark, comma, backslash, greater_than_sign}
use Rattle.mail_addresses.specs.declared.Mailbox.{Mailbox}
use Rattle.mail_addresses.specs.declared.reading.AddressFault.{AddressFault}
use Rattle.mail_addresses.specs.declared.reading.AddressFault.TheVariants as faults
use Rattle.mail_addresses.specs.declared.runs.Class.TheVariants as classes
use Rattle.mail_addresses.specs.Runs.{◌>>=◌, at_sign, less_than_sign, is_run, strip_at, take_while_at, run_at, byte_at, begins_with, skip_spaces, trim_end}

-- ---- `local@domain`

-- `@` and a domain of 1 to 255 bytes, after a local part
unfoldable pub domain_at : List ℕ → List ℕ → Result (List ℕ × List ℕ) ℕ
domain_at local text = do
  after ← byte_at at_sign text
  domain ← run_at classes.Domain 255 after
  Ok (local ++ at_sign ∷ domain.0, domain.1)

-- a local part of 1 to 64 bytes, and its domain
unfoldable pub address_at : List ℕ → Result (List ℕ × List ℕ) ℕ
address_at text = run_at classes.Local 64 text >>= λ local. domain_at local.0 local.1

-- whether a text is one `local@domain`: what comes after its local part is `@` and a domain
abbrev pub is_domain_part : Option (List ℕ) → Bool
is_domain_part None = false
is_domain_part (Some domain) = is_run classes.Domain 255 domain

unfoldable pub is_address : List ℕ → Bool
is_address text = let local = take_while_at classes.Local text in is_domain_part (strip_at at_sign local.1) && is_run classes.Local 64 local.0

-- ---- names

abbrev pub prepend : ℕ → Result (List ℕ × List ℕ) ℕ → Result (List ℕ × List ℕ) ℕ
prepend c read = read >>= λ text. Ok (c ∷ text.0, text.1)

-- the text of a quoted string after its opening quote, and what comes after its closing one; `\` is for the byte after it
unfoldable pub quoted_at : List ℕ → Result (List ℕ × List ℕ) ℕ
quoted_at [] = Err 0
quoted_at (c ∷ []) = if c == quotation_mark then Ok ([], []) else Err 0
quoted_at (c ∷ d ∷ text) =
    if c == quotation_mark then Ok ([], d ∷ text)
    else (if c == backslash then prepend d (quoted_at text) else prepend c (quoted_at (d ∷ text)))

-- the length of the quote or `\` that a `\` before it escapes: any other byte is the same without it
abbrev pub escaped_len : List ℕ → ℕ
escaped_len [] = 0
escaped_len (c ∷ text) = if c == quotation_mark || c == backslash then 1 else 0

-- ---- boxes

-- `<local@domain>` after a name
unfoldable pub angle_at : List ℕ → List ℕ → Result (Mailbox × List ℕ) ℕ
angle_at name text = do
  inner ← byte_at less_than_sign text
  address ← address_at inner
  after ← byte_at greater_than_sign address.1
  Ok (record { name = name; address = address.0 }, after)

-- the domain of a box without a name, of which the local part is read
unfoldable pub bare_at : List ℕ → List ℕ → Result (Mailbox × List ℕ) ℕ
bare_at local text =
    if is_run classes.Local 64 local then (domain_at local text >>= λ address. Ok (record { name = []; address = address.0 }, address.1))
    else Err (length text)

-- a box that does not begin with a quote
unfoldable pub unquoted_box_at : List ℕ → Result (Mailbox × List ℕ) ℕ
unquoted_box_at text =
    let name = take_while_at classes.Name text in
    if begins_with at_sign name.1 then bare_at name.0 name.1 else angle_at (trim_end name.0) name.1

-- a box whose name is a quoted string, after its opening quote
unfoldable pub quoted_box_at : List ℕ → Result (Mailbox × List ℕ) ℕ
quoted_box_at text = quoted_at text >>= λ name. angle_at name.0 (skip_spaces name.1)

abbrev pub box_after : List ℕ → Option (List ℕ) → Result (Mailbox × List ℕ) ℕ
box_after text None = unquoted_box_at text
box_after text (Some quoted) = quoted_box_at quoted

unfoldable pub box_at : List ℕ → Result (Mailbox × List ℕ) ℕ
box_at text = box_after text (strip_at quotation_mark text)

-- a box with the spaces around it
unfoldable pub spaced_box_at : List ℕ → Result (Mailbox × List ℕ) ℕ
spaced_box_at text = box_at (skip_spaces text) >>= λ box. Ok (box.0, skip_spaces box.1)

-- ---- lists

abbrev pub prepend_box : Mailbox → Result (List Mailbox) ℕ → Result (List Mailbox) ℕ
prepend_box box read = read >>= λ more. Ok (box ∷ more)

-- after a box the list ends, or a comma and more of it follow
abbrev pub next_at : List ℕ → Result (Option (List ℕ)) ℕ
next_at [] = Ok None
next_at (c ∷ text) = if c == comma then Ok (Some text) else Err (length (c ∷ text))

abbrev pub continue_list : Mailbox → (List ℕ → Result (List Mailbox) ℕ) → Option (List ℕ) → Result (List Mailbox) ℕ
continue_list box more None = Ok (box ∷ [])
continue_list box more (Some text) = prepend_box box (more text)

-- at most n boxes with a comma between each two
unfoldable pub boxes_within : ℕ → List ℕ → Result (List Mailbox) ℕ
boxes_within zero text = Err (length text)
boxes_within (suc n) text = do
  box ← spaced_box_at text
  more ← next_at box.1
  continue_list box.0 (boxes_within n) more

-- the offset of the byte before which a form stopped
abbrev pub with_offset : ℕ → Result (List Mailbox) ℕ → Result (List Mailbox) ℕ
with_offset size (Ok boxes) = Ok boxes
with_offset size (Err left) = Err (size - left)

-- the boxes of a list, which are fewer than its bytes. If it is none, the offset of the first byte after which no list can follow, or the length
unfoldable pub boxes_of : List ℕ → Result (List Mailbox) ℕ
boxes_of text = with_offset (length text) (boxes_within (length text) text)

-- what `mailboxes` returns for it
abbrev pub ListsBoxes : Result (List Mailbox) ℕ → Result (Vec Mailbox) AddressFault → Type 0
ListsBoxes read (Ok boxes) = read ≡ Ok boxes.items
ListsBoxes read (Err (faults.NotAddress at)) = read ≡ Err at
ListsBoxes read (Err faults.Memory) = Unit {0}
