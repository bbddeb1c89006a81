-- What a FETCH response tells (RFC 9051 §7.5.2).
use Rattle.std.specs.Prelude.{◌≡◌, ℕ, if◌then◌else◌, List, [], length, Option, Some, None, Result, Ok, Err}
use Rattle.std.specs.List.{fold}
use Rattle.imap_grammar.specs.ItemData.{ItemData, Uid, Flags, Modseq, Internal, Size, Header, Body, OtherItem}
use Rattle.mailbox_rows.specs.declared.row.Row.{Row}
use Rattle.mailbox_rows.specs.declared.row.Fields.{Fields}
use Rattle.mailbox_rows.specs.declared.fault.ViewFault.{ViewFault}
use Rattle.mailbox_rows.specs.declared.fault.ViewFault.TheVariants.{TooMany, Memory}
use Rattle.mailbox_rows.specs.Rows.{Rows, row_of, with_row, with_change, header_total}
use Rattle.mailbox_rows.specs.Mailboxes.{MailboxState, with_rows, emptied, is_too_many}

abbrev pub no_fields : Fields
no_fields = record { uid = None; flags = None; modseq = None; internal = None; size = None; header = None }

-- a header that is NIL is an empty one
abbrev pub header_text : Option (List ℕ) → List ℕ
header_text None = []
header_text (Some text) = text

abbrev pub with_item : Fields → ItemData → Fields
with_item fields (Uid uid) = record { uid = Some uid; flags = fields.flags; modseq = fields.modseq; internal = fields.internal; size = fields.size; header = fields.header }
with_item fields (Flags flags) = record { uid = fields.uid; flags = Some flags; modseq = fields.modseq; internal = fields.internal; size = fields.size; header = fields.header }
with_item fields (Modseq modseq) = record { uid = fields.uid; flags = fields.flags; modseq = Some modseq; internal = fields.internal; size = fields.size; header = fields.header }
with_item fields (Internal moment) = record { uid = fields.uid; flags = fields.flags; modseq = fields.modseq; internal = Some moment; size = fields.size; header = fields.header }
with_item fields (Size size) = record { uid = fields.uid; flags = fields.flags; modseq = fields.modseq; internal = fields.internal; size = Some size; header = fields.header }
with_item fields (Header text) = record { uid = fields.uid; flags = fields.flags; modseq = fields.modseq; internal = fields.internal; size = fields.size; header = Some (header_text text) }
with_item fields (Body text) = fields
with_item fields OtherItem = fields

-- the items of a response, the last of each name
abbrev pub fields_of : List ItemData → Fields
fields_of items = fold with_item no_fields items

-- all that a row has makes or replaces one. A folder that would have too many keeps none.
abbrev pub with_whole : Row → ℕ → MailboxState → MailboxState
with_whole row uid box = if is_too_many (with_row uid row box.rows) then emptied box else with_rows box (with_row uid row box.rows)

-- less changes the row that is kept
abbrev pub with_told : Option Row → ℕ → Fields → MailboxState → MailboxState
with_told None uid fields box = with_rows box (with_change uid fields box.rows)
with_told (Some row) uid fields box = with_whole row uid box

abbrev pub with_fetch : ℕ → Fields → MailboxState → MailboxState
with_fetch uid fields box = with_told (row_of fields) uid fields box

-- the numbers of rows and header bytes that would be too many
abbrev pub excess_of_rows : Rows → Option (ℕ × ℕ)
excess_of_rows rows = if is_too_many rows then Some (length rows, header_total rows) else None

abbrev pub excess_told : Option Row → ℕ → MailboxState → Option (ℕ × ℕ)
excess_told None uid box = None
excess_told (Some row) uid box = excess_of_rows (with_row uid row box.rows)

abbrev pub excess_of : ℕ → Fields → MailboxState → Option (ℕ × ℕ)
excess_of uid fields box = excess_told (row_of fields) uid box

-- a FETCH of one message is applied to its folder
abbrev pub AppliesFetch : MailboxState → ℕ → Fields → Result Unit ViewFault → MailboxState → Type 0
AppliesFetch old uid fields (Ok u) new = (excess_of uid fields old ≡ None) × (new ≡ with_fetch uid fields old)
AppliesFetch old uid fields (Err (TooMany count bytes)) new = (excess_of uid fields old ≡ Some (count, bytes)) × (new ≡ with_fetch uid fields old)
AppliesFetch old uid fields (Err Memory) new = new ≡ old
