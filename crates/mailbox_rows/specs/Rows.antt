-- The rows of a folder: its messages by UID (RFC 9051 §2.3.1.1), in ascending order.
use Rattle.std.specs.Prelude.{ℕ, ℤ, Bool, not, List, length, Option, Some, None}
use Rattle.std.specs.Ordering.{nat_cmp}
use Rattle.std.specs.List.{filter, sum_by}
use Rattle.std.specs.Map.{values_of, lookup, set_value}
use Rattle.std.specs.Option.{unwrap_or}
use Rattle.std.specs.BTreeMap.{insert_entry, is_at}
use Rattle.mailbox_rows.specs.declared.row.Row.{Row}
use Rattle.mailbox_rows.specs.declared.row.Fields.{Fields}

abbrev pub Rows : Type 0
Rows = List (ℕ × Row)

abbrev pub has_uid : ℕ → ℕ → Bool
has_uid uid = is_at (nat_cmp uid)

abbrev pub header_len : Row → ℕ
header_len row = length row.header

-- the header bytes of all rows
abbrev pub header_total : Rows → ℕ
header_total rows = sum_by header_len (values_of rows)

-- ---- FETCH (RFC 9051 §7.5.2)

-- a row is made if all that it has was told
abbrev pub row_from : Option (List (List ℕ)) → Option ℕ → Option ℤ → Option ℕ → Option (List ℕ) → Option Row
row_from (Some flags) (Some modseq) (Some internal) (Some size) (Some header) = Some (record { flags = flags; modseq = modseq; internal = internal; size = size; header = header })
row_from _ _ _ _ _ = None

abbrev pub row_of : Fields → Option Row
row_of fields = row_from fields.flags fields.modseq fields.internal fields.size fields.header

-- a row is made, or takes the place of the one with its UID
abbrev pub with_row : ℕ → Row → Rows → Rows
with_row uid row rows = insert_entry nat_cmp rows uid row

-- a row with the flags and the MODSEQ that were told
abbrev pub changed : Fields → Row → Row
changed fields row = record { flags = unwrap_or fields.flags row.flags; modseq = unwrap_or fields.modseq row.modseq; internal = row.internal; size = row.size; header = row.header }

abbrev pub with_value : ℕ → Fields → Option Row → Rows → Rows
with_value uid fields None rows = rows
with_value uid fields (Some row) rows = set_value (has_uid uid) rows (changed fields row)

-- a row that is kept is changed; of another UID nothing is known
abbrev pub with_change : ℕ → Fields → Rows → Rows
with_change uid fields rows = with_value uid fields (lookup (has_uid uid) rows) rows

-- ---- VANISHED (RFC 7162 §3.2.10)

-- the rows whose UIDs are not in a set
abbrev pub without : (ℕ → Bool) → Rows → Rows
without set rows = filter (λ entry. not (set entry.0)) rows
