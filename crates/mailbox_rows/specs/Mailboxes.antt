-- What is kept of a folder that was selected.
use Rattle.std.specs.Prelude.{◌≡◌, ℕ, max, Bool, true, false, ◌||◌, ◌==◌, nat_lt, if◌then◌else◌, List, [], length, Option, Some, None, Result, Ok, Err}
use Rattle.mailbox_rows.specs.declared.fault.ViewFault.{ViewFault}
use Rattle.mailbox_rows.specs.declared.fault.ViewFault.TheVariants.{TooMany, Memory}
use Rattle.mailbox_rows.specs.Rows.{Rows, header_total}

pub record MailboxState : Type 0 where
  pub name : List ℕ
  -- its UIDVALIDITY, None if none was told yet
  pub validity : Option ℕ
  pub rows : Rows
  -- the MODSEQ up to which all changes were told, 0 if none is known
  pub mark : ℕ

abbrev pub new_mailbox : List ℕ → MailboxState
new_mailbox name = record { name = name; validity = None; rows = []; mark = 0 }

-- with other rows
abbrev pub with_rows : MailboxState → Rows → MailboxState
with_rows box rows = record { name = box.name; validity = box.validity; rows = rows; mark = box.mark }

-- with no rows, and no change known
abbrev pub emptied : MailboxState → MailboxState
emptied box = record { name = box.name; validity = box.validity; rows = []; mark = 0 }

-- ---- UIDVALIDITY (RFC 9051 §2.3.1.1): with another one, UIDs name other messages

abbrev pub is_validity : Option ℕ → ℕ → Bool
is_validity None validity = false
is_validity (Some kept) validity = kept == validity

abbrev pub renewed : ℕ → MailboxState → MailboxState
renewed validity box = if is_validity box.validity validity then box else record { name = box.name; validity = Some validity; rows = []; mark = 0 }

-- ---- limits

abbrev pub row_limit : ℕ
row_limit = 50000

abbrev pub header_limit : ℕ
header_limit = 16777216

abbrev pub is_past : ℕ → ℕ → Bool
is_past count bytes = nat_lt row_limit count || nat_lt header_limit bytes

abbrev pub is_too_many : Rows → Bool
is_too_many rows = is_past (length rows) (header_total rows)

-- a row is put in, or the folder has then no rows because they would be too many
abbrev pub PutsRow : MailboxState → Rows → Result Unit ViewFault → MailboxState → Type 0
PutsRow old rows (Ok u) new = (is_too_many rows ≡ false) × (new ≡ with_rows old rows)
PutsRow old rows (Err (TooMany count bytes)) new = (is_too_many rows ≡ true) × (count ≡ length rows) × (bytes ≡ header_total rows) × (new ≡ emptied old)
PutsRow old rows (Err Memory) new = new ≡ old

-- a mark never falls
abbrev pub raised : ℕ → MailboxState → MailboxState
raised mark box = record { name = box.name; validity = box.validity; rows = box.rows; mark = max box.mark mark }
