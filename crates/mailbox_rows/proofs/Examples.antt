-- Worked examples of the limits of a folder.
use Rattle.std.proofs.Common.{◌≡◌, true, false, refl}
use Rattle.mailbox_rows.specs.Mailboxes.{is_past}

-- 50,000 rows with 16,777,216 bytes of headers are kept
most : is_past 50_000 16_777_216 ≡ false
most = refl

one_row_more : is_past 50_001 0 ≡ true
one_row_more = refl

one_byte_more : is_past 1 16_777_217 ≡ true
one_byte_more = refl
