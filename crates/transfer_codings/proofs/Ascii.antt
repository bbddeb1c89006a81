-- What the encoders write is ASCII.
use Rattle.std.proofs.Common.{ℕ, zero, suc, ◌+◌, ◌/◌, ◌%◌, ◌<◌, ◌≤◌, ◌==◌, nat_le, nat_lt, Bool, true, false, not, cond, ◌&&◌, List, [], ◌∷◌, ◌++◌, length, sym, subst, inl, inr, arith}
use Rattle.std.specs.List.{join_by}
use Rattle.std.specs.Str.{IsAscii}
use Rattle.std.proofs.lemmas.Bool.{and_parts, cases_Bool, leb-true}
use Rattle.std.proofs.lemmas.List.{append_assoc}
use Rattle.std.proofs.lemmas.Str.{IsAscii-append}
use Rattle.std.proofs.lemmas.Str.Ascii.{IsAscii-cons, IsAscii-nil}
use Rattle.base64.specs.Engines.{standard}
use Rattle.base64.specs.GeneralPurpose.{IsBytes, encode_of}
use Rattle.base64.proofs.EngineFacts.{IsAscii-encode_of, front_bytes}
use Rattle.transfer_codings.specs.Base64.{base64_line, base64_lines, line_piece}
use Rattle.transfer_codings.specs.QuotedRows.{break, broken_lines, column_after, escape_of, fits, is_empty, placed_unit, quoted_text, rest_of_line, rows_text, soft_break, is_literal, unit_of, upper_digit}
use Rattle.transfer_codings.proofs.QuotedWritten.{back_bytes, join-broken_lines, plainly}
use Rattle.transfer_codings.proofs.RowLemmas.{broken_lines-some, rows_text-rest, unit_of-escaped, unit_of-literal}

break-ascii : IsAscii (13 ∷ 10 ∷ [])
break-ascii = IsAscii-cons 13 (10 ∷ []) (omega arith) (IsAscii-cons 10 [] (omega arith) IsAscii-nil)

-- ---- base64

pub base64_lines-ascii : (bytes : List ℕ) (first count : ℕ) → IsAscii (base64_lines bytes first count)
unfolding base64_lines base64_line
base64_lines-ascii bytes first zero = IsAscii-nil
base64_lines-ascii bytes first (suc count) =
    let piece = line_piece bytes first in
    IsAscii-append (encode_of standard piece ++ 13 ∷ 10 ∷ []) (base64_lines bytes (first + 1) count)
    (IsAscii-append (encode_of standard piece) (13 ∷ 10 ∷ []) (IsAscii-encode_of standard piece) break-ascii)
    (base64_lines-ascii bytes (first + 1) count)

-- ---- quoted-printable

digit-ascii : (below : Bool) (value : ℕ) → value < 16 → cond below (48 + value) (55 + value) < 128
digit-ascii true value small = omega arith
digit-ascii false value small = omega arith

escape-ascii : (byte : ℕ) → byte < 256 → IsAscii (escape_of byte)
escape-ascii byte small =
    let high = upper_digit (byte / 16) in
    let low = upper_digit (byte % 16) in
    IsAscii-cons 61 (high ∷ low ∷ []) (omega arith)
    (IsAscii-cons high (low ∷ []) (digit-ascii (nat_lt (byte / 16) 10) (byte / 16) (omega arith))
    (IsAscii-cons low [] (digit-ascii (nat_lt (byte % 16) 10) (byte % 16) (omega arith)) IsAscii-nil))

unit-ascii : (at_end : Bool) (byte : ℕ) → byte < 256 → IsAscii (unit_of at_end byte)
unit-ascii at_end byte small = elim (cases_Bool (is_literal at_end byte)) [
  | inl plain ↦
      let outer = and_parts (nat_le 32 byte && nat_le byte 126 && not (byte == 61)) (not (at_end && (byte == 32))) plain in
      let middle = and_parts (nat_le 32 byte && nat_le byte 126) (not (byte == 61)) outer.0 in
      let inner = and_parts (nat_le 32 byte) (nat_le byte 126) middle.0 in
      let high : byte ≤ 126 = leb-true byte 126 inner.1 in
      subst IsAscii (sym (unit_of-literal at_end byte plain)) (IsAscii-cons byte [] (omega arith) IsAscii-nil)
  | inr other ↦ subst IsAscii (sym (unit_of-escaped at_end byte other)) (escape-ascii byte small)
]

soft-ascii : (goes_on : Bool) → IsAscii (cond goes_on [] (61 ∷ 13 ∷ 10 ∷ []))
soft-ascii true = IsAscii-nil
soft-ascii false = IsAscii-cons 61 (13 ∷ 10 ∷ []) (omega arith) break-ascii

line-ascii : (line : List ℕ) (column : ℕ) → IsBytes line → IsAscii (rest_of_line column line)
unfolding placed_unit
line-ascii [] column bytes = IsAscii-nil
line-ascii (byte ∷ more) column bytes =
    let at_end = is_empty more in
    let unit = unit_of at_end byte in
    let next = column_after column at_end byte in
    IsAscii-append (soft_break column (length unit) at_end ++ unit) (rest_of_line next more)
    (IsAscii-append (soft_break column (length unit) at_end) unit (soft-ascii (fits column (length unit) at_end)) (unit-ascii at_end byte (bytes 0)))
    (line-ascii more next (λ i. bytes (suc i)))

rows-ascii : (line : List ℕ) → IsBytes line → IsAscii (rows_text line)
rows-ascii line bytes = subst IsAscii (sym (rows_text-rest line)) (line-ascii line 0 bytes)

text-ascii : (line : List ℕ) (others : List (List ℕ)) → IsBytes (join_by plainly break (line ∷ others))
    → IsAscii (join_by rows_text break (line ∷ others))
text-ascii line [] are = IsAscii-append (rows_text line) [] (rows-ascii line (front_bytes line [] are)) IsAscii-nil
text-ascii line (next ∷ more) are =
    let written = join_by rows_text break (next ∷ more) in
    let read = join_by plainly break (next ∷ more) in
    let later = text-ascii next more (back_bytes (line ++ 13 ∷ 10 ∷ []) read (subst IsBytes (sym (append_assoc line (13 ∷ 10 ∷ []) read)) are)) in
    IsAscii-append (rows_text line) (13 ∷ 10 ∷ written) (rows-ascii line (front_bytes line (13 ∷ 10 ∷ read) are))
    (IsAscii-append (13 ∷ 10 ∷ []) written break-ascii later)

lines-ascii : (all : List (List ℕ)) → 0 < length all → IsBytes (join_by plainly break all) → IsAscii (join_by rows_text break all)
lines-ascii [] some are = absurd (omega arith)
lines-ascii (line ∷ others) some are = text-ascii line others are

pub quoted_text-ascii : (bytes : List ℕ) → IsBytes bytes → IsAscii (quoted_text bytes)
unfolding quoted_text
quoted_text-ascii bytes are =
    lines-ascii (broken_lines bytes) (broken_lines-some bytes) (subst IsBytes (sym (join-broken_lines bytes)) are)
