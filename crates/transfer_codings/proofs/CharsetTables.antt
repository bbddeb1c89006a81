-- The code's table of windows-1252 against the definition's.
use Rattle.std.proofs.Common.{◌≡◌, ℕ, ◌+◌, ◌-◌, ◌<◌, ◌≤◌, ◌==◌, Bool, true, slice_index, refl, subst, arith}
use Rattle.std.proofs.lemmas.Bool.{eqb-true}
use Rattle.base64.specs.Tables.{all_below}
use Rattle.base64.proofs.Tables.{all_below_at}
use Rattle.transfer_codings.specs.declared.charset.TheConstants.{WINDOWS_1252}
use Rattle.transfer_codings.specs.Charsets.{windows_1252_character}

abbrev table_agrees : ℕ → Bool
table_agrees place = slice_index WINDOWS_1252 place == windows_1252_character (place + 128)

abbrev low_agrees : ℕ → Bool
low_agrees byte = byte == windows_1252_character byte

abbrev high_agrees : ℕ → Bool
high_agrees place = place + 160 == windows_1252_character (place + 160)

table_agrees_all : all_below table_agrees 32 ≡ true
unfolding windows_1252_character
table_agrees_all = refl

low_agrees_all : all_below low_agrees 128 ≡ true
unfolding windows_1252_character
low_agrees_all = refl

high_agrees_all : all_below high_agrees 96 ≡ true
unfolding windows_1252_character
high_agrees_all = refl

-- at the bytes 80 to 9F, before them and after them
pub in_table : (byte : ℕ) → 128 ≤ byte → byte ≤ 159 → slice_index WINDOWS_1252 (byte - 128) ≡ windows_1252_character byte
in_table byte least most =
    let e : byte - 128 + 128 ≡ byte = omega arith in
    let lt : byte - 128 < 32 = omega arith in
    subst (λ b. slice_index WINDOWS_1252 (byte - 128) ≡ windows_1252_character b) e
    (eqb-true (slice_index WINDOWS_1252 (byte - 128)) (windows_1252_character (byte - 128 + 128)) (all_below_at table_agrees 32 (byte - 128) table_agrees_all lt))

pub before_table : (byte : ℕ) → byte < 128 → byte ≡ windows_1252_character byte
before_table byte lt = eqb-true byte (windows_1252_character byte) (all_below_at low_agrees 128 byte low_agrees_all lt)

pub after_table : (byte : ℕ) → 159 < byte → byte < 256 → byte ≡ windows_1252_character byte
after_table byte least lt =
    let e : byte - 160 + 160 ≡ byte = omega arith in
    let small : byte - 160 < 96 = omega arith in
    subst (λ b. b ≡ windows_1252_character b) e
    (eqb-true (byte - 160 + 160) (windows_1252_character (byte - 160 + 160)) (all_below_at high_agrees 96 (byte - 160) high_agrees_all small))
