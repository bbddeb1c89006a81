-- The numbers of character references.
use Rattle.std.proofs.Common.{◌≡◌, ℕ, ◌+◌, ◌*◌, ◌<◌, ◌≤◌, min, nat_lt, Bool, true, false, ◌||◌, ◌==◌, List, [], ◌∷◌, length, drop, fold, get_or, ne_eqb, refl, sym, arith}
use Rattle.std.specs.Char.{digit_value}
use Rattle.html_syntax.specs.Names.{names}
use Rattle.html_syntax.specs.References.{is_surrogate, char_of, semicolon_len, digits_reference, reference, name_reference, longest}
use Rattle.html_references.specs.CodeReferences.{base}

or_true : (b : Bool) → (b || true) ≡ true
or_true true = refl
or_true false = refl

-- each number above 0x10FFFF gives U+FFFD
above : (n : ℕ) → nat_lt 0x10FFFF n ≡ true → char_of n ≡ 0xFFFD
above n h = rw (h, or_true (n == 0 || is_surrogate n)) refl

capped : (n : ℕ) (b : Bool) → nat_lt 0x10FFFF n ≡ b → char_of (min n 0x110000) ≡ char_of n
capped n true h = let low : 0x10FFFF < n = grind arith in let e : min n 0x110000 ≡ 0x110000 = omega arith in rw e (sym (above n h))
capped n false h = let low : n ≤ 0x10FFFF = grind arith in let e : min n 0x110000 ≡ n = omega arith in rw e refl

pub char_of-capped : (n : ℕ) → char_of (min n 0x110000) ≡ char_of n
char_of-capped n = capped n (nat_lt 0x10FFFF n) refl

pub of_digits-some : (hexadecimal : Bool) (before end value : ℕ) (digits text : List ℕ) → 1 ≤ length digits → end ≡ semicolon_len (drop (length digits) text)
    → value ≡ min (fold (λ n c. n * base hexadecimal + digit_value c) 0 digits) 0x110000
    → record { len = before + length digits + end; chars = char_of value ∷ [] } ≡ digits_reference (base hexadecimal) before digits text
of_digits-some hexadecimal before end value [] text some e v = absurd (omega arith)
of_digits-some hexadecimal before end value (d ∷ ds) text some e v = rw (e, v, char_of-capped (fold (λ n c. n * base hexadecimal + digit_value c) 0 (d ∷ ds))) refl

-- a text that does not begin with # is no number
pub reference-name : (in_attribute : Bool) (text : List ℕ) → 1 ≤ length text → (get_or text 0 0 ≡ 35 → ⊥) → name_reference in_attribute (longest names text) text ≡ reference in_attribute text
unfolding reference
reference-name in_attribute [] some other = absurd (omega arith)
reference-name in_attribute (d ∷ ds) some other = rw (ne_eqb d 35 other) refl
