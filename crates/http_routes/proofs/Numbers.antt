-- Numbers and sections are read as they are spelled.
use Rattle.std.proofs.Common.{◌≡◌, ℕ, zero, suc, ◌^◌, ◌<◌, ◌≤◌, Bool, true, false, List, [], ◌∷◌, length, map, sym, ap, ◌∙◌, refl, arith, Result, Ok, Err, Option, Some, None, decimal, get_or, ltb, leb, subst, IsTrue}
use Rattle.std.specs.Prelude.{◌==◌, ◌≢◌, ◌&&◌, if◌then◌else◌, IfSome}
use Rattle.std.specs.Char.{digit_value, is_ascii_hexdigit}
use Rattle.std.specs.List.{All, list_all, slice_split}
use Rattle.std.specs.Result.{OkIff, result_ok}
use Rattle.std.specs.Str.{bytes_eq}
use Rattle.std.specs.Str.Parse.{AllDigits, IsNumeral, ParsesUnsigned, digits_value, without_leading_plus}
use Rattle.std.proofs.lemmas.Bool.{eqb-true, le-leb, leb-true, lt-ltb, ltb-true}
use Rattle.std.proofs.lemmas.Bool.Decides.{nat_tests}
use Rattle.std.proofs.lemmas.List.{length-map}
use Rattle.std.proofs.lemmas.List.Splits.{length-slice_split}
use Rattle.std.proofs.lemmas.Fmt.{decimal_is_IsNumeral, parse-decimal}
use Rattle.std.proofs.lemmas.Int.Digits.{digits_value-lt}
use Rattle.std.proofs.lemmas.Slice.Eq.{bytes_eq-Decides}
use Rattle.std.proofs.lemmas.Str.Parse.{without_leading_plus_none}
use Rattle.mail_values.specs.Section.{IsNumber, IsSection, spelling}
use Rattle.mail_values.proofs.Spellings.{slice_split_joined}
use Rattle.http_routes.specs.Values.{below, dotted_numbers, form_number, is_form_text, is_part_number, number_of, section_of, small_number}

pub and_both : (a b : Bool) → (a && b) ≡ true → (a ≡ true) × (b ≡ true)
and_both true b e = (refl, e)
and_both false b e = absurd cc

-- ---- decimal numbers

value_of_spelled : (n : ℕ) (text : List ℕ) → n < 4294967296 → decimal n ≡ text → digits_value 10 text ≡ n
value_of_spelled n text small e = ap (digits_value 10) (sym e) ∙ (decimal_is_IsNumeral n (omega arith)).1

-- a number that is spelled so
pub spelled_number : (n : ℕ) (text : List ℕ) → n < 4294967296 → decimal n ≡ text → Some n ≡ small_number text
unfolding number_of
spelled_number n text small e =
    let v : digits_value 10 text ≡ n = value_of_spelled n text small e in
    let same : bytes_eq (decimal n) text ≡ true = (bytes_eq-Decides (decimal n) text).1 e in
    let less : ltb n 4294967296 ≡ true = lt-ltb n 4294967296 small in
    rw (v, same, less) refl

-- nothing is spelled so, or the number is too great
pub no_number : {E : Type 0} (text : List ℕ) (r : Result ℕ E) → ParsesUnsigned 32 10 text r → ((m : ℕ) → r ≡ Ok m → decimal m ≡ text → ⊥) → None ≡ small_number text
unfolding number_of
no_number {E} text r parses not =
    elim (bytes_eq (decimal (digits_value 10 text)) text) as (λ v. bytes_eq (decimal (digits_value 10 text)) text ≡ v → None ≡ below 4294967296 (if v then Some (digits_value 10 text) else None)) [
      | true ↦ λ same.
          let e : decimal (digits_value 10 text) ≡ text = (bytes_eq-Decides (decimal (digits_value 10 text)) text).0 same in
          elim (ltb (digits_value 10 text) 4294967296) as (λ w. ltb (digits_value 10 text) 4294967296 ≡ w → None ≡ (if w then Some (digits_value 10 text) else None)) [
            | true ↦ λ less.
                let small : digits_value 10 text < 4294967296 = ltb-true (digits_value 10 text) 4294967296 less in
                absurd (not (digits_value 10 text) (parse-decimal 32 (digits_value 10 text) text r small (omega arith) (sym e) parses) e)
            | false ↦ λ _. refl
          ] refl
      | false ↦ λ _. refl
    ] refl

-- ---- sections

numbers_of_map : (numbers : List ℕ) → All IsNumber numbers → map (digits_value 10) (map decimal numbers) ≡ numbers
numbers_of_map [] each = refl
numbers_of_map (n ∷ numbers) each =
    let first : IsNumber n = each zero 0 (omega arith) in
    let small : n < 2 ^ 16 = first.small in
    let v : digits_value 10 (decimal n) ≡ n = (decimal_is_IsNumeral n (omega arith)).1 in
    rw (v, numbers_of_map numbers (λ k d h. each (suc k) d (omega arith))) refl

part_numbers : (numbers : List ℕ) → All IsNumber numbers → list_all is_part_number numbers ≡ true
part_numbers [] each = refl
part_numbers (n ∷ numbers) each =
    let first : IsNumber n = each zero 0 (omega arith) in
    let nonzero : 1 ≤ n = first.nonzero in
    let small : n < 2 ^ 16 = first.small in
    let low : ltb 0 n ≡ true = lt-ltb 0 n (omega arith) in
    let high : ltb n 65536 ≡ true = lt-ltb n 65536 (omega arith) in
    rw (low, high, part_numbers numbers (λ k d h. each (suc k) d (omega arith))) refl

-- a section that is spelled so
pub spelled_section : (section text : List ℕ) → IsSection section → spelling section ≡ text → Some section ≡ section_of text
unfolding section_of
spelled_section section text is e =
    let some : 1 ≤ length section = is.nonempty in
    let few : length section ≤ 40 = is.few in
    let numbers : dotted_numbers text ≡ section =
    ap dotted_numbers (sym e) ∙ ap (map (digits_value 10)) (slice_split_joined section (omega arith) is.each) ∙ numbers_of_map section is.each in
    let short : leb (length section) 40 ≡ true = le-leb (length section) 40 few in
    let same : bytes_eq (spelling section) text ≡ true = (bytes_eq-Decides (spelling section) text).1 e in
    rw (numbers, short, part_numbers section is.each, same) refl

part_number : (n : ℕ) → is_part_number n ≡ true → IsNumber n
part_number n test =
    let both = and_both (ltb 0 n) (ltb n 65536) test in
    let low : 0 < n = ltb-true 0 n both.0 in
    let high : n < 65536 = ltb-true n 65536 both.1 in
    record { nonzero = omega arith; small = omega arith }

numbers_at : (numbers : List ℕ) → list_all is_part_number numbers ≡ true → (k d : ℕ) → k < length numbers → IsNumber (get_or numbers k d)
numbers_at [] test k d h = absurd (omega arith)
numbers_at (n ∷ numbers) test zero d h = part_number n (and_both (is_part_number n) (list_all is_part_number numbers) test).0
numbers_at (n ∷ numbers) test (suc k) d h = numbers_at numbers (and_both (is_part_number n) (list_all is_part_number numbers) test).1 k d (omega arith)

some_dotted : (text : List ℕ) → 1 ≤ length (dotted_numbers text)
some_dotted text = omega (arith, length-map (slice_split (λ b. b == 46) text) (digits_value 10), length-slice_split (λ b. b == 46) text)

-- no section is spelled so
pub no_section : (text : List ℕ) → ((numbers : List ℕ) → IsSection numbers → spelling numbers ≡ text → ⊥) → None ≡ section_of text
unfolding section_of
no_section text not =
    let numbers = dotted_numbers text in
    elim (leb (length numbers) 40 && list_all is_part_number numbers && bytes_eq (spelling numbers) text)
    as (λ v. (leb (length numbers) 40 && list_all is_part_number numbers && bytes_eq (spelling numbers) text) ≡ v → None ≡ (if v then Some numbers else None)) [
      | true ↦ λ test.
          let all = and_both (leb (length numbers) 40 && list_all is_part_number numbers) (bytes_eq (spelling numbers) text) test in
          let both = and_both (leb (length numbers) 40) (list_all is_part_number numbers) all.0 in
          absurd (not numbers (record { nonempty = some_dotted text; few = leb-true (length numbers) 40 both.0; each = numbers_at numbers both.1 }) ((bytes_eq-Decides (spelling numbers) text).0 all.1))
      | false ↦ λ _. refl
    ] refl

-- what a parser of sections returns
pub section_parsed : (text : List ℕ) (r : Option (List ℕ)) → IfSome r IsSection → IfSome r (λ section. spelling section ≡ text) → ((numbers : List ℕ) → IsSection numbers → spelling numbers ≡ text → r ≡ Some numbers) → r ≡ section_of text
section_parsed text (Some section) is sound complete = spelled_section section text is sound
section_parsed text None is sound complete = no_section text (λ numbers is spelled. let some : None ≡ Some numbers = complete numbers is spelled in cc)

-- ---- numbers of forms

hex_digit : (c : ℕ) → is_ascii_hexdigit c ≡ true → digit_value c < 16
hex_digit c test = grind (arith, nat_tests)

hex_digits : (text : List ℕ) → list_all is_ascii_hexdigit text ≡ true → AllDigits 16 text
hex_digits [] test = tt
hex_digits (c ∷ text) test =
    let both = and_both (is_ascii_hexdigit c) (list_all is_ascii_hexdigit text) test in
    (hex_digit c both.0, hex_digits text both.1)

no_plus : (text : List ℕ) → list_all is_ascii_hexdigit text ≡ true → get_or text 0 0 ≢ 43
no_plus [] test e = absurd (omega arith)
no_plus (c ∷ text) test e =
    let first : is_ascii_hexdigit c ≡ true = (and_both (is_ascii_hexdigit c) (list_all is_ascii_hexdigit text) test).0 in
    let plus : is_ascii_hexdigit 43 ≡ true = subst (λ (x : ℕ). is_ascii_hexdigit x ≡ true) e first in
    absurd cc

ok_of : {E : Type 0} (r : Result ℕ E) (P : Type 0) (n : ℕ) → OkIff r P n → P → result_ok r ≡ Some n
ok_of (Ok x) P n is p = ap Some is.1
ok_of (Err e) P n is p = absurd (is p)

-- 16 hexadecimal digits parse as their number
pub form_parsed : {E : Type 0} (text : List ℕ) (r : Result ℕ E) → is_form_text text ≡ true → ParsesUnsigned 64 16 text r → result_ok r ≡ form_number text
unfolding form_number
form_parsed text r test parses =
    let both = and_both (length text == 16) (list_all is_ascii_hexdigit text) test in
    let size : length text ≡ 16 = eqb-true (length text) 16 both.0 in
    let digits : AllDigits 16 text = hex_digits text both.1 in
    let plain : without_leading_plus text ≡ text = without_leading_plus_none text (no_plus text both.1) in
    let bound : digits_value 16 text < 16 ^ length text = digits_value-lt 16 text digits in
    let small : digits_value 16 text < 2 ^ 64 = subst (λ (n : ℕ). digits_value 16 text < 16 ^ n) size bound in
    let all : IsNumeral 16 text × (digits_value 16 text < 2 ^ 64) = ((omega arith, digits), small) in
    let known : OkIff r (IsNumeral 16 text × (digits_value 16 text < 2 ^ 64)) (digits_value 16 text) =
    subst (λ (t : List ℕ). OkIff r (IsNumeral 16 t × (digits_value 16 t < 2 ^ 64)) (digits_value 16 t)) plain parses in
    ok_of r _ _ known all ∙ rw test refl

-- a number that isn't spelled so is not the one that is
pub not_spelled : {E : Type 0} (r : Result ℕ E) (a m : ℕ) (text : List ℕ) (spelled : Bool) → r ≡ Ok a → r ≡ Ok m → decimal m ≡ text → (decimal a ≡ text → IsTrue spelled) → spelled ≡ false → ⊥
not_spelled r a m text spelled p q e found f =
    let same : a ≡ m = cc in
    let t : IsTrue spelled = found (ap decimal same ∙ e) in
    let both : true ≡ false = sym t ∙ f in cc

pub none_is_some : (numbers : List ℕ) → None ≡ Some numbers → ⊥
none_is_some numbers e = cc
