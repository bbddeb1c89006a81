-- How often a name occurs, and the lengths that parse.
use Rattle.std.proofs.Common.{◌≡◌, ℕ, ◌+◌, ◌<◌, ◌≤◌, ◌^◌, Bool, true, false, List, [], ◌∷◌, ◌++◌, length, map, take, get_or, refl, sym, ap, ◌∙◌, arith, Result, Ok, Err, ltb, leb}
use Rattle.std.specs.Prelude.{filter, ◌&&◌, if◌then◌else◌}
use Rattle.std.specs.Char.{is_ascii_digit}
use Rattle.std.specs.List.{list_all}
use Rattle.std.specs.Str.{IsUtf8, all_ascii_digits, str_eq_ignore_ascii_case}
use Rattle.std.specs.Str.Parse.{ParsesUnsigned, digits_value}
use Rattle.std.proofs.lemmas.Bool.{leb-true, ltb-true}
use Rattle.std.proofs.lemmas.Fmt.{IsAscii-from_digits}
use Rattle.std.proofs.lemmas.List.{map-append, take_more}
use Rattle.std.proofs.lemmas.List.Elements.{filter-append}
use Rattle.std.proofs.lemmas.Str.{IsUtf8-from_ascii}
use Rattle.std.proofs.lemmas.Str.Parse.{IsNumeralModel, digits_value_short, numerals_by_value, parse_gives, tells_all_ascii_digits}
use Rattle.http_heads.specs.Framing.{Occurs, is_length, length_of, occurs, occurs_again, occurs_in, occurs_with, values_of}
use Rattle.http_heads.specs.Heads.{field_seen, fields_seen}
use Rattle.http_heads.specs.declared.heads.HeadField.{HeadField}

occurs_push : (values : List (List ℕ)) (value : List ℕ) → occurs (values ++ value ∷ []) ≡ occurs_again value (occurs values)
occurs_push [] value = refl
occurs_push (a ∷ []) value = refl
occurs_push (a ∷ b ∷ more) value = refl

append_none : (values : List (List ℕ)) → occurs (values ++ []) ≡ occurs values
append_none [] = refl
append_none (a ∷ []) = refl
append_none (a ∷ b ∷ more) = refl

-- how often a name occurs with one more field
pub occurs_more : (name : List ℕ) (fields : List (List ℕ × List ℕ)) (field : List ℕ × List ℕ) → occurs_in name (fields ++ field ∷ []) ≡ occurs_with (occurs_in name fields) name field
occurs_more name fields field =
    let test = λ (f : List ℕ × List ℕ). str_eq_ignore_ascii_case f.0 name in
    let value = λ (f : List ℕ × List ℕ). f.1 in
    let split : values_of name (fields ++ field ∷ []) ≡ values_of name fields ++ values_of name (field ∷ []) =
    ap (map value) (filter-append test fields (field ∷ [])) ∙ map-append value (filter test fields) (filter test (field ∷ [])) in
    ap occurs split
    ∙ elim (str_eq_ignore_ascii_case field.0 name)
    as (λ v. occurs (values_of name fields ++ map value (if v then field ∷ [] else [])) ≡ (if v then occurs_again field.1 (occurs_in name fields) else occurs_in name fields)) [
      | true ↦ occurs_push (values_of name fields) field.1
      | false ↦ append_none (values_of name fields)
    ]

-- how often a name occurs in the fields up to a place, and in one more
pub find_more : (name : List ℕ) (fields : List HeadField) (at : ℕ) (d : HeadField) (found : Occurs) → at < length fields → found ≡ occurs_in name (fields_seen (take at fields))
    → occurs_with found name (field_seen (get_or fields at d)) ≡ occurs_in name (fields_seen (take (at + 1) fields))
find_more name fields at d found within is =
    let more : fields_seen (take (at + 1) fields) ≡ fields_seen (take at fields) ++ field_seen (get_or fields at d) ∷ [] =
    ap fields_seen (take_more fields at d within) ∙ map-append field_seen (take at fields) (get_or fields at d ∷ []) in
    rw (is, more) (sym (occurs_more name (fields_seen (take at fields)) (field_seen (get_or fields at d))))

-- ---- lengths

and_both : (a b : Bool) → (a && b) ≡ true → (a ≡ true) × (b ≡ true)
and_both true b e = (refl, e)
and_both false b e = absurd cc

all_digits : (text : List ℕ) → list_all is_ascii_digit text ≡ true → all_ascii_digits text ≡ true
all_digits [] test = refl
all_digits (b ∷ text) test =
    let both = and_both (is_ascii_digit b) (list_all is_ascii_digit text) test in
    rw (both.0, all_digits text both.1) refl

model : IsNumeralModel (λ ds. all_ascii_digits ds ≡ true) (digits_value 10)
model = numerals_by_value (λ ds. all_ascii_digits ds ≡ true) tells_all_ascii_digits

length_digits : (text : List ℕ) → is_length text ≡ true → all_ascii_digits text ≡ true
length_digits text test =
    all_digits text (and_both (ltb 0 (length text) && leb (length text) 18) (list_all is_ascii_digit text) test).1

-- a length is a text
pub length_is_text : (text : List ℕ) → is_length text ≡ true → IsUtf8 text
length_is_text text test = IsUtf8-from_ascii text (IsAscii-from_digits text (model.to text (length_digits text test)))

-- a length parses as its number
pub length_parses : {E : Type 0} (text : List ℕ) (r : Result ℕ E) → is_length text ≡ true → ParsesUnsigned 64 10 text r → r ≡ Ok (digits_value 10 text)
length_parses text r test parses =
    let all = and_both (ltb 0 (length text) && leb (length text) 18) (list_all is_ascii_digit text) test in
    let bounds = and_both (ltb 0 (length text)) (leb (length text) 18) all.0 in
    let digits = all_digits text all.1 in
    let some : 0 < length text = ltb-true 0 (length text) bounds.0 in
    let short : length text ≤ 18 = leb-true (length text) 18 bounds.1 in
    let small : digits_value 10 text < 10 ^ 18 = digits_value_short model text 18 digits short in
    parse_gives model 64 text r parses digits some (omega arith)

-- what a parser of lengths returns
pub length_read : {E : Type 0} (text parsed : List ℕ) (r : Result ℕ E) (n : ℕ) → is_length text ≡ true → parsed ≡ text → ParsesUnsigned 64 10 parsed r → r ≡ Ok n → Ok n ≡ length_of text
unfolding length_of
length_read text parsed r n test same parses is =
    let ok : r ≡ Ok (digits_value 10 text) = length_parses text r test (rw same at parses) in
    let value : n ≡ digits_value 10 text = cc in
    rw test (ap Ok value)

pub length_not_refused : {E : Type 0} (text parsed : List ℕ) (r : Result ℕ E) (e : E) → is_length text ≡ true → parsed ≡ text → ParsesUnsigned 64 10 parsed r → r ≡ Err e → ⊥
length_not_refused text parsed r e test same parses is =
    let ok : r ≡ Ok (digits_value 10 text) = length_parses text r test (rw same at parses) in cc
