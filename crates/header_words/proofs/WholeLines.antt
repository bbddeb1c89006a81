-- The fields of whole lines, and of one line more.
use Rattle.std.proofs.Common.{◌≡◌, ℕ, zero, suc, ◌+◌, ◌-◌, ◌<◌, ◌≤◌, inl, inr, Bool, true, false, cond, eqb, List, [], ◌∷◌, ◌++◌, length, get_or, take, drop, refl, sym, ap, ◌∙◌, subst, arith, append_assoc, length-append, length-drop}
use Rattle.std.specs.Prelude.{filter, not, position, find, Some, None}
use Rattle.std.specs.List.{position_or_len, slice_get}
use Rattle.std.specs.Str.{str_eq_ignore_ascii_case, str_to_ascii_lowercase}
use Rattle.std.specs.Prelude.{slice_index, nat_lt, ◌==◌}
use Rattle.std.specs.Char.{to_ascii_lowercase}
use Rattle.std.proofs.lemmas.Slice.Eq.{bytes_eq-Decides}
use Rattle.std.proofs.Math.ListN.{get_or-eq_default}
use Rattle.std.specs.Str.Lines.{lines, strip_carriage_return}
use Rattle.std.proofs.lemmas.Bool.{cases_lt, cases_Bool, ne_eqb, eqb-false, eq-eqb, lt-ltb, false_from_ne_true}
use Rattle.std.proofs.lemmas.List.{append-nil, length-take-le, get_or-drop, get_or-take, get_or-map, length-map, take_rest, drop-append-le, get_or_default, take-append-le, take-append-drop, drop_all, take_all}
use Rattle.std.proofs.lemmas.List.Elements.{filter-append}
use Rattle.std.proofs.lemmas.List.Folds.{prefix_len-append}
use Rattle.std.proofs.lemmas.List.Sums.{prefix_len-le-length}
use Rattle.header_words.specs.Lines.{is_newline, first_text, first_size}
use Rattle.header_words.specs.Fields.{FieldValue, fields_of, own_lines, is_continuation, is_colon, name_of, has_name}
use Rattle.header_words.specs.Places.{field_of_lines, raw_field, field_between, fields_at, letters_at, IsRising, is_alike, is_alike_first}
use Rattle.header_words.proofs.FirstLine.{lines_step, first_text_found, first_size_last}

abbrev record_of : List ℕ → List (List ℕ) → FieldValue
record_of name ls = record { name = name; lines = ls }

-- ---- whole lines

-- bytes that are whole lines: where there are any, the last one is a newline
pub record IsWhole (xs : List ℕ) : Type 0 where
  pub ends : (i : ℕ) → i + 1 ≡ length xs → get_or xs i 0 ≡ 10

newline_found : (xs : List ℕ) → IsWhole xs → 0 < length xs → position_or_len is_newline xs < length xs
newline_found [] whole some = absurd (omega arith)
newline_found (x ∷ []) whole some = let last : x ≡ 10 = whole.ends 0 (omega arith) in rw last (omega arith)
newline_found (x ∷ y ∷ ys) whole some =
    elim (cases_Bool (is_newline x)) [
      | inl stops ↦ let none : position_or_len is_newline (x ∷ y ∷ ys) ≡ 0 = rw stops refl in omega arith
      | inr goes ↦
          let more : position_or_len is_newline (x ∷ y ∷ ys) ≡ 1 + position_or_len is_newline (y ∷ ys) = rw goes refl in
          let rest = newline_found (y ∷ ys) (record { ends = λ i e. whole.ends (suc i) (omega arith) }) (omega arith) in
          omega arith
    ]

pub drop_whole : (k : ℕ) (xs : List ℕ) → IsWhole xs → IsWhole (drop k xs)
drop_whole k xs whole = record { ends = λ i e. get_or-drop k xs i 0 ∙ whole.ends (k + i) (omega (arith, length-drop {A = ℕ})) }

-- if the front has a newline, the first line is that of the front
newline_append : (xs ys : List ℕ) → position_or_len is_newline xs < length xs → position_or_len is_newline (xs ++ ys) ≡ position_or_len is_newline xs
newline_append xs ys h =
    let apart : eqb (position_or_len is_newline xs) (length xs) ≡ false = ne_eqb (position_or_len is_newline xs) (length xs) (λ e. absurd (omega arith)) in
    prefix_len-append (λ x. not (is_newline x)) xs ys ∙ rw apart refl

first_size_append : (xs ys : List ℕ) → position_or_len is_newline xs < length xs → first_size (xs ++ ys) ≡ first_size xs
first_size_append xs ys h = let same = newline_append xs ys h in omega (arith, length-append {A = ℕ})

first_text_append : (xs ys : List ℕ) → position_or_len is_newline xs < length xs → first_text (xs ++ ys) ≡ first_text xs
first_text_append xs ys h =
    let same = newline_append xs ys h in
    let longer : position_or_len is_newline xs < length (xs ++ ys) = omega (arith, length-append {A = ℕ}) in
    first_text_found (xs ++ ys) (let q : position_or_len is_newline (xs ++ ys) < length (xs ++ ys) = omega (arith, same) in q)
    ∙ ap (λ n. strip_carriage_return (take n (xs ++ ys))) same
    ∙ ap strip_carriage_return (take-append-le (position_or_len is_newline xs) xs ys (omega arith))
    ∙ sym (first_text_found xs h)

-- the lines of whole lines, and of what follows them
pub lines_append : (fuel : ℕ) (xs ys : List ℕ) → length xs ≤ fuel → IsWhole xs → lines (xs ++ ys) ≡ lines xs ++ lines ys
lines_append fuel [] ys few whole = refl
lines_append zero (x ∷ xs) ys few whole = absurd (omega arith)
lines_append (suc fuel) (x ∷ xs) ys few whole =
    let some : 0 < length (x ∷ xs) = omega arith in
    let found = newline_found (x ∷ xs) whole some in
    let n = first_size (x ∷ xs) in
    let within : n ≤ length (x ∷ xs) = omega arith in
    let least : 1 ≤ n = omega arith in
    let rest : lines (drop n (x ∷ xs) ++ ys) ≡ lines (drop n (x ∷ xs)) ++ lines ys = lines_append fuel (drop n (x ∷ xs)) ys (omega (arith, length-drop {A = ℕ})) (drop_whole n (x ∷ xs) whole) in
    lines_step ((x ∷ xs) ++ ys) (omega (arith, length-append {A = ℕ}))
    ∙ ap (λ t. t ∷ lines (drop (first_size ((x ∷ xs) ++ ys)) ((x ∷ xs) ++ ys))) (first_text_append (x ∷ xs) ys found)
    ∙ ap (λ k. first_text (x ∷ xs) ∷ lines (drop k ((x ∷ xs) ++ ys))) (first_size_append (x ∷ xs) ys found)
    ∙ ap (λ t. first_text (x ∷ xs) ∷ lines t) (drop-append-le n (x ∷ xs) ys within)
    ∙ ap (λ t. first_text (x ∷ xs) ∷ t) rest
    ∙ ap (λ t. t ++ lines ys) (sym (lines_step (x ∷ xs) some))

newline_in_front : (front back : List ℕ) → position_or_len is_newline (front ++ back) < length front → position_or_len is_newline front < length front
newline_in_front front back h =
    elim (cases_Bool (eqb (position_or_len is_newline front) (length front))) [
      | inl all ↦
          let over : position_or_len is_newline (front ++ back) ≡ length front + position_or_len is_newline back = prefix_len-append (λ x. not (is_newline x)) front back ∙ rw all refl in
          absurd (omega arith)
      | inr apart ↦
          let most : position_or_len is_newline front ≤ length front = prefix_len-le-length (λ x. not (is_newline x)) front in
          let other : position_or_len is_newline front ≡ length front → ⊥ = eqb-false (position_or_len is_newline front) (length front) apart in
          let cases = cases_lt (position_or_len is_newline front) (length front) in
          elim cases [ inl lt ↦ lt | inr ge ↦ absurd (other (omega arith)) ]
    ]

one_line_found : (rest : List ℕ) → 0 < length rest → position_or_len is_newline rest < length rest → lines (take (first_size rest) rest) ≡ first_text rest ∷ []
one_line_found rest some lt =
    let n = first_size rest in
    let front = take n rest in
    let back = drop n rest in
    let whole : front ++ back ≡ rest = take-append-drop n rest in
    let size : length front ≡ n = length-take-le n rest (omega arith) in
    let place : position_or_len is_newline (front ++ back) ≡ position_or_len is_newline rest = ap (position_or_len is_newline) whole in
    let found : position_or_len is_newline front < length front = newline_in_front front back (omega arith) in
    let text : first_text front ≡ first_text rest = sym (first_text_append front back found) ∙ ap first_text whole in
    let taken : first_size front ≡ n = sym (first_size_append front back found) ∙ ap first_size whole in
    lines_step front (omega arith) ∙ ap (λ t. t ∷ lines (drop (first_size front) front)) text ∙ ap (λ t. first_text rest ∷ lines t) (drop_all (first_size front) front (omega arith))

-- the first line alone
pub one_line : (rest : List ℕ) → 0 < length rest → lines (take (first_size rest) rest) ≡ first_text rest ∷ []
one_line rest some =
    elim (cases_lt (position_or_len is_newline rest) (length rest)) [
      | inl lt ↦ one_line_found rest some lt
      | inr ge ↦
          let size : first_size rest ≡ length rest = first_size_last rest ge in
          let all : take (first_size rest) rest ≡ rest = take_all (first_size rest) rest (omega arith) in
          ap lines all ∙ lines_step rest some ∙ ap (λ n. first_text rest ∷ lines (drop n rest)) size ∙ ap (λ t. first_text rest ∷ lines t) (drop_all (length rest) rest (omega arith))
    ]

-- ---- fields of whole lines

abbrev pub with_lines : FieldValue → List (List ℕ) → FieldValue
with_lines f more = record { name = f.name; lines = f.lines ++ filter is_continuation more }

-- the last field with more lines
abbrev pub extended : List FieldValue → List (List ℕ) → List FieldValue
extended [] more = []
extended (f ∷ []) more = with_lines f more ∷ []
extended (f ∷ g ∷ fs) more = f ∷ extended (g ∷ fs) more

-- fields, with the lines that follow them
abbrev pub fields_with : List FieldValue → List (List ℕ) → List FieldValue
fields_with fs more = extended fs (own_lines more) ++ fields_of more

pub extended_none : (fs : List FieldValue) → extended fs [] ≡ fs
extended_none [] = refl
extended_none (f ∷ []) = ap (λ ls. record_of f.name ls ∷ []) (append-nil f.lines)
extended_none (f ∷ g ∷ fs) = ap (λ t. f ∷ t) (extended_none (g ∷ fs))

pub extended_twice : (fs : List FieldValue) (xs ys : List (List ℕ)) → extended (extended fs xs) ys ≡ extended fs (xs ++ ys)
extended_twice [] xs ys = refl
extended_twice (f ∷ []) xs ys = ap (λ ls. record_of f.name ls ∷ []) (append_assoc f.lines (filter is_continuation xs) (filter is_continuation ys) ∙ ap (λ t. f.lines ++ t) (sym (filter-append is_continuation xs ys)))
extended_twice (f ∷ g ∷ []) xs ys = ap (λ t. f ∷ t) (extended_twice (g ∷ []) xs ys)
extended_twice (f ∷ g ∷ h ∷ fs) xs ys = ap (λ t. f ∷ t) (extended_twice (g ∷ h ∷ fs) xs ys)

pub extended_push : (fs : List FieldValue) (f : FieldValue) (more : List (List ℕ)) → extended (fs ++ f ∷ []) more ≡ fs ++ with_lines f more ∷ []
extended_push [] f more = refl
extended_push (g ∷ []) f more = refl
extended_push (g ∷ h ∷ fs) f more = ap (λ t. g ∷ t) (extended_push (h ∷ fs) f more)

-- ---- fields at places

-- the first line of a field's bytes
pub raw_name : (raw : List ℕ) → (raw_field raw).name ≡ name_of (first_text raw)
raw_name [] = refl
raw_name (x ∷ xs) = ap (λ ls. (field_of_lines ls).name) (lines_step (x ∷ xs) (omega arith))

pub length-fields_at : (bytes starts : List ℕ) (end : ℕ) → length (fields_at bytes starts end) ≡ length starts
length-fields_at bytes [] end = refl
length-fields_at bytes (a ∷ []) end = refl
length-fields_at bytes (a ∷ b ∷ more) end = ap suc (length-fields_at bytes (b ∷ more) end)

-- ---- names

-- no byte passes
pub no_place : (p : ℕ → Bool) (xs : List ℕ) → None ≡ position p xs → length xs ≡ position_or_len p xs
no_place p xs none =
    elim (cases_lt (position_or_len p xs) (length xs)) [
      | inl lt ↦ let found : position p xs ≡ Some (position_or_len p xs) = rw (lt-ltb (position_or_len p xs) (length xs) lt) refl in absurd (cc)
      | inr ge ↦ let most : position_or_len p xs ≤ length xs = prefix_len-le-length (λ x. not (p x)) xs in omega arith
    ]

-- bytes that others begin with
pub record IsFront (xs ys : List ℕ) : Type 0 where
  pub back : List ℕ
  pub is : xs ++ back ≡ ys

front_same : (xs : List ℕ) → IsFront xs xs
front_same xs = record { back = []; is = append-nil xs }

front_if : (test : Bool) (xs ys : List ℕ) → IsFront xs ys → IsFront (cond test xs ys) ys
front_if true xs ys p = p
front_if false xs ys p = front_same ys

front_take : (k : ℕ) (xs : List ℕ) → IsFront (take k xs) xs
front_take k xs = record { back = drop k xs; is = take-append-drop k xs }

front_trans : (xs ys zs : List ℕ) → IsFront xs ys → IsFront ys zs → IsFront xs zs
front_trans xs ys zs p q = record { back = p.back ++ q.back; is = sym (append_assoc xs p.back q.back) ∙ ap (λ l. l ++ q.back) p.is ∙ q.is }

front_strip : (xs : List ℕ) → IsFront (strip_carriage_return xs) xs
front_strip xs = front_if (slice_index xs (length xs - 1) == 13) (take (length xs - 1) xs) xs (front_take (length xs - 1) xs)

pub front_first : (raw : List ℕ) → IsFront (first_text raw) raw
front_first raw =
    front_if (nat_lt (position_or_len is_newline raw) (length raw)) (strip_carriage_return (take (position_or_len is_newline raw) raw)) raw
    (front_trans (strip_carriage_return (take (position_or_len is_newline raw) raw)) (take (position_or_len is_newline raw) raw) raw (front_strip (take (position_or_len is_newline raw) raw)) (front_take (position_or_len is_newline raw) raw))

front_name : (raw : List ℕ) → IsFront (name_of (first_text raw)) raw
front_name raw = front_trans (name_of (first_text raw)) (first_text raw) raw (front_take (position_or_len is_colon (first_text raw)) (first_text raw)) (front_first raw)

alike_front : (written back name raw : List ℕ) → written ++ back ≡ raw → str_to_ascii_lowercase written ≡ str_to_ascii_lowercase name → is_alike raw name ≡ true
alike_front written back name [] e f = refl
alike_front written back [] (b ∷ raw) e f = refl
alike_front [] back (c ∷ name) (b ∷ raw) e f = absurd (cc)
alike_front (w ∷ written) back (c ∷ name) (b ∷ raw) e f =
    let first : w ≡ b = cc in
    let same : to_ascii_lowercase w ≡ to_ascii_lowercase c = cc in
    eq-eqb (to_ascii_lowercase b) (to_ascii_lowercase c) (ap to_ascii_lowercase (sym first) ∙ same)

-- a field of a name begins alike
pub alike_named : (raw name : List ℕ) → str_eq_ignore_ascii_case (raw_field raw).name name ≡ true → is_alike raw name ≡ true
alike_named raw name e =
    let written = (raw_field raw).name in
    let front : IsFront written raw = subst (λ (n : List ℕ). IsFront n raw) (sym (raw_name raw)) (front_name raw) in
    let same : str_to_ascii_lowercase written ≡ str_to_ascii_lowercase name = (bytes_eq-Decides (str_to_ascii_lowercase written) (str_to_ascii_lowercase name)).0 e in
    alike_front written front.back name raw front.is same

-- ---- the field of a number

pub get_or-fields_at : (bytes starts : List ℕ) (end i : ℕ) → i < length starts → slice_get (fields_at bytes starts end) i ≡ Some (field_between bytes (get_or starts i 0) (get_or starts (suc i) end))
get_or-fields_at bytes [] end i h = absurd (omega arith)
get_or-fields_at bytes (a ∷ []) end zero h = refl
get_or-fields_at bytes (a ∷ []) end (suc i) h = absurd (omega arith)
get_or-fields_at bytes (a ∷ b ∷ more) end zero h = refl
get_or-fields_at bytes (a ∷ b ∷ more) end (suc i) h = get_or-fields_at bytes (b ∷ more) end i (omega arith)

pub record RisesAt (starts : List ℕ) (end i : ℕ) : Type 0 where
  pub below : get_or starts i 0 < get_or starts (i + 1) end
  pub within : get_or starts (i + 1) end ≤ end

pub rises_at : (starts : List ℕ) (end i : ℕ) → IsRising starts end → i < length starts → RisesAt starts end i
rises_at starts end i rise h =
    elim (cases_lt (i + 1) (length starts)) [
      | inl lt ↦
          let at : get_or starts (i + 1) end ≡ get_or starts (i + 1) 0 = get_or_default starts (i + 1) end 0 lt in
          let next = rise.next i lt in
          let last = rise.within (i + 1) lt in
          record { below = omega arith; within = omega arith }
      | inr ge ↦
          let at : get_or starts (i + 1) end ≡ end = get_or-eq_default starts end ge in
          let last = rise.within i h in
          record { below = omega arith; within = omega arith }
    ]

-- ---- the first of a name

pub first_at : {X : Type 0} (p : X → Bool) (xs : List X) (x : X) (i : ℕ) → slice_get xs i ≡ Some x → find p (drop i xs) ≡ cond (p x) (Some x) (find p (drop (suc i) xs))
first_at p [] x i e = absurd (cc)
first_at p (y ∷ ys) x zero e = let same : y ≡ x = cc in ap (λ z. cond (p z) (Some z) (find p ys)) same
first_at p (y ∷ ys) x (suc i) e = first_at p ys x i e

-- no field has a name that does not begin alike
pub not_named : (raw name : List ℕ) (f : FieldValue) (alike : Bool) → raw_field raw ≡ f → alike ≡ false → alike ≡ is_alike raw name → alike ≡ str_eq_ignore_ascii_case f.name name
not_named raw name f alike is other at =
    elim (cases_Bool (str_eq_ignore_ascii_case f.name name)) [
      | inl same_name ↦
          let same : str_eq_ignore_ascii_case (raw_field raw).name name ≡ true = ap (λ k. str_eq_ignore_ascii_case k.name name) is ∙ same_name in
          let begins = alike_named raw name same in
          let both : false ≡ true = sym other ∙ at ∙ begins in
          absurd (cc)
      | inr differs ↦ other ∙ sym differs
    ]

-- the field of a number, as its bytes
pub field_found : (bytes starts : List ℕ) (end i start next : ℕ) (fields : List FieldValue) (f : FieldValue) → fields_at bytes starts end ≡ fields → i < length starts → start ≡ get_or starts i start → next ≡ get_or starts (i + 1) end → f ≡ raw_field (take (next - start) (drop start bytes)) → slice_get fields i ≡ Some f
field_found bytes starts end i start next fields f seen h s n is =
    let first : start ≡ get_or starts i 0 = s ∙ get_or_default starts i start 0 h in
    let last : next ≡ get_or starts (suc i) end = n ∙ ap (λ k. get_or starts k end) (let q : i + 1 ≡ suc i = omega arith in q) in
    ap (λ fs. slice_get fs i) (sym seen) ∙ get_or-fields_at bytes starts end i h ∙ ap Some (ap (λ a. field_between bytes a (get_or starts (suc i) end)) (sym first) ∙ ap (λ b. field_between bytes start b) (sym last) ∙ sym is)

-- one field further
pub first_further : (name : List ℕ) (fields : List FieldValue) (f : FieldValue) (i : ℕ) → slice_get fields i ≡ Some f → false ≡ str_eq_ignore_ascii_case f.name name → find (has_name name) (drop i fields) ≡ find (has_name name) (drop (i + 1) fields)
first_further name fields f i at other =
    first_at (has_name name) fields f i at ∙ ap (λ b. cond b (Some f) (find (has_name name) (drop (suc i) fields))) (sym other)
    ∙ ap (λ k. find (has_name name) (drop k fields)) (let q : suc i ≡ i + 1 = omega arith in q)

pub first_here : (name : List ℕ) (fields : List FieldValue) (f : FieldValue) (i : ℕ) → slice_get fields i ≡ Some f → true ≡ str_eq_ignore_ascii_case f.name name → find (has_name name) (drop i fields) ≡ Some f
first_here name fields f i at named =
    first_at (has_name name) fields f i at ∙ ap (λ b. cond b (Some f) (find (has_name name) (drop (suc i) fields))) (sym named)

-- ---- fields by their letters

-- a field of another name
record HasOtherName (name : List ℕ) (fields : List FieldValue) (i : ℕ) : Type 0 where
  field : FieldValue
  at : slice_get fields i ≡ Some field
  other : false ≡ str_eq_ignore_ascii_case field.name name

-- fields of other names do not change the search
others_skipped : (name : List ℕ) (fields : List FieldValue) (at n : ℕ) → ((k : ℕ) → at ≤ k → k < at + n → HasOtherName name fields k) → find (has_name name) (drop at fields) ≡ find (has_name name) (drop (at + n) fields)
others_skipped name fields at zero others = ap (λ k. find (has_name name) (drop k fields)) (let q : at ≡ at + 0 = omega arith in q)
others_skipped name fields at (suc n) others =
    let here = others at (omega arith) (omega arith) in
    first_further name fields here.field at here.at here.other
    ∙ others_skipped name fields (at + 1) n (λ k low high. others k (omega arith) (omega arith))
    ∙ ap (λ k. find (has_name name) (drop k fields)) (let q : at + 1 + n ≡ at + suc n = omega arith in q)

alike_at : (raw name : List ℕ) → 0 < length raw → is_alike raw name ≡ is_alike_first (get_or raw 0 0) name
alike_at [] name some = absurd (omega arith)
alike_at (first ∷ raw) name some = refl

-- a field begins with its letter
alike_letter : (bytes starts name : List ℕ) (end i : ℕ) → IsRising starts end → end ≤ length bytes → i < length starts →
    is_alike (take (get_or starts (suc i) end - get_or starts i 0) (drop (get_or starts i 0) bytes)) name ≡ is_alike_first (get_or (letters_at bytes starts) i 0) name
alike_letter bytes starts name end i rise within h =
    let a = get_or starts i 0 in
    let b = get_or starts (suc i) end in
    let next : get_or starts (suc i) end ≡ get_or starts (i + 1) end = ap (λ k. get_or starts k end) (let q : suc i ≡ i + 1 = omega arith in q) in
    let rises = rises_at starts end i rise h in
    let below = rises.below in
    let last = rises.within in
    let first : a ≡ get_or starts i end = sym (get_or_default starts i end 0 h) in
    let some : 0 < length (take (b - a) (drop a bytes)) = omega (arith, length-drop {A = ℕ}, length-take-le (b - a) (drop a bytes) (omega (arith, length-drop {A = ℕ}))) in
    let letter : get_or (take (b - a) (drop a bytes)) 0 0 ≡ get_or (letters_at bytes starts) i 0 =
    get_or-take (b - a) (drop a bytes) 0 0 (omega arith) ∙ get_or-drop a bytes 0 0 ∙ ap (λ k. get_or bytes k 0) (let q : a + 0 ≡ a = omega arith in q) ∙ sym (get_or-map (λ k. get_or bytes k 0) starts i 0 0 h) in
    alike_at (take (b - a) (drop a bytes)) name some ∙ ap (λ c. is_alike_first c name) letter

-- what a search of letters needs to know of the fields
pub record HasLetters (bytes starts letters : List ℕ) (end : ℕ) (fields : List FieldValue) : Type 0 where
  pub seen : fields_at bytes starts end ≡ fields
  pub rise : IsRising starts end
  pub within : end ≤ length bytes
  pub each : letters ≡ letters_at bytes starts

pub letters_count : (bytes starts letters : List ℕ) (end : ℕ) (fields : List FieldValue) → HasLetters bytes starts letters end fields → length letters ≡ length fields
letters_count bytes starts letters end fields has = ap length has.each ∙ length-map starts (slice_index bytes) ∙ sym (length-fields_at bytes starts end) ∙ ap length has.seen

-- the field of a number whose letter isn't the name's
other_at : (bytes starts letters name : List ℕ) (end : ℕ) (fields : List FieldValue) (i : ℕ) → HasLetters bytes starts letters end fields → i < length starts → is_alike_first (get_or letters i 0) name ≡ false → HasOtherName name fields i
other_at bytes starts letters name end fields i has h apart =
    let raw = take (get_or starts (suc i) end - get_or starts i 0) (drop (get_or starts i 0) bytes) in
    let alike : false ≡ is_alike raw name = sym apart ∙ ap (λ l. is_alike_first (get_or l i 0) name) has.each ∙ sym (alike_letter bytes starts name end i has.rise has.within h) in
    record {
      field = raw_field raw;
      at = ap (λ fs. slice_get fs i) (sym has.seen) ∙ get_or-fields_at bytes starts end i h;
      other = not_named raw name (raw_field raw) false refl refl alike;
    }

-- the search goes on after fields whose letters aren't the name's
pub letters_skipped : (bytes starts letters name : List ℕ) (end : ℕ) (fields : List FieldValue) (at n : ℕ) → HasLetters bytes starts letters end fields → at + n ≤ length fields
    → ((k : ℕ) → k < n → is_alike_first (get_or (take (length letters - at) (drop at letters)) k 0) name ≡ true → ⊥) → find (has_name name) (drop at fields) ≡ find (has_name name) (drop (at + n) fields)
letters_skipped bytes starts letters name end fields at n has fit none =
    let many : length fields ≡ length starts = ap length (sym has.seen) ∙ length-fields_at bytes starts end in
    others_skipped name fields at n (λ k low high.
    let place : at + (k - at) ≡ k = omega arith in
    let letter : get_or (take (length letters - at) (drop at letters)) (k - at) 0 ≡ get_or letters k 0 = ap (λ l. get_or l (k - at) 0) (take_rest letters at) ∙ get_or-drop at letters (k - at) 0 ∙ ap (λ j. get_or letters j 0) place in
    other_at bytes starts letters name end fields k has (omega arith) (false_from_ne_true _ (λ alike. none (k - at) (omega arith) (ap (λ c. is_alike_first c name) letter ∙ alike))))
